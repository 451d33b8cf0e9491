-- What a text says is one result.
use Rattle.std.proofs.Common.{◌≡◌, ◌⊎◌, List, Result, Ok, Err, inl, inr, refl, sym, ◌∙◌}
use Rattle.csvw_meta.specs.Fault.{MetaCause}
use Rattle.csvw_meta.specs.Schema.{SchemaOf}
use Rattle.csvw_meta.specs.Document.{schemas_of}
use Rattle.csvw_meta.proofs.laws.schemas_or_cause.Goals as goal

-- a result is one of the two
either : (r : Result (List SchemaOf) MetaCause) → ((schemas : List SchemaOf) × (r ≡ Ok schemas)) ⊎ ((cause : MetaCause) × (r ≡ Err cause))
either (Ok schemas) = inl (schemas, refl)
either (Err cause) = inr (cause, refl)

pub returns : goal.returns
returns c = record {
  one = λ limits bytes. either (schemas_of limits bytes);
  only = λ limits bytes schemas cause ok err. let both : Ok schemas ≡ Err cause = sym ok ∙ err in cc;
}
