use Rattle.std.proofs.Common.{sym, ◌∙◌}
use Rattle.std.proofs.lemmas.Bool.{false≢true}
use Rattle.std.proofs.lemmas.Result.{err_from_is_err_and}
use Rattle.odata_parse.specs.Options.{key_single, key_named}
use Rattle.odata_parse.proofs.OptionLemmas.{key_by_pairs, key_by_value}
use Rattle.odata_parse.proofs.ParsedLemmas.{parsed_as, parsed_not}
use Rattle.odata_parse.proofs.options.parse_key.Goals as goal

pub returns-in_err-pairs : goal.returns-in_err-pairs
returns-in_err-pairs c =
    let p = err_from_is_err_and c.from_residual.result c.from_residual.ensures.1 in
    rw (p.1, p.2) (parsed_not _ _ _ _ _ _ _ c.in_err-pairs.ensures (λ key r. let q = key_by_pairs (c.names_columns.ensures.0 c.if-names_columns.true) r in (q.0, q.1)))

pub returns-then-names_columns : goal.returns-then-names_columns
returns-then-names_columns c = parsed_as _ _ _ _ _ _ _ _ c.in_ok-pairs.ensures (λ r. key_named r)

pub returns-in_err-value : goal.returns-in_err-value
returns-in_err-value c =
    let p = err_from_is_err_and c.from_residual-in_err-value.result c.from_residual-in_err-value.ensures.1 in
    rw (p.1, p.2) (parsed_not _ _ _ _ _ _ _ c.in_err-value.ensures (λ key r. let q = key_by_value (λ e. false≢true (sym c.if-names_columns.false ∙ c.names_columns.ensures.1 e)) r in (q.0, q.1)))

pub returns : goal.returns
returns c = parsed_as _ _ _ _ _ _ _ _ c.in_ok-value.ensures (λ r. key_single r)
