use Rattle.std.proofs.Common.{[], ◌∷◌, refl, arith}
use Rattle.std.specs.Prelude.{Some, None, codes}
use Rattle.csv_grammar.specs.Records.{unquoted, quoted, lf}
use Rattle.csv_records.specs.Worked.{WorkedExchanges}
use Rattle.csv_records.specs.Written.{row_bytes}
use Rattle.csv_records.proofs.laws.worked_exchanges.Goals as goal

worked : WorkedExchanges
unfolding row_bytes
worked = record {
  quoted = record {
    records = (quoted (codes "a,b") ∷ unquoted (codes "c") ∷ []) ∷ [];
    are = record {
      tree = record { lines = record { fields = quoted (codes "a,b") ∷ unquoted (codes "c") ∷ []; end = lf } ∷ []; last = None };
      valid = record { lines = ((omega arith, (tt, ((refl, tt), tt))), tt); last = tt };
      printed = refl;
      are = refl;
    };
    cells_are = refl;
  };
  quoted_out = refl;
  comma = record {
    records = (unquoted (codes "1;5") ∷ unquoted (codes "c") ∷ []) ∷ [];
    are = record {
      tree = record { lines = []; last = Some (unquoted (codes "1;5") ∷ unquoted (codes "c") ∷ []) };
      valid = record { lines = tt; last = ((omega arith, ((refl, (refl, (refl, tt))), ((refl, tt), tt))), omega arith) };
      printed = refl;
      are = refl;
    };
    cells_are = refl;
  };
  comma_out = refl;
}

pub returns : goal.returns
returns c = worked
