use Rattle.std.proofs.Common.{refl}
use Rattle.cell_types.specs.Integer.{integer_of}
use Rattle.cell_types.specs.Value.{value_eq}
use Rattle.cell_types.specs.WhiteSpace.{normal_text, words}
use Rattle.table_store.proofs.laws.worked_tables.Goals as goal

pub returns : goal.returns
unfolding integer_of value_eq normal_text words
returns c = record {
  cell_before_key = λ bytes limit small is. (bytes, (refl, small), record { header = _; records = _; is = is; header_matches = refl; first = refl });
  null_before_twice = λ bytes limit small is. (
    bytes,
    (refl, small),
    record {
      table = _;
      cells = record { header = _; records = _; is = is; header_matches = refl; of_schema = refl; values = refl };
      first = refl;
    },
  );
  twice = λ bytes limit small is. (
    bytes,
    (refl, small),
    record {
      table = _;
      cells = record { header = _; records = _; is = is; header_matches = refl; of_schema = refl; values = refl };
      whole = refl;
      first = refl;
    },
  );
  first_file = refl;
  no_file = refl;
}
