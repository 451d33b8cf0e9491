use Rattle.std.specs.List.{list_any}
use Rattle.csv_records.specs.Written.{is_special}
use Rattle.csv_records.proofs.WrittenLemmas.{are_rows, content_is}
use Rattle.csv_records.proofs.laws.rows_read_back.Goals as goal

pub returns : goal.returns
returns c = record { rows = are_rows; cell = λ cell. content_is cell (list_any is_special cell) }
