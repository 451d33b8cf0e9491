-- The records of the rows are records of the body, and a text has one list of records.
use Rattle.reply_text.specs.Csv.{csv_text}
use Rattle.reply_text.proofs.RecordLemmas.{records_of_rows, rows_are_records}
use Rattle.reply_text.proofs.laws.csv_reads_back.Goals as goal

pub returns : goal.returns
returns c = record {
  some = λ rows lines. (records_of_rows rows, rows_are_records c.values_read_back.ensures rows lines);
  each = λ rows records lines are. c.one_list_of_records.ensures (csv_text rows) records (records_of_rows rows) are (rows_are_records c.values_read_back.ensures rows lines);
}
