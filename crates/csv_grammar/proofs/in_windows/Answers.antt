use Rattle.csv_grammar.proofs.Windows.{file_lines, table_joined, malformed_joined, uneven_joined, uneven_stays, bytes_joined}
use Rattle.csv_grammar.proofs.FaultStays.{malformed_before}
use Rattle.csv_grammar.proofs.Utf8Pieces.{bytes_within}
use Rattle.csv_grammar.proofs.in_windows.Goals as goal

pub returns : goal.returns
returns c = record { lines = file_lines; table = table_joined; malformed = malformed_joined; uneven = uneven_joined; uneven_before = uneven_stays; bytes = bytes_joined; bytes_within = bytes_within; malformed_before = malformed_before }
