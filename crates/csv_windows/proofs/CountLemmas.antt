-- Crates above may cite this file: no file has more rows than bytes.
use Rattle.std.proofs.Common.{◌≡◌, ℕ, ◌+◌, ◌<◌, ◌≤◌, List, [], ◌∷◌, ◌++◌, length, length-append, map, Option, None, Some, IfSome, option_to_list, ap, arith}
use Rattle.std.specs.List.{flat_map}
use Rattle.std.proofs.lemmas.List.{length-drop, length-map}
use Rattle.csv_grammar.specs.Files.{IsTable, mark_len, text_of}
use Rattle.csv_grammar.specs.Records.{Field, IsLast, Line, LineBreak, crlf, lf, print_break, print_last, print_line, print_record, print_text, AreRecords}
use Rattle.csv_grammar.specs.Raw.{RawField, RawTable, field_of}
use Rattle.csv_index.specs.Index.{IsRawTable}

break-some : (end : LineBreak) → 0 < length (print_break end)
break-some crlf = omega arith
break-some lf = omega arith

-- each line has its line break
lines-count : (lines : List Line) → length lines ≤ length (flat_map print_line lines)
lines-count [] = omega arith
lines-count (line ∷ lines) =
    let size = length-append (print_line line) (flat_map print_line lines) in
    let front = length-append (print_record line.fields) (print_break line.end) in
    omega (arith, size, front, break-some line.end, lines-count lines)

-- a last record with no line break has a byte
last-count : (last : Option (List Field)) → IfSome last IsLast → length (option_to_list last) ≤ length (print_last last)
last-count None is = omega arith
last-count (Some fields) is = omega (arith, is.1)

-- the header is one more record than the rows
pub records-count : (bytes : List ℕ) (header : List Field) (rows : List (List Field)) → AreRecords (text_of bytes) (header ∷ rows) → length rows < length bytes
records-count bytes header rows are =
    let tree = are.tree in
    let fields_of : Line → List Field = λ line. line.fields in
    let lines = flat_map print_line tree.lines in
    let size = length-append lines (print_last tree.last) in
    let whole : length (print_text tree) ≤ length bytes = omega (arith, ap length are.printed, length-drop (mark_len bytes) bytes) in
    let records = length-append (map fields_of tree.lines) (option_to_list tree.last) in
    let count = length-map tree.lines fields_of in
    omega (arith, ap length are.are, whole, size, records, count, lines-count tree.lines, last-count tree.last are.valid.last)

table-count : (bytes : List ℕ) (header : List Field) (rows : List (List Field)) → IsTable bytes header rows → length rows < length bytes
table-count bytes header rows is = records-count bytes header rows is.are

-- the rows of a table whose file is short
pub rows-within : (bytes : List ℕ) (file : RawTable) → IsRawTable bytes file → length file.rows ≤ length bytes
rows-within bytes file is =
    omega (arith, table-count bytes (map field_of file.header) (map (map field_of) file.rows) is.is, length-map file.rows (map field_of))
