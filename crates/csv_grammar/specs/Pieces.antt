-- A text and a file that are read in pieces (RFC 4180, section 2, rules 1 and 2).
use Rattle.std.specs.Prelude.{◌≡◌, ◌≢◌, ℕ, ◌+◌, ◌-◌, List, [], ◌∷◌, ◌++◌, length, map, IsUtf8, Some, slice_get}
use Rattle.std.specs.List.{flat_map, AllByRecursion}
use Rattle.csv_grammar.specs.Bytes.{line_feed}
use Rattle.csv_grammar.specs.Records.{Field, Line, print_line, IsRecord, AreRecords}
use Rattle.csv_grammar.specs.Faults.{Cause, unfinished}
use Rattle.csv_grammar.specs.Files.{not_utf8, text_of, IsFileFault, IsFirstOther, IsMalformed, IsTable, IsUneven}

-- the bytes are lines, and these are the records of the lines
pub record AreLines (bytes : List ℕ) (records : List (List Field)) : Type 0 where
  pub lines : List Line
  pub valid : AllByRecursion (λ line. IsRecord line.fields) lines
  pub printed : bytes ≡ flat_map print_line lines
  pub are : records ≡ map (λ line. line.fields) lines

-- A file is read in windows. Its first lines, a header and rows, are known. What follows them is read after another line of as many fields, so that it is a file of
-- its own: what that file is, the whole file is too.
pub record InWindows : Type 0 where
  -- records are lines if the file ends in LF
  pub lines : (bytes : List ℕ) (records : List (List Field)) → AreRecords (text_of bytes) records → slice_get bytes (length bytes - 1) ≡ Some line_feed
      → AreLines (text_of bytes) records
  pub table : (front line more : List ℕ) (header other first : List Field) (rows others : List (List Field)) → AreLines (text_of front) (header ∷ rows)
      → AreLines (text_of line) (other ∷ []) → length other ≡ length header → IsTable front header rows → IsTable (line ++ more) first others
      → (first ≡ other) × IsTable (front ++ more) header (rows ++ others)
  pub malformed : (front line more : List ℕ) (header other : List Field) (rows : List (List Field)) (cause : Cause) (place : ℕ) → AreLines (text_of front) (header ∷ rows)
      → AreLines (text_of line) (other ∷ []) → IsUtf8 front → IsMalformed (line ++ more) cause place
      → (n : ℕ) × (place ≡ length line + n) × IsMalformed (front ++ more) cause (length front + n)
  pub uneven : (front line more : List ℕ) (header other : List Field) (rows : List (List Field)) (row : ℕ) → AreLines (text_of front) (header ∷ rows)
      → AreLines (text_of line) (other ∷ []) → length other ≡ length header → IsTable front header rows → IsUneven (line ++ more) row
      → IsUneven (front ++ more) (length rows + row)
  -- a row of another width stays the first, if records follow
  pub uneven_before : (front line more : List ℕ) (header other : List Field) (rows others : List (List Field)) (row : ℕ) → AreLines (text_of front) (header ∷ rows)
      → AreLines (text_of line) (other ∷ []) → IsFirstOther header rows row → IsUtf8 front → IsUtf8 (line ++ more) → AreRecords (text_of (line ++ more)) others
      → IsUneven (front ++ more) row
  -- a text with no continuation in the grammar has none with more
  pub malformed_before : (front line more : List ℕ) (other : List Field) (cause : Cause) (place : ℕ) → slice_get front (length front - 1) ≡ Some line_feed
      → AreLines (text_of line) (other ∷ []) → cause ≢ unfinished → IsMalformed front cause place → IsUtf8 (line ++ more) → IsMalformed (front ++ more) cause place
  pub bytes : (front line more : List ℕ) (at : ℕ) → IsUtf8 front → IsUtf8 line → IsFileFault (line ++ more) (not_utf8 at)
      → (n : ℕ) × (at ≡ length line + n) × IsFileFault (front ++ more) (not_utf8 (length front + n))
  -- what is wrong with bytes that end in LF is wrong whatever follows them
  pub bytes_within : (front more : List ℕ) (at : ℕ) → slice_get front (length front - 1) ≡ Some line_feed → IsFileFault front (not_utf8 at)
      → IsFileFault (front ++ more) (not_utf8 at)
