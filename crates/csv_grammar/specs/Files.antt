-- A file is a text of records of one width, the first of them the header (RFC 4180, section 2, rules 3 and 4), after a byte
-- order mark that counts for nothing. Places count from the file's first byte, the mark included.
use Rattle.std.specs.Prelude.{◌≡◌, ◌≢◌, ℕ, ◌+◌, ◌<◌, List, [], ◌∷◌, length, drop, if◌then◌else◌, IsUtf8, slice_get, Some, option_map}
use Rattle.std.specs.List.{starts_with, AllByRecursion}
use Rattle.std.specs.Prelude.{nat_eq}
use Rattle.std.specs.Str.Lossy.{utf8_valid_len}
use Rattle.csv_grammar.specs.Bytes.{byte_order_mark}
use Rattle.csv_grammar.specs.Records.{Field, AreRecords}
use Rattle.csv_grammar.specs.Faults.{Cause, HasFault}

-- how many bytes the byte order mark at the front takes
abbrev pub mark_len : List ℕ → ℕ
mark_len bytes = if starts_with nat_eq bytes byte_order_mark then length byte_order_mark else 0

-- the file without that mark
abbrev pub text_of : List ℕ → List ℕ
text_of bytes = drop (mark_len bytes) bytes

-- `width` fields
abbrev pub HasWidth : ℕ → List Field → Type 0
HasWidth width fields = length fields ≡ width

-- the file is this header and these rows
pub record IsTable (bytes : List ℕ) (header : List Field) (rows : List (List Field)) : Type 0 where
  pub utf8 : IsUtf8 bytes
  pub are : AreRecords (text_of bytes) (header ∷ rows)
  pub widths : AllByRecursion (HasWidth (length header)) rows

-- what is wrong with a file
pub data FileCause : Type 0 where
  -- the length of the longest front that is UTF-8
  not_utf8 : ℕ → FileCause
  -- the text has no records, and why, and at which place
  malformed : Cause → ℕ → FileCause
  -- the text has no record at all
  no_header : FileCause
  -- the first row, counted from 0, that has not as many fields as the header
  wrong_width : ℕ → FileCause

-- the row is the first that has not as many fields as the header
pub record IsFirstOther (header : List Field) (rows : List (List Field)) (row : ℕ) : Type 0 where
  pub earlier : (k : ℕ) → k < row → option_map length (slice_get rows k) ≡ Some (length header)
  pub width : ℕ
  pub found : option_map length (slice_get rows row) ≡ Some width
  pub other : width ≢ length header

-- the bytes are UTF-8, and the text has a fault there
pub record IsMalformed (bytes : List ℕ) (cause : Cause) (place : ℕ) : Type 0 where
  pub utf8 : IsUtf8 bytes
  pub in_text : ℕ
  pub fault : HasFault (text_of bytes) in_text cause
  pub counted : place ≡ mark_len bytes + in_text

-- the bytes are UTF-8, and the text is records of which the row is the first of another width
pub record IsUneven (bytes : List ℕ) (row : ℕ) : Type 0 where
  pub utf8 : IsUtf8 bytes
  pub header : List Field
  pub rows : List (List Field)
  pub are : AreRecords (text_of bytes) (header ∷ rows)
  pub first : IsFirstOther header rows row

-- this is the first thing wrong with the file: in this order, the bytes, the grammar, the header, the widths
abbrev pub IsFileFault : List ℕ → FileCause → Type 0
IsFileFault bytes (not_utf8 at) = ¬ (IsUtf8 bytes) × (at ≡ utf8_valid_len bytes)
IsFileFault bytes (malformed cause place) = IsMalformed bytes cause place
IsFileFault bytes no_header = IsUtf8 bytes × AreRecords (text_of bytes) []
IsFileFault bytes (wrong_width row) = IsUneven bytes row
