-- What is known of the first lines of a file, and what the next ones say with it. These are read after a line of as many empty fields as the header has, so that they
-- are a file of their own, with the widths and the rows of the whole file.
use Rattle.std.specs.Prelude.{◌≡◌, ◌≢◌, ℕ, zero, suc, ◌+◌, ◌-◌, ◌^◌, ◌<◌, ◌≤◌, List, [], ◌∷◌, ◌++◌, length, take, replicate, slice_get, Option, None, Some, IfSome}
use Rattle.csv_grammar.specs.Bytes.{comma, line_feed}
use Rattle.csv_grammar.specs.Faults.{unfinished}
use Rattle.csv_grammar.specs.Files.{FileCause, not_utf8, malformed, no_header, wrong_width, IsFileFault, IsMalformed, IsUneven}
use Rattle.csv_grammar.specs.Raw.{RawField, RawTable}
use Rattle.csv_index.specs.Index.{IsRawTable}
use Rattle.csv_index.specs.Fault.{text_cause}
use Rattle.csv_index.specs.declared.fault.TextFault.{TextFault}
use Rattle.csv_index.specs.declared.fault.TextFault.TheVariants.{Width}
use Rattle.csv_windows.specs.declared.front.FirstLines.{FirstLines}
use Rattle.csv_windows.specs.declared.front.FirstLines.TheVariants.{Nothing, Table, Faulty}
use Rattle.csv_windows.specs.declared.front.TableSize.{TableSize}
use Rattle.csv_windows.specs.declared.window.Front.{Front}
use Rattle.csv_windows.specs.declared.window.Piece.{Piece}
use Rattle.csv_windows.specs.declared.window.Piece.TheVariants.{Rows, Fault, Short}

-- a line of that many empty fields; before the first line of a file there is none
abbrev pub blank_line : ℕ → List ℕ
blank_line zero = []
blank_line (suc commas) = replicate commas comma ++ line_feed ∷ []

-- no file has more bytes
abbrev pub most_bytes : ℕ
most_bytes = 2 ^ 31

-- the table has that size
pub record HasSize (raw : RawTable) (size : TableSize) : Type 0 where
  pub width : size.width ≡ length raw.header
  pub rows : size.rows ≡ length raw.rows

-- the bytes have this fault, and text that follows them does not take it away
abbrev pub IsLastingFault : List ℕ → Option FileCause → Type 0
IsLastingFault bytes None = ⊥
IsLastingFault bytes (Some (not_utf8 at)) = ⊥
IsLastingFault bytes (Some (malformed cause place)) = IsMalformed bytes cause place × (cause ≢ unfinished)
IsLastingFault bytes (Some no_header) = ⊥
IsLastingFault bytes (Some (wrong_width row)) = IsUneven bytes row

-- the first lines of a file are so
abbrev pub AreFirstLines : List ℕ → FirstLines → Type 0
AreFirstLines bytes Nothing = bytes ≡ []
AreFirstLines bytes (Table size) = (raw : RawTable) × IsRawTable bytes raw × HasSize raw size
AreFirstLines bytes (Faulty fault) = IsLastingFault bytes (text_cause fault)

abbrev pub EndsInFeed : List ℕ → Type 0
EndsInFeed bytes = slice_get bytes (length bytes - 1) ≡ Some line_feed

-- if there are any, they are lines
abbrev pub EndSo : List ℕ → FirstLines → Type 0
EndSo bytes Nothing = Unit {0}
EndSo bytes (Table size) = EndsInFeed bytes
EndSo bytes (Faulty fault) = EndsInFeed bytes

-- they are no table
abbrev pub AreFaulty : FirstLines → Type 0
AreFaulty Nothing = ⊥
AreFaulty (Table size) = ⊥
AreFaulty (Faulty fault) = Unit {0}

-- how many empty fields the line before the next ones has
abbrev pub line_width : FirstLines → ℕ
line_width Nothing = 0
line_width (Table size) = size.width
line_width (Faulty fault) = 1

-- a piece of a file follows its first lines, and what is read after a line of empty fields
pub record Follows (front piece : List ℕ) (lines : FirstLines) : Type 0 where
  pub read : AreFirstLines front lines
  pub ends : EndSo front lines
  pub short : length front + length piece ≤ most_bytes

abbrev pub after_line : FirstLines → List ℕ → List ℕ
after_line lines piece = blank_line (line_width lines) ++ piece

-- is a table
pub record FollowsTable (front piece : List ℕ) (lines : FirstLines) (file : RawTable) : Type 0 where
  pub follows : Follows front piece lines
  pub is : IsRawTable (after_line lines piece) file

-- has this first fault
pub record FollowsFault (front piece : List ℕ) (lines : FirstLines) (fault : TextFault) : Type 0 where
  pub follows : Follows front piece lines
  pub is : IfSome (text_cause fault) (IsFileFault (after_line lines piece))

-- if this is the fault of a text, more of it does not take it away; nor of bytes that are not UTF-8
abbrev pub MayLast : Option FileCause → Type 0
MayLast None = Unit {0}
MayLast (Some (not_utf8 at)) = Unit {0}
MayLast (Some (malformed cause place)) = cause ≢ unfinished
MayLast (Some no_header) = ⊥
MayLast (Some (wrong_width row)) = Unit {0}

-- it is of the text, not of its bytes or of its rows
abbrev pub IsOfText : Option FileCause → Type 0
IsOfText None = ⊥
IsOfText (Some (not_utf8 at)) = ⊥
IsOfText (Some (malformed cause place)) = Unit {0}
IsOfText (Some no_header) = Unit {0}
IsOfText (Some (wrong_width row)) = ⊥

-- the fault of a text that is no records
abbrev pub malformed_in : FirstLines → Option TextFault
malformed_in Nothing = None
malformed_in (Table size) = None
malformed_in (Faulty (Width row)) = None
malformed_in (Faulty fault) = Some fault

-- the cause as the whole file has it: of the bytes that were read, the first `line` are a line of empty fields, and the others follow `front` bytes of the file
abbrev pub moved_cause : ℕ → ℕ → Option FileCause → Option FileCause
moved_cause line front None = None
moved_cause line front (Some (not_utf8 at)) = Some (not_utf8 (front + (at - line)))
moved_cause line front (Some (malformed cause at)) = Some (malformed cause (front + (at - line)))
moved_cause line front (Some no_header) = Some no_header
moved_cause line front (Some (wrong_width row)) = Some (wrong_width row)

-- a place is past the line
abbrev pub IsPastLine : ℕ → Option FileCause → Type 0
IsPastLine line None = Unit {0}
IsPastLine line (Some (not_utf8 at)) = (line ≤ at) × (at ≤ 2 ^ 62)
IsPastLine line (Some (malformed cause at)) = (line ≤ at) × (at ≤ 2 ^ 62)
IsPastLine line (Some no_header) = Unit {0}
IsPastLine line (Some (wrong_width row)) = Unit {0}

-- more rows of a table
abbrev pub with_rows : RawTable → List (List RawField) → RawTable
with_rows raw rows = record raw { rows = raw.rows ++ rows }

-- ---- the windows

-- the first lines of a file are read
pub record BeginsFile (bytes : List ℕ) (front : Front) : Type 0 where
  pub size : front.len ≡ length bytes
  pub are : AreFirstLines bytes front.lines
  pub ends : EndSo bytes front.lines

-- and the window has the next bytes
pub record IsBeforeWindow (bytes window : List ℕ) (front : Front) : Type 0 where
  pub begins : BeginsFile bytes front
  pub short : length bytes + length window ≤ most_bytes

-- with the rows of a piece the whole is a table, of which that holds: the piece is all of it if nothing is before, and else its rows follow those of the table before
abbrev pub Continues : List ℕ → List ℕ → FirstLines → RawTable → (RawTable → Type 0) → Type 0
Continues bytes whole Nothing file So = IsRawTable whole file × So file
Continues bytes whole (Table size) file So = (raw : RawTable) → IsRawTable bytes raw → HasSize raw size
    → (length file.header ≡ length raw.header) × IsRawTable whole (with_rows raw file.rows) × So (with_rows raw file.rows)
Continues bytes whole (Faulty fault) file So = ⊥

-- lines of a table of that size
abbrev pub HasLines : FirstLines → RawTable → Type 0
HasLines Nothing raw = ⊥
HasLines (Table size) raw = HasSize raw size
HasLines (Faulty fault) raw = ⊥

-- and the whole has that size
abbrev pub IsSizeWith : List ℕ → List ℕ → FirstLines → RawTable → TableSize → Type 0
IsSizeWith bytes whole lines file size = Continues bytes whole lines file (HasLines (Table size)) × AreFirstLines whole (Table size)

-- the front has that length, and more lines are a table with the first ones, or none; or the first ones are none
abbrev pub IsPieceOf : List ℕ → List ℕ → FirstLines → ℕ → Piece → Type 0
IsPieceOf bytes whole lines len (Rows new file) = (new.len ≡ len) × AreFirstLines whole new.lines × Continues bytes whole lines file (HasLines new.lines)
IsPieceOf bytes whole lines len (Fault new) = (new.len ≡ len) × AreFirstLines whole new.lines × AreFaulty new.lines
IsPieceOf bytes whole lines len Short = ⊥

-- the front has that length, with a fault that lasts
abbrev pub IsLasting : List ℕ → ℕ → Piece → Type 0
IsLasting whole len (Rows new file) = ⊥
IsLasting whole len (Fault new) = (new.len ≡ len) × AreFirstLines whole new.lines × AreFaulty new.lines
IsLasting whole len Short = ⊥

-- lines of the window are read
pub record ReadsLines (bytes window : List ℕ) (new : Front) : Type 0 where
  pub taken : ℕ
  pub some : 0 < taken
  pub within : taken ≤ length window
  pub front : BeginsFile (bytes ++ take taken window) new

-- so are these, and they are rows; or lines with which the file is no table; or nothing is read
abbrev pub ReadsPiece : List ℕ → List ℕ → FirstLines → Piece → Type 0
ReadsPiece bytes window lines (Rows new file) =
    (reads : ReadsLines bytes window new) × Continues bytes (bytes ++ take reads.taken window) lines file (HasLines new.lines)
ReadsPiece bytes window lines (Fault new) = ReadsLines bytes window new × AreFaulty new.lines
ReadsPiece bytes window lines Short = Unit {0}
