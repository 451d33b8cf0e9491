-- Bodies of rows in JSON or in CSV, the pieces that they are written in, and what a body that is written piece by piece holds inside.
use Rattle.std.specs.Prelude.{◌≡◌, ◌≤◌, ◌<◌, ◌^◌, ◌-◌, ℕ, ◌+◌, Bool, List, [], ◌∷◌, ◌++◌, Vec, codes, drop, get_or, length, map, max, min, if◌then◌else◌}
use Rattle.std.specs.List.{AllByRecursion, concat}
use Rattle.cell_types.specs.Value.{CellValue}
use Rattle.result_rows.specs.Rows.{RowsOf}
use Rattle.reply_text.specs.declared.cursor.BodyCursor.TheInside.{Inside}
use Rattle.reply_text.specs.declared.pieces.Pieces.{Pieces}
use Rattle.reply_text.specs.declared.pieces.Pieces.TheVariants.{Rows, Bytes}
use Rattle.reply_text.specs.declared.pieces.RowPieces.{RowPieces}
use Rattle.reply_text.specs.Body.{rows_text}
use Rattle.reply_text.specs.Csv.{csv_line, csv_text, row_line}
use Rattle.reply_text.specs.Json.{comma_before, json_count, json_row}
use Rattle.reply_text.specs.Waiting.{BodyRest}
use Rattle.reply_values.specs.Printed.{json_text}
use Rattle.reply_values.specs.Size.{told}

abbrev pub body_text : Bool → RowsOf → List ℕ
body_text json rows = if json then rows_text rows else csv_text rows

-- what comes before the rows: in CSV the line of the names
abbrev pub opening_text : Bool → RowsOf → List ℕ
opening_text json rows = if json then codes "{" ++ json_count rows.count ++ json_text (codes "value") ++ codes ":[" else csv_line rows.names

-- what comes before a value of a row: a comma, but for the first, and in JSON its name
abbrev pub value_head : Bool → List (List ℕ) → ℕ → List ℕ
value_head json names col = comma_before col ++ (if json then json_text (get_or names col []) ++ codes ":" else [])

-- what comes before each value of a row
pub record AreHeads {A : Type 0} (json : Bool) (names : List (List ℕ)) (heads : List (Vec ℕ A)) : Type 0 where
  pub count : length heads ≡ length names
  pub heads_are : (col : ℕ) → col < length names → get_or (map (λ head. head.items) heads) col [] ≡ value_head json names col

-- a row
abbrev pub printed_row : Bool → List (List ℕ) → List CellValue → List ℕ
printed_row json names row = if json then json_row names row else row_line row

-- a row, in JSON after a comma but for the first
abbrev pub row_piece : Bool → List (List ℕ) → ℕ → List CellValue → List ℕ
row_piece json names place row = comma_before (if json then place else 0) ++ printed_row json names row

-- the rows
abbrev pub row_pieces : Bool → List (List ℕ) → List (List CellValue) → List (List ℕ)
row_pieces json names [] = []
row_pieces json names (row ∷ rows) = row_piece json names 0 row ∷ map (row_piece json names 1) rows

-- all, with what comes after the rows
abbrev pub body_pieces : Bool → RowsOf → List (List ℕ)
body_pieces json rows = opening_text json rows ∷ (row_pieces json rows.names rows.rows ++ (if json then codes "]}" ∷ [] else []))

-- how long the longest is
abbrev pub longest_of : List (List ℕ) → ℕ
longest_of [] = 0
longest_of (piece ∷ pieces) = max (length piece) (longest_of pieces)

-- how many bytes they take in all, and the longest of them, as 64 bits tell it
pub record AreSizesOf (pieces : List (List ℕ)) (all longest : ℕ) : Type 0 where
  pub counted : all ≡ told (length (concat pieces))
  pub most : longest ≡ told (longest_of pieces)

-- a number of bytes that no piece passes, and at most 2 more than the longest of them has
pub record IsNearLongest (pieces : List (List ℕ)) (longest : ℕ) : Type 0 where
  pub least : longest_of pieces ≤ longest
  pub most : longest ≤ longest_of pieces + 2

-- bytes are one piece, where there are any
abbrev pub byte_pieces : List ℕ → List (List ℕ)
byte_pieces [] = []
byte_pieces (b ∷ bytes) = (b ∷ bytes) ∷ []

abbrev pub cursor_pieces : Pieces → List (List ℕ)
cursor_pieces (Rows body) = body_pieces body.json body.rows.rows
cursor_pieces (Bytes bytes) = byte_pieces bytes.items

-- what comes before rows and values is there, and the rows of the pieces before the one with that number were taken
pub record AreRowsAt (json : Bool) (body : RowPieces) (number : ℕ) : Type 0 where
  pub heads : AreHeads json body.rows.rows.names body.heads.items
  pub opening : body.opening.items ≡ opening_text json body.rows.rows
  pub taken : body.rows.taken ≡ min (number - 1) (length body.rows.rows.rows)

-- the piece with that number is the next
abbrev pub IsAt : Pieces → ℕ → Type 0
IsAt (Rows body) number = AreRowsAt body.json body number
IsAt (Bytes bytes) number = Unit {0}

-- the pieces are the same, and the one with that number is the next
pub record WritesOn (old new : Pieces) (number : ℕ) : Type 0 where
  pub same : cursor_pieces new ≡ cursor_pieces old
  pub next : IsAt new number

-- the pieces from the next on are left
abbrev pub rest_view : Inside → BodyRest
rest_view body = record { bytes = concat (drop body.next (cursor_pieces body.pieces)); longest = body.longest }

pub record IsAtPiece (body : Inside) : Type 0 where
  pub at : IsAt body.pieces body.next
  pub size : body.size ≡ length (concat (drop body.next (cursor_pieces body.pieces)))
  pub longest : AllByRecursion (λ piece. length piece ≤ body.longest) (cursor_pieces body.pieces)
  pub few : length (cursor_pieces body.pieces) < 2 ^ 64
