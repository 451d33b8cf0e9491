-- The rows of a file by parts: those of one part, and those that are left after it.
use Rattle.std.specs.Prelude.{◌≡◌, ℕ, ◌+◌, ◌*◌, ◌≤◌, List, [], ◌++◌, length, map, take, drop, min, slice_index}
use Rattle.csv_grammar.specs.Raw.{RawField}
use Rattle.csv_fields.specs.Between.{cut, raw_between}
use Rattle.csv_index.specs.Fields.{AreLeft}
use Rattle.csv_fields.specs.Rows.{rows_cut}
use Rattle.csv_index.specs.declared.parts.Parts.TheInside.{Inside}
use Rattle.csv_index.specs.declared.parts.TheConstants.{PART_ROWS}

-- the file, how many fields each row has, the rows of a part, and those that are left after it
pub record PartsOf : Type 0 where
  pub bytes : List ℕ
  pub width : ℕ
  pub part : List (List RawField)
  pub left : List (List RawField)

-- all rows are left
abbrev pub parts_of : List ℕ → ℕ → List (List RawField) → PartsOf
parts_of bytes width rows = record { bytes = bytes; width = width; part = []; left = rows }

-- the next part
abbrev pub next_part : PartsOf → PartsOf
next_part parts = record parts { part = take PART_ROWS parts.left; left = drop PART_ROWS parts.left }

-- where the first field of the part begins: past the place before it
abbrev pub part_start : Inside → ℕ
part_start p = slice_index p.places.items 0 + 1

-- the places after the fields of the part, and then after those that are left
abbrev pub part_ends : Inside → List ℕ
part_ends p = take (p.rows * p.width) (drop 1 p.places.items) ++ p.ends

-- the fields between these places
abbrev pub part_fields : Inside → List RawField
part_fields p = map raw_between (cut (part_start p) (part_ends p) p.text.now)

abbrev pub parts_view : Inside → PartsOf
parts_view p = record {
  bytes = p.text.now;
  width = p.width;
  part = rows_cut p.rows p.width (part_fields p);
  left = rows_cut p.left p.width (drop (p.rows * p.width) (part_fields p));
}

-- the places part the text, each row is whole, and there is room for the places of the next part
pub record AreParts (p : Inside) : Type 0 where
  pub places : p.rows * p.width + 1 ≤ length p.places.items
  pub room : min p.left PART_ROWS * p.width + 1 ≤ length p.places.items
  pub ends : AreLeft (part_start p) (part_ends p) p.text.now
  pub count : length p.ends ≡ p.left * p.width
