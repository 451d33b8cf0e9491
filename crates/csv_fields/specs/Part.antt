-- The rows of a part of a file, whose fields stand between places: the comma or the line break after each field.
use Rattle.std.specs.Prelude.{◌≡◌, ℕ, ◌+◌, ◌*◌, ◌<◌, ◌≤◌, true, List, length, map, take, drop, slice_index, slice_range}
use Rattle.std.specs.Str.{is_utf8, IsCharBoundary}
use Rattle.csv_grammar.specs.Raw.{RawField}
use Rattle.csv_fields.specs.Between.{cut, raw_between}
use Rattle.csv_fields.specs.Rows.{rows_cut}
use Rattle.csv_fields.specs.declared.part.Part.TheInside.{Inside}

-- how many fields each row has, and the rows
pub record PartOf : Type 0 where
  pub width : ℕ
  pub rows : List (List RawField)

-- the first `count` fields after the first of the places, each of which ends at the next
abbrev pub fields_between : List ℕ → List ℕ → ℕ → List RawField
fields_between bytes places count = map raw_between (cut (slice_index places 0 + 1) (take count (drop 1 places)) bytes)

-- the first `rows` rows of them
abbrev pub part_between : List ℕ → ℕ → ℕ → List ℕ → PartOf
part_between bytes width rows places = record { width = width; rows = rows_cut rows width (fields_between bytes places (rows * width)) }

abbrev pub part_view : Inside → PartOf
part_view p = part_between p.text.now p.width p.rows p.places.now

-- a field stands between two places: it is text, and no character is cut
pub record StandsBetween (bytes : List ℕ) (place next : ℕ) : Type 0 where
  pub order : place + 1 ≤ next
  pub size : next ≤ length bytes
  pub start : IsCharBoundary bytes (place + 1)
  pub end : IsCharBoundary bytes next
  pub utf8 : is_utf8 (raw_between (slice_range bytes (place + 1) next)).bytes ≡ true

-- so do `count` fields, each between a place and the next
pub record StandBetween (bytes places : List ℕ) (count : ℕ) : Type 0 where
  pub within : count < length places
  pub each : (n : ℕ) → n < count → StandsBetween bytes (slice_index places n) (slice_index places (n + 1))

abbrev pub IsPart : Inside → Type 0
IsPart p = StandBetween p.text.now p.places.now (p.rows * p.width)
