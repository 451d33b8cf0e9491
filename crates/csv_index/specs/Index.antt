-- A table as it stands in its file, and what an index knows of that: the structural places, which are the comma or the LF after each
-- field, or the end of the file (RFC 4180, section 2).
use Rattle.std.specs.Prelude.{◌≡◌, ℕ, zero, suc, ◌+◌, ◌*◌, ◌<◌, ◌≤◌, true, List, [], ◌∷◌, length, map, take, drop, slice_index}
use Rattle.std.specs.List.{flat_map, AllByRecursion}
use Rattle.std.specs.Str.{is_utf8, IsCharBoundary}
use Rattle.csv_grammar.specs.Records.{Field}
use Rattle.csv_grammar.specs.Files.{IsTable}
use Rattle.csv_grammar.specs.Raw.{RawField, RawTable, raw_of, field_of}
use Rattle.csv_fields.specs.Between.{cut, raw_between}
use Rattle.csv_fields.specs.Rows.{rows_cut}

-- how a header and rows stand
abbrev pub raw_table : List Field → List (List Field) → RawTable
raw_table header rows = record { header = map raw_of header; rows = map (map raw_of) rows }

-- the file is the table of the fields that stand so, and they do stand so in it
pub record IsRawTable (bytes : List ℕ) (table : RawTable) : Type 0 where
  pub is : IsTable bytes (map field_of table.header) (map (map field_of) table.rows)
  pub stands : table ≡ raw_table (map field_of table.header) (map (map field_of) table.rows)

-- the fields of rows, one row after another
abbrev pub row_fields : List (List RawField) → List RawField
row_fields rows = flat_map (λ fields. fields) rows

-- ---- the index
pub record Places : Type 0 where
  -- where the first field begins
  pub start : ℕ
  -- how many fields a record has
  pub width : ℕ
  -- how many records stand after the header
  pub rows : ℕ
  -- the place after each field, record after record, the header first
  pub ends : List ℕ

-- the fields between the places
abbrev pub raws : Places → List ℕ → List RawField
raws places bytes = map raw_between (cut places.start places.ends bytes)

-- the table between the places
abbrev pub table_in : Places → List ℕ → RawTable
table_in places bytes = record {
  header = take places.width (raws places bytes);
  rows = rows_cut places.rows places.width (drop places.width (raws places bytes));
}

-- where the field of that number begins
abbrev pub start_at : ℕ → List ℕ → ℕ → ℕ
start_at start ends zero = start
start_at start [] (suc n) = start
start_at start (end ∷ ends) (suc n) = start_at (end + 1) ends n

-- the places rise, and none is past the end
abbrev pub Rise : ℕ → List ℕ → ℕ → Type 0
Rise start [] size = Unit {0}
Rise start (end ∷ ends) size = (start ≤ end) × (end ≤ size) × Rise (end + 1) ends size

-- at each place is an ASCII character or the end, so that no character is cut there
abbrev pub AreAscii : List ℕ → List ℕ → Type 0
AreAscii bytes ends = AllByRecursion (λ end. slice_index bytes end < 128) ends

-- the places are of bytes such as these: each record is whole, each field is text, and no character is cut
pub record FitsFile (places : Places) (bytes : List ℕ) : Type 0 where
  pub width : 0 < places.width
  pub count : length places.ends ≡ (places.rows + 1) * places.width
  pub rise : Rise places.start places.ends (length bytes)
  pub text : AllByRecursion (λ raw. is_utf8 raw.bytes ≡ true) (raws places bytes)
  pub boundary : IsCharBoundary bytes places.start
  pub ascii : AreAscii bytes places.ends

-- the bytes are a table, and the places are those of its fields
pub record IsIndexOf (places : Places) (bytes : List ℕ) : Type 0 where
  pub table : IsRawTable bytes (table_in places bytes)
  pub width : length (table_in places bytes).header ≡ places.width
  pub row_count : length (table_in places bytes).rows ≡ places.rows
  pub fits : FitsFile places bytes
