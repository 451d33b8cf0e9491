-- Headers and rows with what is found in them, worked out by hand (Model for Tabular Data and Metadata on the Web, sections 4 and 6.6).
use Rattle.std.specs.Prelude.{◌≡◌, ℕ, pos, true, false, List, [], ◌∷◌, codes, map, Option, None, Some, Ok, Err}
use Rattle.csv_grammar.specs.Raw.{RawField}
use Rattle.csv_grammar.specs.Records.{Field, unquoted, quoted}
use Rattle.cell_types.specs.declared.fault.CellFault.TheVariants.{Missing, NotInteger}
use Rattle.cell_types.specs.Column.{ColumnOf}
use Rattle.cell_types.specs.Datatype as datatype
use Rattle.cell_types.specs.Value.{null, integer, text}
use Rattle.file_cells.specs.Rows.{mismatch_from, mismatch_of, rows_from, wrong_of}

-- an integer, and a text with the titles `City` and `Town`
abbrev pub id_column : ColumnOf
id_column = record { name = codes "Id"; titles = []; datatype = datatype.integer; nulls = codes "" ∷ []; default = []; required = false }

abbrev pub name_column : ColumnOf
name_column = record { name = codes "Name"; titles = codes "City" ∷ codes "Town" ∷ []; datatype = datatype.text; nulls = codes "NA" ∷ []; default = []; required = true }

abbrev pub city_columns : List ColumnOf
city_columns = id_column ∷ name_column ∷ []

-- a record of fields as they are
abbrev pub fields : List (List ℕ) → List Field
fields texts = map unquoted texts

-- where a header with these cells does not match the columns
abbrev pub mismatch : List (List ℕ) → Option ℕ
mismatch cells = mismatch_from 0 city_columns (fields cells)

-- a field as its file has it, without and with double quotes around it
abbrev pub plain_field : List ℕ → RawField
plain_field t = record { bytes = t; quoted = false }

abbrev pub quoted_field : List ℕ → RawField
quoted_field t = record { bytes = t; quoted = true }

pub record WorkedRows : Type 0 where
  -- a header cell is the column's name or one of its titles, letter for letter
  pub names : mismatch (codes "Id" ∷ codes "Name" ∷ []) ≡ None
  pub titles : map (λ title. mismatch (codes "Id" ∷ title ∷ [])) (codes "City" ∷ codes "Town" ∷ []) ≡ None ∷ None ∷ []
  pub others : map mismatch ((codes "id" ∷ codes "City" ∷ []) ∷ (codes "Id" ∷ codes "Place" ∷ []) ∷ (codes "Name" ∷ codes "Id" ∷ []) ∷ [])
      ≡ Some 0 ∷ Some 1 ∷ Some 0 ∷ []
  -- a cell too few and a cell too many
  pub widths : map mismatch ((codes "Id" ∷ []) ∷ (codes "Id" ∷ codes "Name" ∷ codes "Pop" ∷ []) ∷ []) ≡ Some 1 ∷ Some 2 ∷ []
  -- the values of rows, of a field in quotes what it says
  pub rows : rows_from 0 city_columns (fields (codes "1" ∷ codes "Oslo" ∷ []) ∷ (unquoted [] ∷ quoted (codes "Foo, Bar") ∷ []) ∷ [])
      ≡ Ok ((integer (pos 1) ∷ text (codes "Oslo") ∷ []) ∷ (null ∷ text (codes "Foo, Bar") ∷ []) ∷ [])
  -- the first cell without a value goes by rows, and in a row by columns
  pub by_rows : rows_from 0 city_columns (fields (codes "1" ∷ codes "NA" ∷ []) ∷ fields (codes "x" ∷ codes "Oslo" ∷ []) ∷ []) ≡ Err (0, 1, Missing)
  pub by_columns : rows_from 0 city_columns (fields (codes "1" ∷ codes "Oslo" ∷ []) ∷ fields (codes "x" ∷ codes "NA" ∷ []) ∷ []) ≡ Err (1, 0, NotInteger)
  -- of fields in double quotes what they say
  pub header_in_quotes : map (λ title. mismatch_of city_columns (quoted_field (codes "Id") ∷ title ∷ [])) (quoted_field (codes "Town") ∷ quoted_field (codes "To\"\"wn") ∷ [])
      ≡ None ∷ Some 1 ∷ []
  -- rows count on from those before them
  pub later_rows : wrong_of 4_096 city_columns ((plain_field (codes "1") ∷ quoted_field (codes "O\"\"Hare") ∷ []) ∷ (plain_field (codes "2") ∷ quoted_field (codes "NA") ∷ []) ∷ [])
      ≡ Some (4_097, 1, Missing)
