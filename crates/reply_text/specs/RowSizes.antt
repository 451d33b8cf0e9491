-- How many bytes the first rows of an answer take.
use Rattle.std.specs.Prelude.{◌≡◌, ℕ, ◌+◌, ◌≤◌, Bool, true, false, List, ◌++◌, codes, if◌then◌else◌, length, map, take}
use Rattle.std.specs.List.{flat_map}
use Rattle.cell_types.specs.Value.{CellValue}
use Rattle.result_rows.specs.Rows.{AreReordered, BeginWith, RowsOf}
use Rattle.row_columns.specs.Columns.{ColumnsOf}
use Rattle.reply_text.specs.declared.row_sizes.RowSizes.{RowSizes}
use Rattle.reply_text.specs.Pieces.{row_piece, AreSizesOf}
use Rattle.reply_values.specs.Printed.{json_text, printed_value}
use Rattle.reply_values.specs.Size.{told}

-- how many bytes the names of a row take in JSON, each with its colon
abbrev pub labels_size : Bool → List (List ℕ) → ℕ
labels_size json names = if json then length (flat_map (λ name. json_text name ++ codes ":") names) else 0

-- how many bytes rows of that width take without their values, each after its comma
abbrev pub IsRowFrame : Bool → List (List ℕ) → ℕ → ℕ → Type 0
IsRowFrame json names width frame =
    (row : List CellValue) → length row ≡ width → told (length (row_piece json names 1 row)) ≡ told (frame + length (flat_map (printed_value json) row))

-- the first of these rows were counted, each after its comma
pub record CountFirst (json : Bool) (sizes : RowSizes) (rows : RowsOf) : Type 0 where
  pub within : sizes.len ≤ length rows.rows
  pub counted : AreSizesOf (take sizes.len (map (row_piece json rows.names 1) rows.rows)) sizes.all sizes.longest

-- where the first rows are those of columns, some of these are counted
abbrev pub CountsMore : Bool → ℕ → ColumnsOf → RowSizes → RowSizes → Type 0
CountsMore json frame columns old new =
    (rows : RowsOf) (names : List (List ℕ)) → IsRowFrame json names (length columns.kinds) frame → BeginWith rows names columns.rows → CountFirst json old rows → CountFirst json new rows

-- the first `count`, as JSON objects, and as lines of CSV
abbrev pub AreJsonSizes : RowSizes → ℕ → RowsOf → Type 0
AreJsonSizes sizes count rows = (sizes.len ≡ count) × CountFirst true sizes rows

abbrev pub AreCsvSizes : RowSizes → ℕ → RowsOf → Type 0
AreCsvSizes sizes count rows = (sizes.len ≡ count) × CountFirst false sizes rows

-- the first of these rows in some order were counted
abbrev pub HaveSizes : Bool → RowSizes → RowsOf → Type 0
HaveSizes json sizes rows = (count : ℕ) × (others : RowsOf) × AreReordered others rows × (sizes.len ≡ count) × CountFirst json sizes others

abbrev pub HaveJsonSizes : RowSizes → RowsOf → Type 0
HaveJsonSizes sizes rows = HaveSizes true sizes rows

abbrev pub HaveCsvSizes : RowSizes → RowsOf → Type 0
HaveCsvSizes sizes rows = HaveSizes false sizes rows
