-- The cells of some columns of a block.
use Rattle.std.specs.Prelude.{ℕ, List, [], map, slice_index_or}
use Rattle.std.specs.List.{AllByRecursion}
use Rattle.cell_types.specs.declared.kind.ColumnKind.TheVariants.{Text, Number}
use Rattle.cell_types.specs.declared.kind.ColumnKind.{ColumnKind}
use Rattle.cell_types.specs.Value.{CellValue, null}
use Rattle.row_columns.specs.Text.{IsNoText}
use Rattle.column_blocks.specs.ColumnCells.{ColumnCells}

abbrev pub no_cells : ColumnCells
no_cells = record { kind = Text; cells = [] }

-- a row of some columns: the cell of each
abbrev pub piece_row : List ColumnCells → ℕ → List CellValue
piece_row piece row = map (λ (column : ColumnCells). slice_index_or column.cells row null) piece

-- cells that stand for numbers are no texts
abbrev pub HasTextsAlone : ColumnKind → List CellValue → Type 0
HasTextsAlone Text cells = Unit {0}
HasTextsAlone (Number kind) cells = AllByRecursion IsNoText cells

abbrev pub HaveTextsAlone : List ColumnCells → Type 0
HaveTextsAlone piece = AllByRecursion (λ (column : ColumnCells). HasTextsAlone column.kind column.cells) piece

-- some columns of others
abbrev pub piece_at : List ℕ → List ColumnCells → List ColumnCells
piece_at places piece = map (λ place. slice_index_or piece place no_cells) places
