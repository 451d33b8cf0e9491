-- The parts of tables.
use Rattle.std.proofs.Common.{◌≡◌, ℕ, ◌+◌, ◌*◌, List, [], ◌∷◌, length, refl, ap, sym, ◌∙◌, arith}
use Rattle.std.specs.List.{sum_by, AllByRecursion}
use Rattle.std.proofs.lemmas.List.{append-nil, length-append, length-map}
use Rattle.std.proofs.lemmas.List.Elements.{recursion_from_All}
use Rattle.std.proofs.lemmas.List.Sums.{sum_by-cons}
use Rattle.block_summary.specs.declared.block.TheConstants.{BLOCK_ROWS}
use Rattle.cell_types.specs.Column.{ColumnOf}
use Rattle.cell_types.specs.Value.{CellValue}
use Rattle.column_blocks.specs.TypedColumn.{cells_in, cells_of_each, AreBlocks, AreTyped, ColumnCells}
use Rattle.table_store.specs.Block.{block_count}
use Rattle.table_store.specs.Remains.{column_parts}
use Rattle.table_store.proofs.ColumnLemmas.{kept_lengths}

-- ---- the blocks of a column

blocks_are : (blocks : List (List CellValue)) → AreBlocks BLOCK_ROWS blocks → length blocks ≡ block_count (length (cells_in blocks))
blocks_are [] are = refl
blocks_are (last ∷ []) are = omega (arith, are.0, are.1, ap length (append-nil last))
blocks_are (block ∷ next ∷ blocks) are =
    omega (arith, are.0, blocks_are (next ∷ blocks) are.1, length-append block (cells_in (next ∷ blocks)))

pub column_blocks : (blocks : List ColumnCells) (column : ColumnCells) → AreBlocks BLOCK_ROWS (cells_of_each blocks)
    → cells_in (cells_of_each blocks) ≡ column.cells → column_parts column ≡ length blocks + 1
column_blocks blocks column are cells =
    let count : length blocks ≡ block_count (length column.cells) =
    sym (length-map blocks (λ (block : ColumnCells). block.cells)) ∙ blocks_are (cells_of_each blocks) are
    ∙ ap (λ (l : List CellValue). block_count (length l)) cells in
    ap (λ n. n + 1) (sym count)

-- ---- the columns of a table

columns_of : (rows : ℕ) (typed : List ColumnCells) → AllByRecursion (λ (column : ColumnCells). length column.cells ≡ rows) typed
    → sum_by column_parts typed ≡ length typed * (block_count rows + 1)
columns_of rows [] are = omega arith
columns_of rows (column ∷ typed) are =
    let first : column_parts column ≡ block_count rows + 1 = ap (λ n. block_count n + 1) are.0 in
    omega (arith, sum_by-cons column_parts column typed, first, columns_of rows typed are.1)

pub columns_parts : (columns : List ColumnOf) (rows : List (List CellValue)) (typed : List ColumnCells) → AreTyped columns rows typed
    → sum_by column_parts typed ≡ length columns * (block_count (length rows) + 1)
columns_parts columns rows typed are =
    columns_of (length rows) typed (recursion_from_All (λ (column : ColumnCells). length column.cells ≡ length rows) typed (kept_lengths columns rows typed are))
    ∙ ap (λ n. n * (block_count (length rows) + 1)) are.count
