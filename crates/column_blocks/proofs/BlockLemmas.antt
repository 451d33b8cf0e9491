-- The blocks of a column.
use Rattle.std.proofs.Common.{◌≡◌, ℕ, zero, suc, refl, ◌*◌, ◌/◌, ◌%◌, ◌<◌, ◌≤◌, List, [], ◌∷◌, length, get_or, take, drop, sym, subst, ap, ◌∙◌, arith}
use Rattle.std.proofs.lemmas.List.{get_or_past, get_or_read, get_or-map, length-map}
use Rattle.cell_types.specs.declared.kind.ColumnKind.TheVariants.{Text}
use Rattle.cell_types.specs.declared.kind.ColumnKind.{ColumnKind}
use Rattle.cell_types.specs.Value.{CellValue, null}
use Rattle.column_blocks.specs.TypedColumn.{ColumnCells, blocks_of, cells_in, cells_of_each, AreBlocks, HaveKind}
use Rattle.column_blocks.proofs.TypedColumnLemmas.{block_at, block_within, row_cell}

abbrev pub cells_with : ColumnKind → List CellValue → ColumnCells
cells_with kind cells = record { kind = kind; cells = cells }

abbrev no_cells : ColumnKind → ColumnCells
no_cells kind = cells_with kind []

-- there is a block where there are cells
pub block_there : (size : ℕ) (blocks : List ColumnCells) (number : ℕ) → AreBlocks size (cells_of_each blocks) → 0 < size
    → number * size < length (cells_in (cells_of_each blocks)) → number < length blocks
block_there size blocks number are some within =
    subst (λ n. number < n) (length-map blocks (λ (block : ColumnCells). block.cells)) (block_within size (cells_of_each blocks) number are some within)

cells_at : (blocks : List ColumnCells) (number : ℕ) (block : ColumnCells) → number < length blocks → block ≡ get_or blocks number block
    → get_or (cells_of_each blocks) number [] ≡ block.cells
cells_at blocks number block there is =
    let none : List CellValue = [] in
    get_or-map (λ (b : ColumnCells). b.cells) blocks number (no_cells Text) none there
    ∙ sym (ap (λ (b : ColumnCells). b.cells) (get_or_read blocks number block there is (no_cells Text)))

-- the cell of a row is in its block
pub value_in : (size : ℕ) (blocks : List ColumnCells) (row : ℕ) (block : ColumnCells) → AreBlocks size (cells_of_each blocks) → 0 < size → row / size < length blocks
    → block ≡ get_or blocks (row / size) block → get_or block.cells (row % size) null ≡ get_or (cells_in (cells_of_each blocks)) row null
value_in size blocks row block are some there is =
    ap (λ cells. get_or cells (row % size) null) (sym (cells_at blocks (row / size) block there is)) ∙ row_cell size (cells_of_each blocks) row are some

pub value_past : (size : ℕ) (blocks : List ColumnCells) (row : ℕ) → AreBlocks size (cells_of_each blocks) → 0 < size → length blocks ≤ row / size
    → null ≡ get_or (cells_in (cells_of_each blocks)) row null
value_past size blocks row are some past =
    let none : List CellValue = [] in
    let all : length (cells_of_each blocks) ≤ row / size = omega (arith, past, length-map blocks (λ (b : ColumnCells). b.cells)) in
    sym (ap (λ cells. get_or cells (row % size) null) (get_or_past (cells_of_each blocks) (row / size) none all)) ∙ row_cell size (cells_of_each blocks) row are some

-- it is of the kind
pub block_type : (kind : ColumnKind) (blocks : List ColumnCells) (number : ℕ) (other : ColumnCells) → number < length blocks → HaveKind kind blocks
    → (get_or blocks number other).kind ≡ kind
block_type kind [] number other within of = absurd (omega (arith, within))
block_type kind (block ∷ blocks) zero other within of = of.0
block_type kind (block ∷ blocks) (suc number) other within of = block_type kind blocks number other (omega (arith, within)) of.1

-- and has the cells that stand in its place
pub block_is : (size : ℕ) (kind : ColumnKind) (blocks : List ColumnCells) (number : ℕ) (block : ColumnCells) → AreBlocks size (cells_of_each blocks) → HaveKind kind blocks → 0 < size
    → number * size < length (cells_in (cells_of_each blocks)) → block ≡ get_or blocks number block
    → block ≡ cells_with kind (take size (drop (number * size) (cells_in (cells_of_each blocks))))
block_is size kind blocks number block are of some within is =
    let there = block_there size blocks number are some within in
    let typed : block.kind ≡ kind = ap (λ (b : ColumnCells). b.kind) is ∙ block_type kind blocks number block there of in
    let cells : block.cells ≡ take size (drop (number * size) (cells_in (cells_of_each blocks))) =
    sym (cells_at blocks number block there is) ∙ block_at size (cells_of_each blocks) number are in
    ap (λ (t : ColumnKind). cells_with t block.cells) typed ∙ ap (cells_with kind) cells

-- the cells of blocks of a kind
pub cells_of_blocks : (kind : ColumnKind) (blocks : List (List CellValue)) → cells_of_each (blocks_of kind blocks) ≡ blocks
cells_of_blocks kind [] = refl
cells_of_blocks kind (block ∷ blocks) = ap (λ rest. block ∷ rest) (cells_of_blocks kind blocks)

pub of_type_of_blocks : (kind : ColumnKind) (blocks : List (List CellValue)) → HaveKind kind (blocks_of kind blocks)
of_type_of_blocks kind [] = tt
of_type_of_blocks kind (block ∷ blocks) = (refl, of_type_of_blocks kind blocks)
