-- What holds of all blocks.
use Rattle.std.specs.Prelude.{◌≡◌, ℕ, false, List, [], ◌∷◌, ◌++◌, ◌<◌, length, slice_index_or}
use Rattle.cell_types.specs.Value.{CellValue, null}
use Rattle.cell_types.specs.declared.comparison.ComparisonOperator.{ComparisonOperator}
use Rattle.block_summary.specs.Ranges.{RangeOf, no_range, joined_range, range_of, widened, AreRangesOf, IsRangeOf}
use Rattle.block_summary.specs.Tests.{admits, test_passes}

-- a column that is not admitted has no cell that passes the test
abbrev pub SkipsNothing : Type 0
SkipsNothing = (op : ComparisonOperator) (range : RangeOf) (cells : List CellValue) (literal : CellValue) → IsRangeOf range cells
    → admits op range literal ≡ false → (row : ℕ) → row < length cells → test_passes op (slice_index_or cells row null) literal ≡ false

-- a block that is not admitted has no row whose cell in that column passes the test
abbrev pub SkipsNoRow : Type 0
SkipsNoRow = (op : ComparisonOperator) (ranges : List RangeOf) (rows : List (List CellValue)) (col : ℕ) (literal : CellValue) → AreRangesOf ranges rows
    → col < length ranges → admits op (slice_index_or ranges col no_range) literal ≡ false
    → (i : ℕ) → i < length rows → test_passes op (slice_index_or (slice_index_or rows i []) col null) literal ≡ false

-- the range of no cells, and that of one cell more
pub record RangesWiden : Type 0 where
  pub start : IsRangeOf no_range []
  pub more : (range : RangeOf) (cells : List CellValue) (v : CellValue) → IsRangeOf range cells → IsRangeOf (widened range v) (cells ++ v ∷ [])

-- the range of cells and of others after them
abbrev pub RangesJoin : Type 0
RangesJoin = (a b : RangeOf) (xs ys : List CellValue) → IsRangeOf a xs → IsRangeOf b ys → IsRangeOf (joined_range a b) (xs ++ ys)

-- cells have a range, and no other
pub record OneRange : Type 0 where
  pub made : (cells : List CellValue) → IsRangeOf (range_of cells) cells
  pub one : (range : RangeOf) (cells : List CellValue) → IsRangeOf range cells → range ≡ range_of cells
