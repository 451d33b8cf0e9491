-- What the ranges of the columns of a block tell of its rows.
use Rattle.std.specs.Prelude.{◌≡◌, ◌<◌, ℕ, ℤ, Bool, true, false, List, [], Option, Some, length, not, slice_index_or}
use Rattle.std.specs.Cmp.Lexicographic.{slice_cmp}
use Rattle.std.specs.Ordering.{int_cmp, nat_cmp}
use Rattle.cell_types.specs.Column.{ColumnOf}
use Rattle.cell_types.specs.Kind.{is_of_kind, HasRealDay}
use Rattle.cell_types.specs.Rows.{IsTableRow}
use Rattle.cell_types.specs.Value.{CellValue, null, value_view}
use Rattle.block_summary.specs.Ranges.{RangeOf, AreRangesOf}
use Rattle.block_summary.specs.Tests.{test_passes}
use Rattle.block_summary.specs.declared.test.Test.{Test}
use Rattle.cell_types.specs.declared.comparison.ComparisonOperator.{ComparisonOperator}
use Rattle.cell_types.specs.declared.kind.ColumnKind.{ColumnKind}
use Rattle.cell_types.specs.declared.kind.ColumnKind.TheVariants.{Text, Number}
use Rattle.cell_types.specs.declared.comparison.ComparisonOperator.TheVariants as operators
use Rattle.typed_trees.specs.TypedTree.{NumberExprOf, TextExprOf, TruthExprOf}
use Rattle.row_eval.specs.declared.truth.Truth.{Truth}
use Rattle.row_eval.specs.Comparison.{compared, holds}
use Rattle.row_eval.specs.Logic.{truth_of}
use Rattle.row_eval.specs.Outcome.{number_outcome, text_outcome, truth_outcome}
use Rattle.row_eval.specs.Row.{number_in, text_in}

-- cells of a row of a table, among rows whose columns have these ranges
pub record IsRowWithin (ranges : List RangeOf) (cells : List CellValue) : Type 0 where
  pub rows : List (List CellValue)
  pub row : ℕ
  pub are_ranges : AreRangesOf ranges rows
  pub within : row < length rows
  pub cells_are : cells ≡ slice_index_or rows row []
  pub columns : List ColumnOf
  pub fits : IsTableRow columns cells

-- a condition has this truth on each such row
abbrev pub IsKnown : TruthExprOf → List RangeOf → Truth → Type 0
IsKnown e ranges truth = (cells : List CellValue) → IsRowWithin ranges cells → truth_outcome e cells ≡ Some truth

-- ---- a column, compared with a literal

-- the cell at a place; null where there is none
abbrev pub cell_at_place : List CellValue → ℕ → CellValue
cell_at_place cells place = slice_index_or cells place null

abbrev pub cell_passes : Test → CellValue → Bool
cell_passes test cell = test_passes test.op cell (value_view test.literal)

-- a test says this of the cell at a place, on each such row
abbrev pub Says : List RangeOf → ℕ → Test → Bool → Type 0
Says ranges place test b = (cells : List CellValue) → IsRowWithin ranges cells → cell_passes test (cell_at_place cells place) ≡ b

-- the cell at a place is this one, on each such row
abbrev pub HaveCellAlone : CellValue → List RangeOf → ℕ → Type 0
HaveCellAlone cell ranges place = (cells : List CellValue) → IsRowWithin ranges cells → cell_at_place cells place ≡ cell

-- the comparison that holds between two values just where this one does not
abbrev pub opposite_of : ComparisonOperator → ComparisonOperator
opposite_of operators.Equal = operators.NotEqual
opposite_of operators.NotEqual = operators.Equal
opposite_of operators.GreaterThan = operators.LessOrEqual
opposite_of operators.GreaterOrEqual = operators.LessThan
opposite_of operators.LessThan = operators.GreaterOrEqual
opposite_of operators.LessOrEqual = operators.GreaterThan

-- the opposite of a test holds where the test does not, on each such row
abbrev pub HasOpposite : List RangeOf → ℕ → Test → Type 0
HasOpposite ranges place test = (cells : List CellValue) → IsRowWithin ranges cells
    → test_passes (opposite_of test.op) (cell_at_place cells place) (value_view test.literal) ≡ not (cell_passes test (cell_at_place cells place))

-- ---- kinds of values

-- what passes neither of two tests is null, or a value of the kind
abbrev pub Encloses : ColumnKind → Test → Test → Type 0
Encloses kind before behind = (cell : CellValue) → cell_passes before cell ≡ false → cell_passes behind cell ≡ false → is_of_kind kind cell ≡ true

-- the cell at a place is null, or a value of the kind, on each such row
abbrev pub AreOfKind : ColumnKind → List RangeOf → ℕ → Type 0
AreOfKind kind ranges place = (cells : List CellValue) → IsRowWithin ranges cells → is_of_kind kind (cell_at_place cells place) ≡ true

-- what a comparison says of two cells of a kind
abbrev pub holds_between : ColumnKind → ComparisonOperator → CellValue → CellValue → Bool
holds_between Text o a b = holds o (compared (slice_cmp nat_cmp) (text_in a) (text_in b))
holds_between (Number kind) o a b = holds o (compared int_cmp (number_in kind a) (number_in kind b))

-- a comparison of the cell at a place with a literal has this truth, on each such row
abbrev pub HasTruth : ColumnKind → ComparisonOperator → List RangeOf → ℕ → CellValue → Truth → Type 0
HasTruth kind o ranges place literal truth =
    (cells : List CellValue) → IsRowWithin ranges cells → truth_of (holds_between kind o (cell_at_place cells place) literal) ≡ truth

-- ---- expressions that have one value on all rows

abbrev pub IsConstantNumber : NumberExprOf → Option ℤ → Type 0
IsConstantNumber e number = (cells : List CellValue) → number_outcome e cells ≡ Some number

pub record IsConstantText (e : TextExprOf) (value : CellValue) : Type 0 where
  pub kind : is_of_kind Text value ≡ true
  pub day : HasRealDay value
  pub each : (cells : List CellValue) → text_outcome e cells ≡ text_in value
