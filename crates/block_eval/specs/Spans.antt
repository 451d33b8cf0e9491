-- Comparisons with a constant as comparisons of packed numbers with a span.
use Rattle.std.specs.Prelude.{◌≡◌, ◌<ℤ◌, ◌≤ℤ◌, ℕ, ℤ, None, Option, Some, List, option_map, slice_index_or}
use Rattle.cell_types.specs.Value.{CellValue}
use Rattle.block_summary.specs.Types.{numbers_of}
use Rattle.block_summary.specs.declared.bounds.Bounds.{Bounds}
use Rattle.cell_types.specs.declared.comparison.ComparisonOperator.{ComparisonOperator}
use Rattle.cell_types.specs.declared.comparison.ComparisonOperator.TheVariants.{Equal, NotEqual, GreaterThan, GreaterOrEqual, LessThan, LessOrEqual}
use Rattle.typed_trees.specs.TypedTree.{NumberExprOf}
use Rattle.row_eval.specs.declared.truth.Truth.{Truth}
use Rattle.row_eval.specs.Logic.{least, opposite}
use Rattle.row_eval.specs.Outcome.{number_outcome}
use Rattle.zone_maps.specs.Known.{IsConstantNumber}
use Rattle.block_eval.specs.declared.columns.BlockColumn.{BlockColumn}
use Rattle.block_eval.specs.Columns.{IsRowAt}
use Rattle.block_eval.specs.Lanes.{comparison}

-- a number lies in a span
abbrev pub in_span : Bounds → Option ℤ → Truth
in_span b n = least (comparison GreaterOrEqual n (Some b.least)) (comparison LessOrEqual n (Some b.greatest))

-- a number is equal to a span where it lies in it, greater where it comes after its last number, and less where it comes before its first
abbrev pub span_comparison : ComparisonOperator → Bounds → Option ℤ → Truth
span_comparison Equal b n = in_span b n
span_comparison NotEqual b n = opposite (in_span b n)
span_comparison GreaterThan b n = comparison GreaterThan n (Some b.greatest)
span_comparison GreaterOrEqual b n = comparison GreaterOrEqual n (Some b.least)
span_comparison LessThan b n = comparison LessThan n (Some b.least)
span_comparison LessOrEqual b n = comparison LessOrEqual n (Some b.greatest)

-- the span of the numbers of which f makes y: of those before it f makes less, and of those after it more
pub record IsSpanOf (f : ℤ → ℤ) (y : ℤ) (b : Bounds) : Type 0 where
  pub before : (n : ℤ) → n <ℤ b.least → f n <ℤ y
  pub from_least : (n : ℤ) → b.least ≤ℤ n → y ≤ℤ f n
  pub to_greatest : (n : ℤ) → n ≤ℤ b.greatest → f n ≤ℤ y
  pub after : (n : ℤ) → b.greatest <ℤ n → y <ℤ f n

-- the left side is made of the numbers of a column, and the right side is the constant of which the span is
pub record ComparesSpan (left right : NumberExprOf) (columns : List BlockColumn) (column : List CellValue) (span : Bounds) : Type 0 where
  pub f : ℤ → ℤ
  pub constant : ℤ
  pub left_is : (row : ℕ) (cells : List CellValue) → IsRowAt columns row cells → number_outcome left cells ≡ Some (option_map f (slice_index_or (numbers_of column) row None))
  pub right_is : IsConstantNumber right (Some constant)
  pub span_is : IsSpanOf f constant span
