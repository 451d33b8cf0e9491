-- The numbers of a column as a block retains them, unpacked, or compared with a literal.
use Rattle.std.specs.Prelude.{◌≡◌, ◌<◌, ℕ, ℤ, List, Option, None, Some, length, slice_get, slice_index_or}
use Rattle.cell_types.specs.Value.{CellValue}
use Rattle.cell_types.specs.declared.comparison.ComparisonOperator.{ComparisonOperator}
use Rattle.cell_types.specs.Kind.{cell_of, number_in}
use Rattle.cell_types.specs.declared.kind.NumberKind.{NumberKind}
use Rattle.row_eval.specs.declared.truth.Truth.{Truth}
use Rattle.block_eval.specs.declared.columns.BlockColumn.{BlockColumn}
use Rattle.block_eval.specs.declared.packed.Unpacked.{Unpacked}
use Rattle.block_eval.specs.Bounds.{IsWithinKnown}
use Rattle.block_eval.specs.Columns.{number_at, IsRowAt}
use Rattle.block_eval.specs.Lanes.{comparison, HasTruths}

-- the numbers stand, as cells of a kind, at a place of the rows
abbrev pub HasNumbersAt : List BlockColumn → ℕ → NumberKind → List (Option ℤ) → Type 0
HasNumbersAt columns place kind numbers =
    (row : ℕ) (cells : List CellValue) → IsRowAt columns row cells → slice_get cells place ≡ Some (cell_of kind (slice_index_or numbers row None))

-- numbers stand, as cells of a kind, at a place of the rows, each with a mark that it is null; they are the numbers of those cells, and lie between the bounds where such are known
pub record IsUnpackedAt (columns : List BlockColumn) (place : ℕ) (kind : NumberKind) (rows : ℕ) (made : Unpacked) : Type 0 where
  pub stand : (row : ℕ) (cells : List CellValue) → row < rows → IsRowAt columns row cells → slice_get cells place ≡ Some (cell_of kind (number_at made.values.items made.nulls.items row))
  pub back : (row : ℕ) → row < rows → number_in kind (cell_of kind (number_at made.values.items made.nulls.items row)) ≡ number_at made.values.items made.nulls.items row
  pub within : (row : ℕ) → row < rows → IsWithinKnown made.bounds (number_at made.values.items made.nulls.items row)
  pub values_long : length made.values.items ≡ rows
  pub nulls_long : length made.nulls.items ≡ rows

-- on each row, whether the comparison holds between its number and a literal
abbrev pub AreNumbersCompared : ComparisonOperator → List (Option ℤ) → ℤ → List Truth → Type 0
AreNumbersCompared o numbers literal truths = HasTruths (length numbers) (λ row. comparison o (slice_index_or numbers row None) (Some literal)) truths
