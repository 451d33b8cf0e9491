-- Sums of the numbers that rows have in a column (OData Data Aggregation 4.0, section 3.1.3.1).
use Rattle.std.specs.Prelude.{ℕ, ℤ, ◌+ℤ◌, ◌≡◌, ◌++◌, length, slice_index_or, List, [], ◌∷◌, Option, Some, None, FitsSigned}
use Rattle.std.specs.Int.{w128}
use Rattle.std.specs.List.{filter_map}
use Rattle.block_summary.specs.Types.{numbers_of}
use Rattle.cell_types.specs.declared.kind.NumberKind.{NumberKind}
use Rattle.cell_types.specs.Value.{CellValue}
use Rattle.row_eval.specs.Row.{cell, number_in}
use Rattle.query_meaning.specs.Apply.{integer_sum}
use Rattle.query_meaning.specs.Fitting.{AreSummable}

-- the numbers that rows have in a column
abbrev pub numbers_in : NumberKind → ℕ → List (List CellValue) → List ℤ
numbers_in kind place rows = filter_map (λ row. cell (number_in kind) row place) rows

-- the numbers that stand for those of the cells that have these places
abbrev pub numbers_at : List CellValue → List ℕ → List ℤ
numbers_at cells places = filter_map (λ place. slice_index_or (numbers_of cells) place None) places

-- the sum of some numbers, where there is one
abbrev pub sum_of : List ℤ → Option ℤ
sum_of [] = None
sum_of (n ∷ ns) = Some (integer_sum (n ∷ ns))

-- the sum of two sums, each of which there may be none
abbrev pub sums_joined : Option ℤ → Option ℤ → Option ℤ
sums_joined None more = more
sums_joined (Some n) None = Some n
sums_joined (Some n) (Some m) = Some (n +ℤ m)

abbrev pub FitSums : Option ℤ → Option ℤ → Type 0
FitSums (Some n) (Some m) = FitsSigned w128 (n +ℤ m)
FitSums _ _ = Unit {0}

-- more rows may join those of which that is the sum: the sum of all fits
pub record MaySum (kind : NumberKind) (place : ℕ) (sum : Option ℤ) (more : List (List CellValue)) : Type 0 where
  pub rows : List (List CellValue)
  pub sum_is : sum ≡ sum_of (numbers_in kind place rows)
  pub fits : AreSummable (numbers_in kind place (rows ++ more)) (length (rows ++ more))
