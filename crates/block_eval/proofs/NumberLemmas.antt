-- The numbers of a column, and comparisons between numbers, on the rows that are wanted.
use Rattle.std.proofs.Common.{◌≡◌, ◌<◌, ℕ, Bool, true, false, Option, Some, List, length, get_or, slice_get, refl, sym, ap, ◌∙◌}
use Rattle.std.specs.Prelude.{ℤ, pos, option_and_then}
use Rattle.std.proofs.lemmas.Option.{slice_get-get_or}
use Rattle.cell_types.specs.Value.{CellValue}
use Rattle.cell_types.specs.declared.kind.NumberKind.TheVariants.{Boolean}
use Rattle.cell_types.specs.Kind.{cell_of}
use Rattle.cell_types.specs.declared.comparison.ComparisonOperator.{ComparisonOperator}
use Rattle.cell_types.specs.declared.kind.NumberKind.{NumberKind}
use Rattle.row_eval.specs.declared.truth.Truth.{Truth}
use Rattle.row_eval.specs.Logic.{truth_of_option}
use Rattle.row_eval.specs.Outcome.{both}
use Rattle.row_eval.specs.Row.{boolean_in, cell, number_in}
use Rattle.block_eval.specs.declared.columns.BlockColumn.{BlockColumn}
use Rattle.number_kernels.specs.declared.numbers.Numbers as vector
use Rattle.number_kernels.specs.declared.numbers.Numbers.TheVariants.{Computed}
use Rattle.block_eval.specs.Columns.{unless_null}
use Rattle.block_eval.specs.Lanes.{comparison, number_lane, truth_in, GivesNumbers, GivesTruths, HasTruths}
use Rattle.block_eval.specs.declared.packed.Unpacked.{Unpacked}
use Rattle.block_eval.specs.Bounded.{GivesBounded}
use Rattle.block_eval.specs.Packed.{IsUnpackedAt}
use Rattle.block_eval.proofs.LogicLemmas.{all-gives, wanted_within}

-- the column that is found at a place
pub found-column : (columns : List BlockColumn) (place : ℕ) (found column : BlockColumn) → place < length columns → found ≡ get_or columns place found → found ≡ column → slice_get columns place ≡ Some column
found-column columns place found column within e is = slice_get-get_or columns place found within ∙ ap (λ c. Some c) (sym e ∙ is)

truth-cell : (null : Bool) (n : ℤ) → truth_of_option (boolean_in (cell_of Boolean (unless_null null n))) ≡ truth_in null n
truth-cell true n = refl
truth-cell false n = refl

-- the numbers of a column of a kind
pub numbers-give : (columns : List BlockColumn) (k : NumberKind) (place : ℕ) (wanted : List Bool) (made : Unpacked) → IsUnpackedAt columns place k (length wanted) made
    → GivesBounded (λ cells. Some (cell (number_in k) cells place)) columns wanted (record { numbers = Computed made.values made.nulls; bounds = made.bounds })
numbers-give columns k place wanted made is = record {
  numbers = record {
    each = λ row cells h at.
        ap (λ v. Some (option_and_then (number_in k) v)) (is.stand row cells (wanted_within wanted row h) at)
        ∙ ap (λ n. Some n) (is.back row (wanted_within wanted row h));
    long = (is.values_long, is.nulls_long);
  };
  within = λ row cells h at. is.within row (wanted_within wanted row h);
}

-- the truths of a column
pub truths-give : (columns : List BlockColumn) (place : ℕ) (wanted : List Bool) (made : Unpacked) (ts : List Truth) → IsUnpackedAt columns place Boolean (length wanted) made
    → HasTruths (length wanted) (λ row. truth_in (get_or made.nulls.items row true) (get_or made.values.items row (pos 0))) ts
    → GivesTruths (λ cells. Some (truth_of_option (cell boolean_in cells place))) columns wanted ts
truths-give columns place wanted made ts is has = record {
  each = λ row cells h at.
      let within : row < length wanted = wanted_within wanted row h in
      ap (λ v. Some (truth_of_option (option_and_then boolean_in v))) (is.stand row cells within at)
      ∙ ap (λ t. Some t) (truth-cell (get_or made.nulls.items row true) (get_or made.values.items row (pos 0)) ∙ sym (has.each row within));
  long = has.long;
}

-- a comparison of numbers that are there on each wanted row
pub compared-gives : (o : ComparisonOperator) (f g : List CellValue → Option (Option ℤ)) (columns : List BlockColumn) (wanted : List Bool) (l r : vector.Numbers) (ts : List Truth)
    → GivesNumbers f columns wanted l → GivesNumbers g columns wanted r → HasTruths (length wanted) (λ row. comparison o (number_lane l row) (number_lane r row)) ts
    → GivesTruths (λ cells. both (comparison o) (f cells) (g cells)) columns wanted ts
compared-gives o f g columns wanted l r ts left right has =
    all-gives (λ cells. both (comparison o) (f cells) (g cells)) (λ row. comparison o (number_lane l row) (number_lane r row)) columns wanted ts has
    (λ row cells h at. ap (λ x. both (comparison o) x (g cells)) (left.each row cells h at) ∙ ap (both (comparison o) (Some (number_lane l row))) (right.each row cells h at))
