-- Truths as values on the rows that are wanted.
use Rattle.std.proofs.Common.{◌≡◌, ◌<◌, ℕ, Bool, true, false, Option, None, Some, List, length, map, refl, sym, ap, ◌∙◌, arith}
use Rattle.std.specs.Prelude.{ℤ, option_map}
use Rattle.std.specs.Ordering.{bool_cmp, int_cmp}
use Rattle.block_summary.specs.Ranges.{RangeOf}
use Rattle.cell_types.specs.Value.{CellValue}
use Rattle.cell_types.specs.declared.comparison.ComparisonOperator.{ComparisonOperator}
use Rattle.row_eval.specs.declared.truth.Truth.{Truth}
use Rattle.row_eval.specs.Comparison.{holds, is_among}
use Rattle.row_eval.specs.Logic.{option_of_truth, truth_of}
use Rattle.row_eval.specs.Outcome.{both}
use Rattle.block_eval.specs.declared.columns.BlockColumn.{BlockColumn}
use Rattle.number_kernels.specs.declared.numbers.Numbers.{Numbers}
use Rattle.block_eval.specs.Items.{AreFoundAmong}
use Rattle.block_eval.specs.Lanes.{comparison, number_lane, truth_lane, GivesTruthsWithin, HasTruths}
use Rattle.cell_types.specs.Kind.{number_of_truth}
use Rattle.block_eval.specs.Truths.{truth_comparison, AreTruthNumbers}
use Rattle.block_eval.proofs.ListLemmas.{among-map, compared-map}
use Rattle.block_eval.proofs.LogicLemmas.{wanted_within}

truth-order : (a b : Bool) → int_cmp (number_of_truth a) (number_of_truth b) ≡ bool_cmp a b
truth-order true true = refl
truth-order true false = refl
truth-order false true = refl
truth-order false false = refl

abbrev pub truth_among : List (Option Bool) → Truth → Truth
truth_among items x = truth_of (is_among bool_cmp (option_of_truth x) items)

-- truths are compared, and found in a list, by their numbers
pub numbers-compared : (o : ComparisonOperator) (ls rs ts : List Truth) (a b : Numbers) (rows : ℕ) → length ls ≡ rows → length rs ≡ rows → AreTruthNumbers ls a → AreTruthNumbers rs b
    → HasTruths rows (λ row. comparison o (number_lane a row) (number_lane b row)) ts → HasTruths rows (λ row. truth_comparison o (truth_lane ls row) (truth_lane rs row)) ts
numbers-compared o ls rs ts a b rows l r left right has = record {
  each = λ row h.
      let in_left : row < length ls = omega (arith, h, l) in
      let in_right : row < length rs = omega (arith, h, r) in
      has.each row h
      ∙ ap (λ x. comparison o x (number_lane b row)) (left.each row in_left)
      ∙ ap (comparison o (option_map number_of_truth (option_of_truth (truth_lane ls row)))) (right.each row in_right)
      ∙ ap (λ c. truth_of (holds o c)) (compared-map number_of_truth bool_cmp int_cmp truth-order (option_of_truth (truth_lane ls row)) (option_of_truth (truth_lane rs row)));
  long = has.long;
}

pub numbers-among : (xs ts : List Truth) (v : Numbers) (items : List (Option Bool)) (numbers : List (Option ℤ)) → AreTruthNumbers xs v → numbers ≡ map (option_map number_of_truth) items
    → AreFoundAmong (record { numbers = v; bounds = None }) numbers (length xs) ts → HasTruths (length xs) (λ row. truth_among items (truth_lane xs row)) ts
numbers-among xs ts v items numbers are e has = record {
  each = λ row h.
      has.each row h tt
      ∙ ap (λ x. truth_of (is_among int_cmp x numbers)) (are.each row h)
      ∙ ap (λ ns. truth_of (is_among int_cmp (option_map number_of_truth (option_of_truth (truth_lane xs row))) ns)) e
      ∙ ap truth_of (among-map number_of_truth bool_cmp int_cmp truth-order (option_of_truth (truth_lane xs row)) items);
  long = has.long;
}

-- truths that are there on each wanted row
pub compared-gives : (o : ComparisonOperator) (f g : List CellValue → Option Truth) (ranges : List RangeOf) (columns : List BlockColumn) (wanted : List Bool) (ls rs xs ys ts : List Truth) → xs ≡ ls → ys ≡ rs
    → GivesTruthsWithin f ranges columns wanted ls → GivesTruthsWithin g ranges columns wanted rs → HasTruths (length ys) (λ row. truth_comparison o (truth_lane xs row) (truth_lane ys row)) ts
    → GivesTruthsWithin (λ cells. both (truth_comparison o) (f cells) (g cells)) ranges columns wanted ts
compared-gives o f g ranges columns wanted ls rs xs ys ts e d left right has = record {
  each = λ row cells h at within_ranges.
      let within : row < length ys = omega (arith, wanted_within wanted row h, ap length d, right.long) in
      ap (λ x. both (truth_comparison o) x (g cells)) (left.each row cells h at within_ranges)
      ∙ ap (both (truth_comparison o) (Some (truth_lane ls row))) (right.each row cells h at within_ranges)
      ∙ ap (λ x. Some (truth_comparison o (truth_lane x row) (truth_lane rs row))) (sym e)
      ∙ ap (λ y. Some (truth_comparison o (truth_lane xs row) (truth_lane y row))) (sym d)
      ∙ ap (λ t. Some t) (sym (has.each row within));
  long = has.long ∙ ap length d ∙ right.long;
}

pub among-gives : (f : List CellValue → Option Truth) (ranges : List RangeOf) (columns : List BlockColumn) (wanted : List Bool) (xs ys ts : List Truth) (items : List (Option Bool)) → ys ≡ xs → GivesTruthsWithin f ranges columns wanted xs
    → HasTruths (length ys) (λ row. truth_among items (truth_lane ys row)) ts → GivesTruthsWithin (λ cells. option_map (truth_among items) (f cells)) ranges columns wanted ts
among-gives f ranges columns wanted xs ys ts items e gives has = record {
  each = λ row cells h at within_ranges.
      let within : row < length ys = omega (arith, wanted_within wanted row h, ap length e, gives.long) in
      ap (option_map (truth_among items)) (gives.each row cells h at within_ranges)
      ∙ ap (λ x. Some (truth_among items (truth_lane x row))) (sym e)
      ∙ ap (λ t. Some t) (sym (has.each row within));
  long = has.long ∙ ap length e ∙ gives.long;
}
