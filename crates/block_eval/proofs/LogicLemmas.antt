-- Three-valued logic on the rows that are wanted.
use Rattle.std.proofs.Common.{◌≡◌, ◌≢◌, ℕ, ◌<◌, Bool, false, Option, Some, List, length, get_or, refl, subst, sym, ap, ◌∙◌, arith}
use Rattle.std.specs.Prelude.{Err, IfOk, Ok, Result, option_and_then, option_map}
use Rattle.std.proofs.lemmas.List.{get_or_past}
use Rattle.std.proofs.lemmas.Bool.{false≢true}
use Rattle.row_eval.specs.declared.truth.Truth.{Truth}
use Rattle.row_eval.specs.declared.truth.Truth.TheVariants.{False, Null, True}
use Rattle.row_eval.specs.Logic.{and_then, greatest, least, opposite, or_then}
use Rattle.cell_types.specs.Value.{CellValue}
use Rattle.typed_trees.specs.TypedTree.{TruthExprOf}
use Rattle.row_eval.specs.Outcome.{truth_outcome}
use Rattle.block_eval.specs.declared.columns.BlockColumn.{BlockColumn}
use Rattle.block_eval.specs.Columns.{IsRowAt}
use Rattle.zone_maps.specs.Known.{IsKnown}
use Rattle.block_eval.specs.Lanes.{truth_lane, AreAsked, AreOutcomes, AreOutcomesWithin, GivesTruths, GivesTruthsWithin, HasTruths, IsWanted}
use Rattle.block_summary.specs.Ranges.{RangeOf}

-- a wanted row is a row
pub wanted_within : (wanted : List Bool) (row : ℕ) → IsWanted wanted row → row < length wanted
wanted_within wanted row h = grind (arith, get_or_past, false≢true)

and_then-truths : (a b : Truth) (right : Option Truth) → (a ≢ False → right ≡ Some b) → and_then a right ≡ Some (least a b)
and_then-truths False False right h = refl
and_then-truths False Null right h = refl
and_then-truths False True right h = refl
and_then-truths Null b right h = ap (and_then Null) (h (λ e. cc))
and_then-truths True b right h = ap (and_then True) (h (λ e. cc))

or_then-truths : (a b : Truth) (right : Option Truth) → (a ≢ True → right ≡ Some b) → or_then a right ≡ Some (greatest a b)
or_then-truths True False right h = refl
or_then-truths True Null right h = refl
or_then-truths True True right h = refl
or_then-truths Null b right h = ap (or_then Null) (h (λ e. cc))
or_then-truths False b right h = ap (or_then False) (h (λ e. cc))

-- `and`
pub both-gives : (f g : List CellValue → Option Truth) (ranges : List RangeOf) (columns : List BlockColumn) (wanted asked : List Bool) (ls rs ts : List Truth) → GivesTruthsWithin f ranges columns wanted ls → AreAsked wanted ls False asked → GivesTruthsWithin g ranges columns asked rs
    → HasTruths (length rs) (λ row. least (truth_lane ls row) (truth_lane rs row)) ts
    → GivesTruthsWithin (λ cells. option_and_then (λ x. and_then x (g cells)) (f cells)) ranges columns wanted ts
both-gives f g ranges columns wanted asked ls rs ts left are right has =
    let size : length rs ≡ length wanted = right.long ∙ are.long in record {
      each = λ row cells h at within_ranges.
          let within : row < length rs = omega (arith, wanted_within wanted row h, size) in
          ap (option_and_then (λ x. and_then x (g cells))) (left.each row cells h at within_ranges)
          ∙ and_then-truths (truth_lane ls row) (truth_lane rs row) (g cells) (λ other. right.each row cells (are.each row h other) at within_ranges)
          ∙ ap Some (sym (has.each row within));
      long = has.long ∙ size;
    }

-- `or`
pub either-gives : (f g : List CellValue → Option Truth) (ranges : List RangeOf) (columns : List BlockColumn) (wanted asked : List Bool) (ls rs ts : List Truth) → GivesTruthsWithin f ranges columns wanted ls → AreAsked wanted ls True asked → GivesTruthsWithin g ranges columns asked rs
    → HasTruths (length rs) (λ row. greatest (truth_lane ls row) (truth_lane rs row)) ts
    → GivesTruthsWithin (λ cells. option_and_then (λ x. or_then x (g cells)) (f cells)) ranges columns wanted ts
either-gives f g ranges columns wanted asked ls rs ts left are right has =
    let size : length rs ≡ length wanted = right.long ∙ are.long in record {
      each = λ row cells h at within_ranges.
          let within : row < length rs = omega (arith, wanted_within wanted row h, size) in
          ap (option_and_then (λ x. or_then x (g cells))) (left.each row cells h at within_ranges)
          ∙ or_then-truths (truth_lane ls row) (truth_lane rs row) (g cells) (λ other. right.each row cells (are.each row h other) at within_ranges)
          ∙ ap Some (sym (has.each row within));
      long = has.long ∙ size;
    }

-- `not`
pub opposite-gives : (f : List CellValue → Option Truth) (ranges : List RangeOf) (columns : List BlockColumn) (wanted : List Bool) (ones ts : List Truth) → GivesTruthsWithin f ranges columns wanted ones → HasTruths (length ones) (λ row. opposite (truth_lane ones row)) ts
    → GivesTruthsWithin (λ cells. option_map opposite (f cells)) ranges columns wanted ts
opposite-gives f ranges columns wanted ones ts is has = record {
  each = λ row cells h at within_ranges.
      let within : row < length ones = omega (arith, wanted_within wanted row h, is.long) in
      ap (option_map opposite) (is.each row cells h at within_ranges) ∙ ap Some (sym (has.each row within));
  long = has.long ∙ is.long;
}

-- lanes of each row are lanes of the wanted ones
pub all-gives : (f : List CellValue → Option Truth) (g : ℕ → Truth) (columns : List BlockColumn) (wanted : List Bool) (ts : List Truth) → HasTruths (length wanted) g ts
    → ((row : ℕ) (cells : List CellValue) → IsWanted wanted row → IsRowAt columns row cells → f cells ≡ Some (g row)) → GivesTruths f columns wanted ts
all-gives f g columns wanted ts has is = record {
  each = λ row cells h at. is row cells h at ∙ ap Some (sym (has.each row (wanted_within wanted row h)));
  long = has.long;
}

-- a truth that depends on no row
pub same-gives : (e t : TruthExprOf) (truth : Truth) (columns : List BlockColumn) (wanted : List Bool) (ts : List Truth) → e ≡ t → ((cells : List CellValue) → truth_outcome e cells ≡ Some truth)
    → HasTruths (length wanted) (λ row. truth) ts → AreOutcomes t columns wanted ts
same-gives e t truth columns wanted ts tree is has =
    subst (λ x. AreOutcomes x columns wanted ts) tree (all-gives (truth_outcome e) (λ row. truth) columns wanted ts has (λ row cells h at. is cells))

-- lanes of rows are lanes of rows within ranges
pub within-gives : (e : TruthExprOf) (ranges : List RangeOf) (columns : List BlockColumn) (wanted : List Bool) (ts : List Truth) → AreOutcomes e columns wanted ts → AreOutcomesWithin e ranges columns wanted ts
within-gives e ranges columns wanted ts are = record { each = λ row cells h at within_ranges. are.each row cells h at; long = are.long }

-- where no row is wanted, any truths are right
pub none-gives : (f : List CellValue → Option Truth) (ranges : List RangeOf) (columns : List BlockColumn) (wanted : List Bool) (truth : Truth) (ts : List Truth) → ((row : ℕ) → get_or wanted row false ≡ false)
    → HasTruths (length wanted) (λ row. truth) ts → GivesTruthsWithin f ranges columns wanted ts
none-gives f ranges columns wanted truth ts none has = record {
  each = λ row cells h at within_ranges. absurd (false≢true (sym (none row) ∙ h));
  long = has.long;
}

-- a truth that the ranges tell
pub known-gives : (e : TruthExprOf) (truth : Truth) (ranges : List RangeOf) (columns : List BlockColumn) (wanted : List Bool) (ts : List Truth) → IsKnown e ranges truth
    → HasTruths (length wanted) (λ row. truth) ts → AreOutcomesWithin e ranges columns wanted ts
known-gives e truth ranges columns wanted ts known has = record {
  each = λ row cells h at within_ranges. known cells within_ranges ∙ ap Some (sym (has.each row (wanted_within wanted row h)));
  long = has.long;
}

-- ---- what a step gave

pub ok-gives : {X E : Type 0} (r : Result X E) (P Q : X → Type 0) → ((x : X) → P x → Q x) → IfOk r P → IfOk r Q
ok-gives (Ok x) P Q f h = f x h
ok-gives (Err e) P Q f h = h
