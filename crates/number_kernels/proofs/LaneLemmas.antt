-- One more row of a loop.
use Rattle.std.proofs.Common.{◌≡◌, ◌<◌, ℕ, Bool, List, length, ap, ◌∙◌, subst, sym, arith}
use Rattle.std.specs.Prelude.{ℤ, FitsSigned}
use Rattle.std.specs.Int.{w64}
use Rattle.std.proofs.lemmas.List.{get_or_past}
use Rattle.std.proofs.lemmas.Bool.{false≢true}
use Rattle.number_kernels.specs.declared.arithmetic.ExactOperator.{ExactOperator}
use Rattle.number_kernels.specs.Arithmetic.{exact}
use Rattle.std.specs.Ordering.{int_cmp}
use Rattle.cell_types.specs.declared.comparison.ComparisonOperator.{ComparisonOperator}
use Rattle.row_eval.specs.declared.truth.Truth.{Truth}
use Rattle.row_eval.specs.Comparison.{compared, holds}
use Rattle.row_eval.specs.Logic.{truth_of}
use Rattle.number_kernels.specs.declared.operand.Operand.{Operand}
use Rattle.number_kernels.specs.Lanes.{comparison, unless_null, IsWanted}
use Rattle.number_kernels.specs.Operands.{null_at, lane_value, operand_lane}

pub compared-more : (o : ComparisonOperator) (l r : Operand) (i : ℕ) (ln rn : Bool) (lv rv : ℤ) (h : Bool) (t : Truth) → ln ≡ null_at l i → lv ≡ lane_value l i → rn ≡ null_at r i → rv ≡ lane_value r i
    → h ≡ holds o (compared int_cmp (unless_null ln lv) (unless_null rn rv)) → t ≡ truth_of h
    → t ≡ comparison o (operand_lane l i) (operand_lane r i)
compared-more o l r i ln rn lv rv h t eln elv ern erv eh et =
    et ∙ ap truth_of (eh
    ∙ ap (λ n. holds o (compared int_cmp (unless_null n lv) (unless_null rn rv))) eln
    ∙ ap (λ v. holds o (compared int_cmp (unless_null (null_at l i) v) (unless_null rn rv))) elv
    ∙ ap (λ n. holds o (compared int_cmp (operand_lane l i) (unless_null n rv))) ern
    ∙ ap (λ v. holds o (compared int_cmp (operand_lane l i) (unless_null (null_at r i) v))) erv)

pub exact-more : (o : ExactOperator) (l r : Operand) (i : ℕ) (lv rv v : ℤ) → lv ≡ lane_value l i → rv ≡ lane_value r i → (FitsSigned w64 (exact o lv rv) → v ≡ exact o lv rv)
    → FitsSigned w64 (exact o (lane_value l i) (lane_value r i)) → v ≡ exact o (lane_value l i) (lane_value r i)
exact-more o l r i lv rv v elv erv e fits =
    let same : exact o lv rv ≡ exact o (lane_value l i) (lane_value r i) = ap (λ x. exact o x rv) elv ∙ ap (exact o (lane_value l i)) erv in
    e (subst (FitsSigned w64) (sym same) fits) ∙ same

-- a wanted row is a row
pub wanted_within : (wanted : List Bool) (row : ℕ) → IsWanted wanted row → row < length wanted
wanted_within wanted row h = grind (arith, get_or_past, false≢true)
