-- What is said of operands, of the vectors that they are of.
use Rattle.std.proofs.Common.{◌≡◌, ◌||◌, ℕ, Bool, true, false, Some, List, length, get_or, refl, sym, ap, ◌∙◌, subst, arith}
use Rattle.std.specs.Prelude.{ℤ, pos, ◌<◌, option_map, FitsSigned}
use Rattle.std.specs.Int.{w64}
use Rattle.typed_trees.specs.declared.operator.ArithmeticOperator.{ArithmeticOperator}
use Rattle.cell_types.specs.declared.comparison.ComparisonOperator.{ComparisonOperator}
use Rattle.row_eval.specs.declared.truth.Truth.{Truth}
use Rattle.row_eval.specs.Outcome.{computed, operation}
use Rattle.number_kernels.specs.declared.arithmetic.ExactOperator.{ExactOperator}
use Rattle.number_kernels.specs.declared.arithmetic.ExactOperator.TheVariants.{Add, Sub, Mul}
use Rattle.number_kernels.specs.declared.division.DivisionSides.{DivisionSides}
use Rattle.number_kernels.specs.declared.division.QuotientOperator.{QuotientOperator}
use Rattle.number_kernels.specs.declared.numbers.Numbers.{Numbers}
use Rattle.number_kernels.specs.declared.operand.Operand.{Operand}
use Rattle.number_kernels.specs.Arithmetic.{exact, operator_of, operator_of_quotient, AllFit, HasNulls, HasQuotients, HasValues}
use Rattle.number_kernels.specs.Lanes.{number_at, unless_null}
use Rattle.number_kernels.specs.Lanes.{comparison, number_lane, AreComputed, AreComputedFitting, AreLong, HasTruths, LanesFit}
use Rattle.number_kernels.specs.Operands.{null_at, lane_value, operand_lane, IsOperandOf}
use Rattle.number_kernels.proofs.LaneLemmas.{wanted_within}

pub operands-compared : (o : ComparisonOperator) (rows : ℕ) (l r : Numbers) (a b : Operand) (ts : List Truth) → IsOperandOf l a → IsOperandOf r b
    → HasTruths rows (λ row. comparison o (operand_lane a row) (operand_lane b row)) ts → HasTruths rows (λ row. comparison o (number_lane l row) (number_lane r row)) ts
operands-compared o rows l r a b ts is_left is_right has = record {
  each = λ row h. has.each row h ∙ ap (λ x. comparison o x (operand_lane b row)) (is_left.each row) ∙ ap (comparison o (number_lane l row)) (is_right.each row);
  long = has.long;
}

operation-exact : (o : ExactOperator) (a b : ℤ) → operation (operator_of o) a b ≡ Some (exact o a b)
operation-exact Add a b = refl
operation-exact Sub a b = refl
operation-exact Mul a b = refl

exact-fits : (o : ExactOperator) (a b : ℤ) → LanesFit (operator_of o) (Some a) (Some b) → FitsSigned w64 (exact o a b)
exact-fits Add a b fits = fits
exact-fits Sub a b fits = fits
exact-fits Mul a b fits = fits

lanes-fit : (o : ExactOperator) (a b : ℤ) → FitsSigned w64 (exact o a b) → LanesFit (operator_of o) (Some a) (Some b)
lanes-fit Add a b fits = fits
lanes-fit Sub a b fits = fits
lanes-fit Mul a b fits = fits

lanes : (o : ExactOperator) (ln rn n : Bool) (lv rv v : ℤ) → n ≡ (ln || rn) → (FitsSigned w64 (exact o lv rv) → v ≡ exact o lv rv)
    → LanesFit (operator_of o) (unless_null ln lv) (unless_null rn rv) → computed (operator_of o) (unless_null ln lv) (unless_null rn rv) ≡ Some (unless_null n v)
lanes o true true n lv rv v e h fits = ap (λ b. Some (unless_null b v)) (sym e)
lanes o true false n lv rv v e h fits = ap (λ b. Some (unless_null b v)) (sym e)
lanes o false true n lv rv v e h fits = ap (λ b. Some (unless_null b v)) (sym e)
lanes o false false n lv rv v e h fits =
    ap (option_map (λ x. Some x)) (operation-exact o lv rv) ∙ ap (λ x. Some (Some x)) (sym (h (exact-fits o lv rv fits))) ∙ ap (λ b. Some (unless_null b v)) (sym e)

pub operands-computed : (o : ExactOperator) (wanted : List Bool) (l r v : Numbers) (a b : Operand) (nulls : List Bool) (values : List ℤ)
    → IsOperandOf l a → IsOperandOf r b → HasNulls (length wanted) a b nulls → HasValues (length wanted) o a b values
    → AreLong (length wanted) v → ((row : ℕ) → number_lane v row ≡ number_at values nulls row) → AreComputedFitting (operator_of o) l r wanted v
operands-computed o wanted l r v a b nulls values is_left is_right has_nulls has_values long is =
    let op = operator_of o in record {
      each = λ row h fits.
          let within = wanted_within wanted row h in
          let inside : row < length values = omega (arith, within, has_values.long) in
          let fit : LanesFit op (operand_lane a row) (operand_lane b row) =
          subst (λ y. LanesFit op (operand_lane a row) y) (sym (is_right.each row)) (subst (λ x. LanesFit op x (number_lane r row)) (sym (is_left.each row)) fits) in
          ap (λ x. computed op x (number_lane r row)) (sym (is_left.each row))
          ∙ ap (λ y. computed op (operand_lane a row) y) (sym (is_right.each row))
          ∙ lanes o (null_at a row) (null_at b row) (get_or nulls row true) (lane_value a row) (lane_value b row) (get_or values row (pos 0)) (has_nulls.each row within) (has_values.each row inside) fit
          ∙ ap Some (sym (is row));
      long = long;
    }

small-lanes : (o : ExactOperator) (ln rn : Bool) (lv rv : ℤ) → FitsSigned w64 (exact o lv rv) → LanesFit (operator_of o) (unless_null ln lv) (unless_null rn rv)
small-lanes o true true lv rv fits = tt
small-lanes o true false lv rv fits = tt
small-lanes o false true lv rv fits = tt
small-lanes o false false lv rv fits = lanes-fit o lv rv fits

-- where all fit, all are computed
pub all-computed : (o : ExactOperator) (wanted : List Bool) (l r v : Numbers) (a b : Operand) → IsOperandOf l a → IsOperandOf r b → AllFit (length wanted) o a b
    → AreComputedFitting (operator_of o) l r wanted v → AreComputed (operator_of o) l r wanted v
all-computed o wanted l r v a b is_left is_right all is = record {
  each = λ row h.
      let fits = small-lanes o (null_at a row) (null_at b row) (lane_value a row) (lane_value b row) (all row (wanted_within wanted row h)) in
      is.each row h (subst (λ y. LanesFit (operator_of o) (number_lane l row) y) (is_right.each row) (subst (λ x. LanesFit (operator_of o) x (operand_lane b row)) (is_left.each row) fits));
  long = is.long;
}

-- what is computed on each row is so where it fits
pub computed-fitting : (o : ArithmeticOperator) (wanted : List Bool) (l r v : Numbers) → AreComputed o l r wanted v → AreComputedFitting o l r wanted v
computed-fitting o wanted l r v is = record { each = λ row h fits. is.each row h; long = is.long }

quotient-lanes : (o : QuotientOperator) (ln rn n : Bool) (lv rv v : ℤ) → n ≡ (ln || rn) → (n ≡ false → operation (operator_of_quotient o) lv rv ≡ Some v)
    → computed (operator_of_quotient o) (unless_null ln lv) (unless_null rn rv) ≡ Some (unless_null n v)
quotient-lanes o true true n lv rv v e h = ap (λ b. Some (unless_null b v)) (sym e)
quotient-lanes o true false n lv rv v e h = ap (λ b. Some (unless_null b v)) (sym e)
quotient-lanes o false true n lv rv v e h = ap (λ b. Some (unless_null b v)) (sym e)
quotient-lanes o false false n lv rv v e h = ap (option_map (λ x. Some x)) (h e) ∙ ap (λ b. Some (unless_null b v)) (sym e)

pub operands-divided : (o : QuotientOperator) (wanted : List Bool) (l r v : Numbers) (sides : DivisionSides) (values : List ℤ)
    → IsOperandOf l sides.left → IsOperandOf r sides.right → HasNulls (length wanted) sides.left sides.right sides.nulls.now → HasQuotients o sides wanted values
    → AreLong (length wanted) v → ((row : ℕ) → number_lane v row ≡ number_at values sides.nulls.now row) → AreComputed (operator_of_quotient o) l r wanted v
operands-divided o wanted l r v sides values is_left is_right has_nulls has long is =
    let op = operator_of_quotient o in
    let a = sides.left in
    let b = sides.right in
    let nulls = sides.nulls.now in record {
      each = λ row h.
          let within = wanted_within wanted row h in
          let inside : row < length values = omega (arith, within, has.long) in
          ap (λ x. computed op x (number_lane r row)) (sym (is_left.each row))
          ∙ ap (λ y. computed op (operand_lane a row) y) (sym (is_right.each row))
          ∙ quotient-lanes o (null_at a row) (null_at b row) (get_or nulls row true) (lane_value a row) (lane_value b row) (get_or values row (pos 0)) (has_nulls.each row within) (has.each row inside h)
          ∙ ap Some (sym (is row));
      long = long;
    }
