-- An expression that cannot fault has a value on each row.
use Rattle.std.proofs.Common.{◌≡◌, Bool, true, false, ◌||◌, ◌&&◌, Option, None, Some, List, refl, sym, ap}
use Rattle.std.specs.Prelude.{ℤ, pos, neg_ℤ, not, IsSome, option_map, option_and_then}
use Rattle.std.specs.Ordering.{int_eq}
use Rattle.std.proofs.Common.{arith}
use Rattle.std.proofs.lemmas.Int.{ints}
use Rattle.std.proofs.lemmas.Bool.{false≢true, not-false, not-true, or_parts}
use Rattle.cell_types.specs.Value.{CellValue}
use Rattle.typed_trees.specs.declared.operator.ArithmeticOperator.{ArithmeticOperator}
use Rattle.typed_trees.specs.declared.operator.ArithmeticOperator.TheVariants.{Add, Sub, Mul, Div, Mod}
use Rattle.typed_trees.specs.CanFault.{can_fault, divides, is_nonzero, is_safe_divisor, number_can_fault, truth_can_fault}
use Rattle.typed_trees.specs.TypedTree as typed
use Rattle.typed_trees.specs.TypedTree.{NumberExprOf, TruthExprOf, TypedExprOf}
use Rattle.row_eval.specs.declared.truth.Truth.{Truth}
use Rattle.row_eval.specs.declared.truth.Truth.TheVariants as truths
use Rattle.row_eval.specs.Logic.{and_then, or_then}
use Rattle.row_eval.specs.Outcome.{both, computed, number_outcome, operation, outcome, truth_outcome}

some_map : {X Y : Type 0} (f : X → Y) (o : Option X) → IsSome o → IsSome (option_map f o)
some_map f None h = absurd (false≢true h)
some_map f (Some x) h = refl

some_both : {X Y : Type 0} (f : X → X → Y) (a b : Option X) → IsSome a → IsSome b → IsSome (both f a b)
some_both f None b h k = absurd (false≢true h)
some_both f (Some x) b h k = some_map (f x) b k

-- a number that is not zero divides
divided : (o : ArithmeticOperator) (a b : ℤ) → int_eq b (pos 0) ≡ false → IsSome (operation o a b)
divided Add a b e = refl
divided Sub a b e = refl
divided Mul a b e = refl
divided Div a b e = rw e refl
divided Mod a b e = rw e refl

undivided : (o : ArithmeticOperator) (a b : ℤ) → divides o ≡ false → IsSome (operation o a b)
undivided Add a b e = refl
undivided Sub a b e = refl
undivided Mul a b e = refl
undivided Div a b e = absurd (false≢true (sym e))
undivided Mod a b e = absurd (false≢true (sym e))

computed_if : (o : ArithmeticOperator) (x y : Option ℤ) → ((a b : ℤ) → y ≡ Some b → IsSome (operation o a b)) → IsSome (computed o x y)
computed_if o None y f = refl
computed_if o (Some a) None f = refl
computed_if o (Some a) (Some b) f = some_map (λ n. Some n) (operation o a b) (f a b refl)

joined_if : (o : ArithmeticOperator) (x y : Option (Option ℤ)) → IsSome x → IsSome y → ((a b : ℤ) → y ≡ Some (Some b) → IsSome (operation o a b))
    → IsSome (option_and_then (λ u. option_and_then (λ v. computed o u v) y) x)
joined_if o None y h k f = absurd (false≢true h)
joined_if o (Some u) None h k f = absurd (false≢true k)
joined_if o (Some u) (Some v) h k f = computed_if o u v (λ a b e. f a b (ap (λ w. Some w) e))

same_number : (n b : ℤ) → Some (Some n) ≡ Some (Some b) → n ≡ b
same_number n b e = cc

-- the value of a literal that is not zero is not zero
nonzero_value : (e : NumberExprOf) (row : List CellValue) (b : ℤ) → is_nonzero e ≡ true → number_outcome e row ≡ Some (Some b) → int_eq b (pos 0) ≡ false
nonzero_value (typed.number_literal n) row b safe is = rw (← same_number n b is) (not-true (int_eq n (pos 0)) safe)
nonzero_value typed.null_number row b safe is = absurd (false≢true safe)
nonzero_value (typed.number_column k p) row b safe is = absurd (false≢true safe)
nonzero_value (typed.negated a) row b safe is = absurd (false≢true safe)
nonzero_value (typed.arithmetic o x y) row b safe is = absurd (false≢true safe)
nonzero_value (typed.length_of t) row b safe is = absurd (false≢true safe)
nonzero_value (typed.index_of t p) row b safe is = absurd (false≢true safe)
nonzero_value (typed.part_of p d) row b safe is = absurd (false≢true safe)
nonzero_value (typed.scaled a) row b safe is = absurd (false≢true safe)

opposite_nonzero : (n : ℤ) → int_eq n (pos 0) ≡ false → int_eq (neg_ℤ n) (pos 0) ≡ false
opposite_nonzero n e = grind (arith, ints)

negated_value : (v : Option (Option ℤ)) (b : ℤ) → option_map (option_map neg_ℤ) v ≡ Some (Some b) → (n : ℤ) × (v ≡ Some (Some n)) × (neg_ℤ n ≡ b)
negated_value None b e = absurd (cc)
negated_value (Some None) b e = absurd (cc)
negated_value (Some (Some n)) b e = (n, refl, same_number (neg_ℤ n) b e)

safe_value : (e : NumberExprOf) (row : List CellValue) (b : ℤ) → is_safe_divisor e ≡ true → number_outcome e row ≡ Some (Some b) → int_eq b (pos 0) ≡ false
safe_value (typed.negated a) row b safe is =
    let v = negated_value (number_outcome a row) b is in
    rw (← v.2) (opposite_nonzero v.0 (nonzero_value a row v.0 safe v.1))
safe_value (typed.number_literal n) row b safe is = nonzero_value (typed.number_literal n) row b safe is
safe_value typed.null_number row b safe is = absurd (false≢true safe)
safe_value (typed.number_column k p) row b safe is = absurd (false≢true safe)
safe_value (typed.arithmetic o x y) row b safe is = absurd (false≢true safe)
safe_value (typed.length_of t) row b safe is = absurd (false≢true safe)
safe_value (typed.index_of t p) row b safe is = absurd (false≢true safe)
safe_value (typed.part_of p d) row b safe is = absurd (false≢true safe)
safe_value (typed.scaled a) row b safe is = absurd (false≢true safe)

-- an operator on a safe divisor, or one that does not divide
no_fault : (o : ArithmeticOperator) (e : NumberExprOf) (row : List CellValue) (d : Bool) → divides o ≡ d → (d && not (is_safe_divisor e)) ≡ false → (a b : ℤ) → number_outcome e row ≡ Some (Some b) → IsSome (operation o a b)
no_fault o e row false div h a b is = undivided o a b div
no_fault o e row true div h a b is = divided o a b (safe_value e row b (not-false (is_safe_divisor e) h) is)

pub number_has_value : (e : NumberExprOf) (row : List CellValue) → number_can_fault e ≡ false → IsSome (number_outcome e row)
number_has_value typed.null_number row h = refl
number_has_value (typed.number_column k p) row h = refl
number_has_value (typed.number_literal n) row h = refl
number_has_value (typed.negated a) row h = some_map (option_map neg_ℤ) (number_outcome a row) (number_has_value a row h)
number_has_value (typed.arithmetic o a b) row h =
    let d = divides o && not (is_safe_divisor b) in
    let left : (d || number_can_fault a) ≡ false = (or_parts (d || number_can_fault a) (number_can_fault b) h).0 in
    joined_if o (number_outcome a row) (number_outcome b row)
    (number_has_value a row (or_parts d (number_can_fault a) left).1) (number_has_value b row (or_parts (d || number_can_fault a) (number_can_fault b) h).1)
    (no_fault o b row (divides o) refl (or_parts d (number_can_fault a) left).0)
number_has_value (typed.length_of t) row h = refl
number_has_value (typed.index_of t p) row h = refl
number_has_value (typed.part_of p d) row h = refl
number_has_value (typed.scaled a) row h = some_map _ (number_outcome a row) (number_has_value a row h)

two_numbers : {Y : Type 0} (f : Option ℤ → Option ℤ → Y) (a b : NumberExprOf) (row : List CellValue) → (number_can_fault a || number_can_fault b) ≡ false → IsSome (both f (number_outcome a row) (number_outcome b row))
two_numbers f a b row h = some_both f (number_outcome a row) (number_outcome b row) (number_has_value a row (or_parts (number_can_fault a) (number_can_fault b) h).0) (number_has_value b row (or_parts (number_can_fault a) (number_can_fault b) h).1)

some_and : (x : Truth) (right : Option Truth) → IsSome right → IsSome (and_then x right)
some_and truths.False right h = refl
some_and truths.Null right h = some_map _ right h
some_and truths.True right h = some_map _ right h

some_or : (x : Truth) (right : Option Truth) → IsSome right → IsSome (or_then x right)
some_or truths.True right h = refl
some_or truths.Null right h = some_map _ right h
some_or truths.False right h = some_map _ right h

some_bind : (f : Truth → Option Truth) (left : Option Truth) → IsSome left → ((x : Truth) → IsSome (f x)) → IsSome (option_and_then f left)
some_bind f None h k = absurd (false≢true h)
some_bind f (Some x) h k = k x

pub truth_has_value : (e : TruthExprOf) (row : List CellValue) → truth_can_fault e ≡ false → IsSome (truth_outcome e row)
truth_has_value typed.null_truth row h = refl
truth_has_value (typed.truth_column p) row h = refl
truth_has_value (typed.truth_literal b) row h = refl
truth_has_value (typed.negation a) row h = some_map _ (truth_outcome a row) (truth_has_value a row h)
truth_has_value (typed.conjunction a b) row h =
    let right = truth_has_value b row (or_parts (truth_can_fault a) (truth_can_fault b) h).1 in
    some_bind _ (truth_outcome a row) (truth_has_value a row (or_parts (truth_can_fault a) (truth_can_fault b) h).0) (λ x. some_and x (truth_outcome b row) right)
truth_has_value (typed.disjunction a b) row h =
    let right = truth_has_value b row (or_parts (truth_can_fault a) (truth_can_fault b) h).1 in
    some_bind _ (truth_outcome a row) (truth_has_value a row (or_parts (truth_can_fault a) (truth_can_fault b) h).0) (λ x. some_or x (truth_outcome b row) right)
truth_has_value (typed.compare_numbers o a b) row h = two_numbers _ a b row h
truth_has_value (typed.compare_texts o a b) row h = refl
truth_has_value (typed.compare_truths o a b) row h = some_both _ (truth_outcome a row) (truth_outcome b row) (truth_has_value a row (or_parts (truth_can_fault a) (truth_can_fault b) h).0) (truth_has_value b row (or_parts (truth_can_fault a) (truth_can_fault b) h).1)
truth_has_value (typed.number_in a items) row h = some_map _ (number_outcome a row) (number_has_value a row h)
truth_has_value (typed.text_in a items) row h = refl
truth_has_value (typed.truth_in a items) row h = some_map _ (truth_outcome a row) (truth_has_value a row h)
truth_has_value (typed.test_text test t p) row h = refl

pub has_value : (e : TypedExprOf) (row : List CellValue) → can_fault e ≡ false → IsSome (outcome e row)
has_value typed.nothing row h = refl
has_value (typed.integer e bound) row h = some_map _ (number_outcome e row) (number_has_value e row h)
has_value (typed.text e) row h = refl
has_value (typed.truth e) row h = some_map _ (truth_outcome e row) (truth_has_value e row h)
has_value (typed.date e) row h = refl
has_value (typed.decimal e bound) row h = some_map _ (number_outcome e row) (number_has_value e row h)
