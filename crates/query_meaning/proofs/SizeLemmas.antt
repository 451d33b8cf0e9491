-- Sizes: of numbers by what computes them, and of texts.
use Rattle.std.proofs.Common.{◌≡◌, ℕ, zero, suc, ◌+◌, ◌*◌, ◌/◌, ◌%◌, ◌-◌, ◌^◌, ◌≤◌, Bool, true, false, Option, Some, None, List, [], ◌∷◌, ◌++◌, length, refl, arith, length-append, nat_eq, if◌then◌else◌}
use Rattle.std.specs.Prelude.{ℤ, pos, negsuc, neg_ℤ, ◌+ℤ◌, ◌-ℤ◌, ◌*ℤ◌, int_div, int_rem, unsigned_abs, IfSome, FitsSigned, option_and_then, option_map}
use Rattle.std.specs.Int.{w128}
use Rattle.std.specs.List.{starts_with}
use Rattle.std.specs.Ordering.{int_eq}
use Rattle.std.specs.Str.{chars, chars_after, continuation_len, lead_bits}
use Rattle.std.proofs.lemmas.Int.{ints, unsigned_abs-mul, fits_signed_from_abs}
use Rattle.std.proofs.lemmas.Nat.{mul-le}
use Rattle.std.proofs.Math.Nat.{div-le_self, mod-le}
use Rattle.typed_trees.specs.declared.operator.ArithmeticOperator.{ArithmeticOperator}
use Rattle.typed_trees.specs.declared.operator.ArithmeticOperator.TheVariants.{Add, Sub, Mul, Div, Mod}
use Rattle.typed_trees.specs.declared.tree.TheConstants.{MILLIONTHS}
use Rattle.odata_types.specs.declared.types.TheConstants.{MOST_SIZE, FUNCTION_SIZE}
use Rattle.typed_trees.specs.declared.tree.DatePart.{DatePart}
use Rattle.typed_trees.specs.declared.tree.DatePart.TheVariants as part
use Rattle.typed_trees.specs.TypedTree.{DayOf}
use Rattle.odata_types.specs.Typing.{computed_size}
use Rattle.row_eval.specs.Bounds.{Fits}
use Rattle.odata_types.specs.Input.{IsDay}
use Rattle.row_eval.specs.Outcome.{computed, joined, operation, part_in}
use Rattle.row_eval.specs.Text.{index_in, index_of_place, length_in, place_of_part}

-- ---- sizes of numbers

abbrev pub AtMost : ℕ → Option ℤ → Type 0
AtMost b v = IfSome v (λ n. unsigned_abs n ≤ b)

abbrev pub Sized : Option (Option ℤ) → ℕ → Type 0
Sized o b = IfSome o (AtMost b)

small : (z : ℤ) (n : ℕ) → unsigned_abs z ≤ n → n ≤ MOST_SIZE → FitsSigned w128 z
small z n h limit = fits_signed_from_abs w128 z (omega arith)

pub fits_of : (o : Option (Option ℤ)) (b : ℕ) → b ≤ MOST_SIZE → Sized o b → Fits o
fits_of None b limit h = tt
fits_of (Some None) b limit h = tt
fits_of (Some (Some n)) b limit h = small n b h limit

abs-neg : (z : ℤ) → unsigned_abs (neg_ℤ z) ≡ unsigned_abs z
abs-neg (pos zero) = refl
abs-neg (pos (suc n)) = refl
abs-neg (negsuc n) = refl

pub negated_sized : (o : Option (Option ℤ)) (b : ℕ) → Sized o b → Sized (option_map (option_map neg_ℤ) o) b
negated_sized None b h = tt
negated_sized (Some None) b h = tt
negated_sized (Some (Some n)) b h = rw (abs-neg n) h

abs-add : (a b : ℤ) → unsigned_abs (a +ℤ b) ≤ unsigned_abs a + unsigned_abs b
abs-add a b = omega (arith, ints)

abs-sub : (a b : ℤ) → unsigned_abs (a -ℤ b) ≤ unsigned_abs a + unsigned_abs b
abs-sub a b = omega (arith, ints)

abs-div : (a b : ℤ) → unsigned_abs (int_div a b) ≤ unsigned_abs a
abs-div (pos a) (pos b) = div-le_self a b
abs-div (pos a) (negsuc b) = rw (abs-neg (pos (a / suc b))) (div-le_self a (suc b))
abs-div (negsuc a) (pos b) = rw (abs-neg (pos (suc a / b))) (div-le_self (suc a) b)
abs-div (negsuc a) (negsuc b) = div-le_self (suc a) (suc b)

abs-rem : (a b : ℤ) → unsigned_abs (int_rem a b) ≤ unsigned_abs a
abs-rem (pos a) b = mod-le a (unsigned_abs b)
abs-rem (negsuc a) b = rw (abs-neg (pos (suc a % unsigned_abs b))) (mod-le (suc a) (unsigned_abs b))

operated : (o : ArithmeticOperator) (x y : ℤ) (a b : ℕ) → unsigned_abs x ≤ a → unsigned_abs y ≤ b → IfSome (operation o x y) (λ n. unsigned_abs n ≤ computed_size o a b)
operated Add x y a b p q = omega (arith, abs-add x y)
operated Sub x y a b p q = omega (arith, abs-sub x y)
operated Mul x y a b p q = rw (unsigned_abs-mul x y) (mul-le (unsigned_abs x) (unsigned_abs y) a b p q)
operated Div x y a b p q = by (int_eq y (pos 0))
  where
    by : (c : Bool) → IfSome (if c then None else Some (int_div x y)) (λ n. unsigned_abs n ≤ a)
    by true = tt
    by false = omega (arith, abs-div x y)
operated Mod x y a b p q = by (int_eq y (pos 0))
  where
    by : (c : Bool) → IfSome (if c then None else Some (int_rem x y)) (λ n. unsigned_abs n ≤ a)
    by true = tt
    by false = omega (arith, abs-rem x y)

lifted : (r : Option ℤ) (s : ℕ) → IfSome r (λ n. unsigned_abs n ≤ s) → Sized (option_map (λ n. Some n) r) s
lifted None s h = tt
lifted (Some n) s h = h

computed_sized : (o : ArithmeticOperator) (v w : Option ℤ) (a b : ℕ) → AtMost a v → AtMost b w → Sized (computed o v w) (computed_size o a b)
computed_sized o (Some x) (Some y) a b p q = lifted (operation o x y) (computed_size o a b) (operated o x y a b p q)
computed_sized o (Some x) None a b p q = tt
computed_sized o None w a b p q = tt

pub arithmetic_sized : (o : ArithmeticOperator) (v w : Option (Option ℤ)) (a b : ℕ) → Sized v a → Sized w b → Sized (option_and_then (λ x. option_and_then (λ y. computed o x y) w) v) (computed_size o a b)
arithmetic_sized o None w a b p q = tt
arithmetic_sized o (Some x) None a b p q = tt
arithmetic_sized o (Some x) (Some y) a b p q = computed_sized o x y a b p q

pub scaled_sized : (o : Option (Option ℤ)) (b : ℕ) → Sized o b → Sized (option_map (option_map (λ x. x *ℤ pos MILLIONTHS)) o) (b * MILLIONTHS)
scaled_sized None b h = tt
scaled_sized (Some None) b h = tt
scaled_sized (Some (Some n)) b h = rw (unsigned_abs-mul n (pos MILLIONTHS)) (mul-le (unsigned_abs n) MILLIONTHS b MILLIONTHS h (omega arith))

-- ---- sizes of texts

after_len : (n c : ℕ) (bs : List ℕ) → length (chars_after n c bs) ≤ length bs + 1
after_len zero c [] = omega arith
after_len zero c (b ∷ bs) = let h = after_len (continuation_len b) (lead_bits b) bs in omega (arith, h)
after_len (suc n) c [] = omega arith
after_len (suc n) c (b ∷ bs) = let h = after_len n (c * 64 + (b - 128)) bs in omega (arith, h)

chars_len : (t : List ℕ) → length (chars t) ≤ length t
unfolding chars
chars_len [] = omega arith
chars_len (b ∷ bs) = let h = after_len (continuation_len b) (lead_bits b) bs in omega (arith, h)

place_len : (text p : List ℕ) → IfSome (place_of_part text p) (λ k. k ≤ length text)
place_len [] p = by (starts_with nat_eq [] p)
  where
    by : (s : Bool) → IfSome (if s then Some 0 else None) (λ k. k ≤ 0)
    by true = omega arith
    by false = tt
place_len (b ∷ bs) p = by (starts_with nat_eq (b ∷ bs) p) (place_of_part bs p) (place_len bs p)
  where
    by : (s : Bool) (r : Option ℕ) → IfSome r (λ k. k ≤ length bs) → IfSome (if s then Some 0 else option_map suc r) (λ k. k ≤ length (b ∷ bs))
    by true r h = omega arith
    by false None h = tt
    by false (Some k) h = omega (arith, h)

index_size : (r : Option ℕ) (n : ℕ) → IfSome r (λ k. k ≤ n) → n ≤ FUNCTION_SIZE → unsigned_abs (index_of_place r) ≤ FUNCTION_SIZE
index_size None n h limit = omega arith
index_size (Some k) n h limit = omega (arith, h)

pub length_sized : (v : Option (List ℕ)) (k : ℕ) → k ≤ 1_024 → IfSome v (λ t. length t ≤ k * 2 ^ 30) → Sized (Some (option_map length_in v)) FUNCTION_SIZE
length_sized None k few h = tt
length_sized (Some t) k few h = omega (arith, chars_len t, h)

pub index_sized : (v w : Option (List ℕ)) (k : ℕ) → k ≤ 1_024 → IfSome v (λ t. length t ≤ k * 2 ^ 30) → Sized (Some (joined index_in v w)) FUNCTION_SIZE
index_sized None w k few h = tt
index_sized (Some t) None k few h = tt
index_sized (Some t) (Some p) k few h = index_size (place_of_part (chars t) (chars p)) (length (chars t)) (place_len (chars t) (chars p)) (omega (arith, chars_len t, h))

pub concat_sized : (v w : Option (List ℕ)) (j k : ℕ) → IfSome v (λ t. length t ≤ j * 2 ^ 30) → IfSome w (λ t. length t ≤ k * 2 ^ 30) → IfSome (joined (λ x y. x ++ y) v w) (λ t. length t ≤ (j + k + 1) * 2 ^ 30)
concat_sized None w j k p q = tt
concat_sized (Some x) None j k p q = tt
concat_sized (Some x) (Some y) j k p q = omega (arith, length-append x y, p, q)

pub part_sized : (p : DatePart) (v : Option DayOf) → IfSome v (λ d. IsDay (unsigned_abs d.year) d.month d.day) → Sized (Some (option_map (part_in p) v)) FUNCTION_SIZE
part_sized p None h = tt
part_sized part.Year (Some d) h = omega (arith, h.0)
part_sized part.Month (Some d) h = omega (arith, h.1)
part_sized part.Day (Some d) h = omega (arith, h.2)
