-- Zeros at the end of digits, and the text with its sign.
use Rattle.std.proofs.Common.{◌≡◌, ℕ, ℤ, pos, negsuc, ◌<ℤ◌, ◌≤ℤ◌, SFits, of_z, to_z, ◌+◌, ◌-◌, ◌<◌, ◌≤◌, ◌&&◌, Bool, true, false, cond, List, [], ◌∷◌, ◌++◌, length, get_or, take, refl, sym, ap, ap₂, ◌∙◌, arith}
use Rattle.std.specs.Int.{w128}
use Rattle.std.specs.List.{list_all}
use Rattle.std.proofs.lemmas.Bool.{false_from_ne_true, eqb-true}
use Rattle.std.proofs.lemmas.List.{take_more}
use Rattle.std.proofs.lemmas.List.Folds.{list_all-append}
use Rattle.std.specs.Prelude.{unsigned_abs}
use Rattle.std.proofs.lemmas.Int.{ints, to_z-of_z}
use Rattle.std.proofs.Math.Bool.{and-true, and-false}
use Rattle.cell_types.specs.Decimal.{decimal_text, is_zero, millionths_text, without_last_zeros}

all_zeros : (ds : List ℕ) (d : ℕ) (b : Bool) → is_zero d ≡ b → list_all is_zero (ds ++ d ∷ []) ≡ (list_all is_zero ds && b)
all_zeros ds d b e = list_all-append is_zero ds (d ∷ []) ∙ ap (λ t. list_all is_zero ds && t) (and-true (is_zero d) ∙ e)

-- one zero more at the end changes nothing
zero_left_out : (ds : List ℕ) → without_last_zeros (ds ++ 48 ∷ []) ≡ without_last_zeros ds
zero_left_out [] = refl
zero_left_out (d ∷ ds) =
    ap₂ (λ b rest. cond (is_zero d && b) [] (d ∷ rest)) (all_zeros ds 48 true refl ∙ and-true (list_all is_zero ds)) (zero_left_out ds)

-- after another digit none is left out
last_kept : (ds : List ℕ) (d : ℕ) → is_zero d ≡ false → without_last_zeros (ds ++ d ∷ []) ≡ ds ++ d ∷ []
last_kept [] d other = ap (λ b. cond (b && true) [] (d ∷ [])) other
last_kept (x ∷ ds) d other =
    ap₂ (λ b rest. cond b [] (x ∷ rest)) (ap (λ b. is_zero x && b) (all_zeros ds d false other ∙ and-false (list_all is_zero ds)) ∙ and-false (is_zero x)) (last_kept ds d other)

taken : (ds : List ℕ) (n : ℕ) → 0 < n → n ≤ length ds → take n ds ≡ take (n - 1) ds ++ get_or ds (n - 1) 0 ∷ []
taken ds n some le = let e : n - 1 + 1 ≡ n = omega arith in ap (λ k. take k ds) (sym e) ∙ take_more ds (n - 1) 0 (omega arith)

pub without-zero : (ds rest : List ℕ) (n : ℕ) → 0 < n → n ≤ length ds → get_or ds (n - 1) 0 ≡ 48 → without_last_zeros (take n ds) ≡ rest → without_last_zeros (take (n - 1) ds) ≡ rest
without-zero ds rest n some le zero is =
    sym (zero_left_out (take (n - 1) ds)) ∙ ap (λ d. without_last_zeros (take (n - 1) ds ++ d ∷ [])) (sym zero) ∙ ap without_last_zeros (sym (taken ds n some le)) ∙ is

pub without-other : (ds rest : List ℕ) (n : ℕ) → 0 < n → n ≤ length ds → (get_or ds (n - 1) 0 ≡ 48 → ⊥) → without_last_zeros (take n ds) ≡ rest → take n ds ≡ rest
without-other ds rest n some le other is =
    let no : is_zero (get_or ds (n - 1) 0) ≡ false = false_from_ne_true _ (λ t. other (eqb-true (get_or ds (n - 1) 0) 48 t)) in
    let e = taken ds n some le in
    e ∙ sym (last_kept (take (n - 1) ds) (get_or ds (n - 1) 0) no) ∙ ap without_last_zeros (sym e) ∙ is

pub without-none : (ds rest : List ℕ) (n : ℕ) → n ≤ 0 → without_last_zeros (take n ds) ≡ rest → take n ds ≡ rest
without-none ds rest n none is = let zero : n ≡ 0 = omega arith in ap (λ k. take k ds) zero ∙ ap (λ k. without_last_zeros (take k ds)) (sym zero) ∙ is

-- ---- the sign

-- a number that is taken without its sign
pub text-negative : (z : ℤ) (n : ℕ) → SFits w128 z → z <ℤ pos 0 → n ≡ unsigned_abs (to_z w128 (of_z w128 z)) → decimal_text z ≡ 45 ∷ millionths_text n
unfolding decimal_text
text-negative (pos k) n fits below is = absurd (omega (arith, ints, below))
text-negative (negsuc k) n fits below is = ap (λ m. 45 ∷ millionths_text m) (sym (is ∙ ap unsigned_abs (to_z-of_z w128 (negsuc k) fits)))

pub text-other : (z : ℤ) (n : ℕ) → SFits w128 z → pos 0 ≤ℤ z → n ≡ unsigned_abs (to_z w128 (of_z w128 z)) → decimal_text z ≡ millionths_text n
unfolding decimal_text
text-other (pos k) n fits above is = ap millionths_text (sym (is ∙ ap unsigned_abs (to_z-of_z w128 (pos k) fits)))
text-other (negsuc k) n fits above is = absurd (omega (arith, ints, above))
