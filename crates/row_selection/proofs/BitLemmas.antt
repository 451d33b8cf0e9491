-- Laws of the set bits of words.
use Rattle.std.proofs.Common.{◌≡◌, ℕ, zero, suc, ◌+◌, ◌-◌, ◌*◌, ◌%◌, ◌^◌, ◌<◌, ◌≤◌, [], ◌∷◌, ◌++◌, Bool, true, false, cond, ◌==◌, append-nil, refl, sym, ap, ◌∙◌, arith, bit_and, bit_or, w64, ◌≢◌}
use Rattle.std.proofs.lemmas.Bool.{eqb-true, eqb-false}
use Rattle.std.proofs.lemmas.Nat.{and_le_r, one_shl, or_disjoint, or_lt, pow_below}
use Rattle.std.proofs.lemmas.Nat.Bits.{bit_at_above, bit_at_set_same, bit_at_set_other}
use Rattle.std.specs.Int.{bit_at}
use mir.Val.{bool_byte}
use Rattle.row_selection.specs.Marks.{bit_numbers}

-- one that is set, and one that is not
pub marked-set : (start w n : ℕ) → bit_at w n ≡ 1 → bit_numbers start w (suc n) ≡ bit_numbers start w n ++ (start + n) ∷ []
unfolding bit_numbers
marked-set start w n set = ap (λ b. bit_numbers start w n ++ cond (b == 1) ((start + n) ∷ []) []) set

pub marked-clear : (start w n : ℕ) → bit_at w n ≡ 0 → bit_numbers start w (suc n) ≡ bit_numbers start w n
unfolding bit_numbers
marked-clear start w n clear = ap (λ b. bit_numbers start w n ++ cond (b == 1) ((start + n) ∷ []) []) clear ∙ append-nil (bit_numbers start w n)

-- words with the same bits
pub marked-same : (start v w n : ℕ) → ((k : ℕ) → k < n → bit_at v k ≡ bit_at w k) → bit_numbers start v n ≡ bit_numbers start w n
unfolding bit_numbers
marked-same start v w zero same = refl
marked-same start v w (suc n) same =
    ap (λ b. bit_numbers start v n ++ cond (b == 1) ((start + n) ∷ []) []) (same n (omega arith))
    ∙ ap (λ ns. ns ++ cond (bit_at w n == 1) ((start + n) ∷ []) []) (marked-same start v w n (λ k less. same k (omega (arith, less))))

-- none is set from a place on, or up to one
pub marked-low : (start w k n : ℕ) → ((j : ℕ) → k ≤ j → bit_at w j ≡ 0) → bit_numbers start w (k + n) ≡ bit_numbers start w k
marked-low start w k zero none = ap (bit_numbers start w) (omega arith)
marked-low start w k (suc n) none =
    let next : k + suc n ≡ suc (k + n) = omega arith in
    ap (bit_numbers start w) next ∙ marked-clear start w (k + n) (none (k + n) (omega arith)) ∙ marked-low start w k n none

pub marked-none : (start : ℕ) → bit_numbers start 0 64 ≡ []
unfolding bit_numbers
marked-none start = marked-low start 0 0 64 (λ j from. bit_at_above 0 0 j (omega arith) from)

marked-nowhere : (start w n : ℕ) → ((j : ℕ) → j < n → bit_at w j ≡ 0) → bit_numbers start w n ≡ []
unfolding bit_numbers
marked-nowhere start w zero none = refl
marked-nowhere start w (suc n) none = marked-clear start w n (none n (omega arith)) ∙ marked-nowhere start w n (λ j less. none j (omega (arith, less)))

-- another bit above all that are set
pub marked-more : (start w k : ℕ) → k < 64 → w < 2 ^ k → bit_numbers start (bit_or w (1 * 2 ^ k % 2 ^ 64)) 64 ≡ bit_numbers start w 64 ++ (start + k) ∷ []
marked-more start w k within low =
    let v : ℕ = bit_or w (1 * 2 ^ k % 2 ^ 64) in
    let upper : 64 ≡ suc k + (63 - k) = omega (arith, within) in
    let lower : 64 ≡ k + (64 - k) = omega (arith, within) in
    let before : bit_numbers start w 64 ≡ bit_numbers start w k = ap (bit_numbers start w) lower ∙ marked-low start w k (64 - k) (λ j from. bit_at_above w k j low from) in
    ap (bit_numbers start v) upper
    ∙ marked-low start v (suc k) (63 - k) (λ j from. bit_at_set_other w64 w k within j (λ same. omega (arith, from, same)) ∙ bit_at_above w k j low (omega (arith, from)))
    ∙ marked-set start v k (bit_at_set_same w64 w k within)
    ∙ ap (λ ns. ns ++ (start + k) ∷ []) (marked-same start v w k (λ j less. bit_at_set_other w64 w k within j (λ same. omega (arith, less, same))) ∙ sym before)

-- the lowest bit that is set is the first, and the others are those of a word without it
pub marked-first : (start w v k n : ℕ) → bit_at w k ≡ 1 → bit_at v k ≡ 0 → ((j : ℕ) → j < k → bit_at w j ≡ 0) → ((j : ℕ) → j < 64 → j ≢ k → bit_at v j ≡ bit_at w j) → k < n → n ≤ 64
    → bit_numbers start w n ≡ (start + k) ∷ bit_numbers start v n
unfolding bit_numbers
marked-first start w v k zero set clear none same less within = absurd (omega (arith, less))
marked-first start w v k (suc n) set clear none same less within = on (k == n) refl (λ below. marked-first start w v k n set clear none same below (omega (arith, within)))
  where
    on : (t : Bool) → k == n ≡ t → (k < n → bit_numbers start w n ≡ (start + k) ∷ bit_numbers start v n) → bit_numbers start w (suc n) ≡ (start + k) ∷ bit_numbers start v (suc n)
    on true e before =
        let is : k ≡ n = eqb-true k n e in
        let low : bit_numbers start w n ≡ [] = marked-nowhere start w n (λ j less. none j (omega (arith, less, is))) in
        let high : bit_numbers start v n ≡ [] =
        marked-nowhere start v n (λ j less. same j (omega (arith, less, within)) (λ is_k. omega (arith, less, is, is_k)) ∙ none j (omega (arith, less, is))) in
        marked-set start w n (ap (bit_at w) (sym is) ∙ set) ∙ ap (λ ns. ns ++ (start + n) ∷ []) low ∙ ap (λ m. (start + m) ∷ []) (sym is)
        ∙ ap (λ ns. (start + k) ∷ ns) (sym high ∙ sym (marked-clear start v n (ap (bit_at v) (sym is) ∙ clear)))
    on false e before =
        let apart : k ≢ n = eqb-false k n e in
        let below : k < n = omega (arith, less) in
        ap (λ ns. ns ++ cond (bit_at w n == 1) ((start + n) ∷ []) []) (before below)
        ∙ ap (λ b. (start + k) ∷ bit_numbers start v n ++ cond (b == 1) ((start + n) ∷ []) []) (sym (same n (omega (arith, within)) (λ is. apart (sym is))))

-- the bit of another mark, which is 0 or 1
pub mark_more : (w k : ℕ) (b : Bool) (n : ℕ) → n ≡ bool_byte b → k < 64 → w < 2 ^ k
    → (bit_or w (n * 2 ^ k % 2 ^ 64) < 2 ^ (k + 1)) × ((start : ℕ) → bit_numbers start (bit_or w (n * 2 ^ k % 2 ^ 64)) 64 ≡ bit_numbers start w 64 ++ cond b ((start + k) ∷ []) [])
mark_more w k true n is within low =
    let wide : 2 ^ k < 2 ^ (k + 1) = pow_below k (k + 1) (omega arith) in
    let one : 1 * 2 ^ k % 2 ^ 64 < 2 ^ (k + 1) = omega (arith, one_shl k 64 within, wide) in
    rw is (or_lt (k + 1) w (1 * 2 ^ k % 2 ^ 64) (omega (arith, low, wide)) one, λ start. marked-more start w k within low)
mark_more w k false n is within low =
    let wide : 2 ^ k < 2 ^ (k + 1) = pow_below k (k + 1) (omega arith) in
    let none : 0 * 2 ^ k % 2 ^ 64 ≡ 0 = omega arith in
    let same : bit_or w (0 * 2 ^ k % 2 ^ 64) ≡ w = ap (bit_or w) none ∙ or_none w in
    rw is (omega (arith, same, low, wide), λ start. ap (λ v. bit_numbers start v 64) same ∙ sym (append-nil (bit_numbers start w 64)))
  where
    or_none : (v : ℕ) → bit_or v 0 ≡ v
    or_none v = let none : bit_and v 0 ≡ 0 = omega (arith, and_le_r v 0) in or_disjoint v 0 none ∙ omega arith
