-- How many bits of a word are set below a place, and a word whose bit i is the parity of the s bits of another that end at i.
use Rattle.std.proofs.Common.{◌≡◌, ℕ, zero, suc, ◌+◌, ◌-◌, ◌*◌, ◌/◌, ◌%◌, ◌^◌, ◌<◌, ◌≤◌, sym, ap, ◌∙◌, arith, add-zero, add_comm, inl, inr, bit_and, bit_xor}
use Rattle.std.proofs.Math.Nat.{mod-eq_of_lt}
use Rattle.std.specs.Int.{bit_at}
use Rattle.std.specs.Int.RustNames.{count_ones}
use Rattle.std.proofs.lemmas.Nat.{mod-pow-add, ones_cat, shr-shr, shr_split, and_mask, pow_pos}
use Rattle.std.proofs.lemmas.Nat.Bits.{bit_at_cat_low, bit_at_cat_high, bit_at-zero, bit_at-lt, bit_at_xor}
use Rattle.std.proofs.lemmas.Bool.{cases_lt}
use Rattle.quote_parity.proofs.NumberLaws.{count_ones-bit}
use Rattle.quote_parity.specs.Words.{ones_below}

-- ---- bits below a place

pub ones_below-none : (w : ℕ) → ones_below w 0 ≡ 0
ones_below-none w = let none : w % 2 ^ 0 ≡ 0 = omega arith in ap count_ones none ∙ count_ones-bit 0 (omega arith)

pub ones_below-more : (w k : ℕ) → ones_below w (k + 1) ≡ ones_below w k + bit_at w k
ones_below-more w k =
    let b = w / 2 ^ k % 2 in
    let split : w % 2 ^ (k + 1) ≡ b * 2 ^ k + w % 2 ^ k = ap (λ n. w % 2 ^ n) (add_comm k 1) ∙ mod-pow-add w 1 k in
    omega (arith, ap count_ones split ∙ ones_cat k b (w % 2 ^ k) (omega (arith, pow_pos k)), count_ones-bit b (bit_at-lt w k))

-- the bits of a part above a place
ones_below-add : (w a b : ℕ) → ones_below w (a + b) ≡ ones_below w a + ones_below (w / 2 ^ a) b
ones_below-add w a zero = omega (arith, ap (ones_below w) (add-zero a), ones_below-none (w / 2 ^ a))
ones_below-add w a (suc b) =
    let next : a + suc b ≡ a + b + 1 = omega arith in
    let one : suc b ≡ b + 1 = omega arith in
    let bit : bit_at w (a + b) ≡ bit_at (w / 2 ^ a) b = ap (λ n. n % 2) (sym (shr-shr w a b)) in
    omega (arith, ap (ones_below w) next, ones_below-more w (a + b), ap (ones_below (w / 2 ^ a)) one, ones_below-more (w / 2 ^ a) b, bit, ones_below-add w a b)

-- one step of a search that halves: the bits of the lower half, counted
pub ones_below-half : (w place half : ℕ) → ones_below w (place + half) ≡ ones_below w place + count_ones (bit_and (w / 2 ^ place) (2 ^ half - 1))
ones_below-half w place half = ones_below-add w place half ∙ ap (λ n. ones_below w place + n) (sym (ap count_ones (and_mask (w / 2 ^ place) half)))

-- the whole word
pub ones_below-whole : (w : ℕ) → w < 2 ^ 64 → ones_below w 64 ≡ count_ones w
ones_below-whole w h = ap count_ones (mod-eq_of_lt h)

-- ---- parities

pub record Window (w s x : ℕ) : Type 0 where
  pub each : (i : ℕ) → i < 64 → bit_at x i ≡ (ones_below w (i + 1) + ones_below w (i + 1 - s)) % 2

-- the bits that a shift to the left leaves in 64
pub bit_at-mod : (x i : ℕ) → i < 64 → bit_at (x % 2 ^ 64) i ≡ bit_at x i
bit_at-mod x i h = sym (bit_at_cat_low (x / 2 ^ 64) 64 (x % 2 ^ 64) i h) ∙ ap (λ m. bit_at m i) (shr_split x 64)

pub shl_below : (x s i : ℕ) → i < 64 → i < s → bit_at (x * 2 ^ s % 2 ^ 64) i ≡ 0
shl_below x s i h lt = bit_at-mod (x * 2 ^ s) i h ∙ ap (λ m. bit_at m i) (sym (add-zero (x * 2 ^ s))) ∙ bit_at_cat_low x s 0 i lt ∙ bit_at-zero i

pub shl_above : (x s i : ℕ) → i < 64 → s ≤ i → bit_at (x * 2 ^ s % 2 ^ 64) i ≡ bit_at x (i - s)
shl_above x s i h le = bit_at-mod (x * 2 ^ s) i h ∙ ap (λ m. bit_at m i) (sym (add-zero (x * 2 ^ s))) ∙ bit_at_cat_high x s 0 i (pow_pos s) le

pub window_start : (w : ℕ) → Window w 1 w
window_start w = record { each = λ i h. omega (arith, ones_below-more w i, bit_at-lt w i, ap (ones_below w) (back i)) }
  where
    back : (i : ℕ) → i + 1 - 1 ≡ i
    back i = omega arith

pub window_doubled : (w s x y : ℕ) → Window w s x → y ≡ bit_xor x (x * 2 ^ s % 2 ^ 64) → Window w (s + s) y
window_doubled w s x y v e = record {
  each = λ i h.
      let y' = x * 2 ^ s % 2 ^ 64 in
      let here = ap (λ m. bit_at m i) e ∙ bit_at_xor x y' i in
      elim (cases_lt i s) [
        | inl lt ↦
            let same : i + 1 - s ≡ i + 1 - (s + s) = omega arith in
            let none = ap (ones_below w) same in
            omega (arith, here, v.each i h, shl_below x s i h lt, none)
        | inr le ↦
            let low = v.each (i - s) (omega arith) in
            let one : i - s + 1 ≡ i + 1 - s = omega arith in
            let two : i - s + 1 - s ≡ i + 1 - (s + s) = omega arith in
            omega (arith, here, v.each i h, shl_above x s i h le, low, ap (ones_below w) one, ap (ones_below w) two)
      ];
}

-- a window as long as the word
pub window_whole : (w x i : ℕ) → Window w 64 x → i < 64 → bit_at x i ≡ ones_below w (i + 1) % 2
window_whole w x i v h =
    let none : i + 1 - 64 ≡ 0 = omega arith in
    omega (arith, v.each i h, ap (ones_below w) none, ones_below-none w)
