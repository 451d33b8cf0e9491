-- The bits of a word as booleans, and what the operations on words make of them.
use Rattle.std.proofs.Common.{◌≡◌, ℕ, zero, suc, ◌+◌, ◌-◌, ◌*◌, ◌/◌, ◌%◌, ◌^◌, ◌<◌, ◌≤◌, min, max, Bool, true, not, ◌&&◌, ◌||◌, if◌then◌else◌, ◌==◌, ◌↔◌, refl, sym, ap, ◌∙◌, arith, eq-eqb, ne_eqb, inl, inr, bit_and, bit_or, bit_xor, w64}
use Rattle.std.specs.Int.{bit_at}
use Rattle.std.proofs.lemmas.Bool.{cases_eq}
use Rattle.std.proofs.lemmas.Nat.{or_lt}
use Rattle.std.proofs.lemmas.Nat.Bits.{bit_at-lt, bit_at_and, bit_at_or, bit_at_xor, bit_at_not, bit_at_above, bit_at_lowest, bit_at_ones, ones_shr}
use Rattle.quote_parity.specs.Words.{ones_below}
use Rattle.quote_parity.proofs.WordLemmas.{ones_below-none, ones_below-more, shl_below, shl_above}

-- whether a bit is set
abbrev pub bit : ℕ → ℕ → Bool
bit word i = bit_at word i == 1

min_bit : (m n : ℕ) → m < 2 → n < 2 → (min m n == 1) ≡ ((m == 1) && (n == 1))
min_bit zero zero h k = refl
min_bit zero (suc zero) h k = refl
min_bit (suc zero) zero h k = refl
min_bit (suc zero) (suc zero) h k = refl
min_bit (suc (suc m)) n h k = absurd (omega arith)
min_bit m (suc (suc n)) h k = absurd (omega arith)

max_bit : (m n : ℕ) → m < 2 → n < 2 → (max m n == 1) ≡ ((m == 1) || (n == 1))
max_bit zero zero h k = refl
max_bit zero (suc zero) h k = refl
max_bit (suc zero) zero h k = refl
max_bit (suc zero) (suc zero) h k = refl
max_bit (suc (suc m)) n h k = absurd (omega arith)
max_bit m (suc (suc n)) h k = absurd (omega arith)

not_bit : (m : ℕ) → m < 2 → (1 - m == 1) ≡ not (m == 1)
not_bit zero h = refl
not_bit (suc zero) h = refl
not_bit (suc (suc m)) h = absurd (omega arith)

-- a bit is 1 where it is set, else 0
pub bit_number : (m : ℕ) → m < 2 → m ≡ (if m == 1 then 1 else 0)
bit_number zero h = refl
bit_number (suc zero) h = refl
bit_number (suc (suc m)) h = absurd (omega arith)

pub bit-and : (a b i : ℕ) → bit (bit_and a b) i ≡ (bit a i && bit b i)
bit-and a b i = ap (λ n. n == 1) (bit_at_and a b i) ∙ min_bit (bit_at a i) (bit_at b i) (bit_at-lt a i) (bit_at-lt b i)

pub bit-or : (a b i : ℕ) → bit (bit_or a b) i ≡ (bit a i || bit b i)
bit-or a b i = ap (λ n. n == 1) (bit_at_or a b i) ∙ max_bit (bit_at a i) (bit_at b i) (bit_at-lt a i) (bit_at-lt b i)

pub bit-not : (a i : ℕ) → a < 2 ^ 64 → i < 64 → bit (2 ^ 64 - 1 - a) i ≡ not (bit a i)
bit-not a i fits within = ap (λ n. n == 1) (bit_at_not w64 a i fits within) ∙ not_bit (bit_at a i) (bit_at-lt a i)

-- the bit below, where b stands below the lowest
abbrev pub before : ℕ → ℕ → ℕ → ℕ
before word b zero = b
before word b (suc i) = bit_at word i

-- a word moved up by one place, with b below
pub bit_at-up : (word b i : ℕ) → b < 2 → i < 64 → bit_at (bit_or (word * 2 % 2 ^ 64) b) i ≡ before word b i
bit_at-up word b zero h within =
    bit_at_or (word * 2 % 2 ^ 64) b 0 ∙ omega (arith, shl_below word 1 0 within (omega arith), bit_at_lowest b)
bit_at-up word b (suc i) h within =
    let one : suc i - 1 ≡ i = omega arith in
    bit_at_or (word * 2 % 2 ^ 64) b (suc i)
    ∙ omega (arith, shl_above word 1 (suc i) within (omega arith), ap (bit_at word) one, bit_at_above b 1 (suc i) h (omega arith))

pub up_fits : (word b : ℕ) → b < 2 → bit_or (word * 2 % 2 ^ 64) b < 2 ^ 64
up_fits word b h = or_lt 64 (word * 2 % 2 ^ 64) b (omega arith) (omega arith)

-- the lowest n bits
pub low_is : (n : ℕ) → n ≤ 64 → (2 ^ 64 - 1) / 2 ^ (64 - n) ≡ 2 ^ n - 1
low_is n most =
    let back : 64 - (64 - n) ≡ n = omega arith in
    ones_shr 64 (64 - n) (omega arith) ∙ ap (λ k. 2 ^ k - 1) back

pub bit-low : (n i : ℕ) → n ≤ 64 → i < n → bit ((2 ^ 64 - 1) / 2 ^ (64 - n)) i ≡ true
bit-low n i most within = ap (λ w. bit w i) (low_is n most) ∙ ap (λ m. m == 1) (bit_at_ones n i within)

-- a bit added to the lowest one adds to each parity
pub ones_below-xor : (word b i : ℕ) → b < 2 → ones_below (bit_xor word b) (i + 1) % 2 ≡ (ones_below word (i + 1) + b) % 2
ones_below-xor word b zero h =
    omega (arith, ones_below-more (bit_xor word b) 0, ones_below-more word 0, ones_below-none word, ones_below-none (bit_xor word b), bit_at_xor word b 0, bit_at_lowest b)
ones_below-xor word b (suc i) h =
    let one : suc i ≡ i + 1 = omega arith in
    omega (
      arith,
      ones_below-xor word b i h,
      ones_below-more (bit_xor word b) (suc i),
      ones_below-more word (suc i),
      ap (ones_below word) one,
      ap (ones_below (bit_xor word b)) one,
      bit_at_xor word b (suc i),
      bit_at_above b 1 (suc i) h (omega arith),
    )

-- a bit that is 1 exactly where two numbers are equal is the test of these
pub same_test : (m x v : ℕ) → (m ≡ 1) ↔ (x ≡ v) → (m == 1) ≡ (x == v)
same_test m x v both =
    elim (cases_eq x v) [
      | inl e ↦ eq-eqb m 1 (both.1 e) ∙ sym (eq-eqb x v e)
      | inr n ↦ ne_eqb m 1 (λ e. n (both.0 e)) ∙ sym (ne_eqb x v n)
    ]
