-- The place after a field, found among blocks, and those that follow.
use Rattle.std.proofs.Common.{◌≡◌, ℕ, zero, suc, ◌+◌, ◌-◌, ◌*◌, ◌%◌, ◌^◌, ◌<◌, ◌≤◌, List, [], ◌∷◌, ◌++◌, length, length-append, append_assoc, drop, Option, None, Some, refl, sym, ap, ◌∙◌, arith, bit_and, w64, Bool, true, false, ◌==◌, ◌≢◌}
use Rattle.std.proofs.lemmas.Bool.{eqb-true, eqb-false}
use Rattle.std.specs.Prelude.{slice_get, option_to_list}
use Rattle.std.specs.Int.{bit_at, bit_not}
use Rattle.std.proofs.Math.Seq.{drop-append-add}
use Rattle.std.proofs.lemmas.Nat.Bits.{bit_at-lt, bit_at_and, bit_at-zero, bit_at_mask_below, bit_at_mask_inside, bit_at_clear_same, bit_at_clear_other, ones_shl}
use Rattle.csv_index.specs.Index.{Rise}
use Rattle.csv_index.specs.Blocks.{set_places, block_places, Stands}
use Rattle.csv_index.specs.Structure.{ends_of}
use Rattle.csv_index.proofs.Bits.{places_split, places_none, places_same}
use Rattle.csv_index.proofs.BlockLemmas.{block_places-length}
use Rattle.csv_index.proofs.CellLemmas.{slice_get-behind}

-- a place is no further than the last
pub rise_at : (start size : ℕ) (ends : List ℕ) (n x : ℕ) → Rise start ends size → slice_get ends n ≡ Some x → (start ≤ x) × (x ≤ size)
rise_at start size [] n x rise e = absurd (cc)
rise_at start size (end ∷ ends) zero x rise e = let same : end ≡ x = cc in (omega (arith, rise.0), omega (arith, rise.1))
rise_at start size (end ∷ ends) (suc n) x rise e = let more = rise_at (end + 1) size ends n x rise.2 e in (omega (arith, more.0, rise.0), more.1)

-- around the place that was found
pub ends_around : (start n number bit : ℕ) (blocks : List ℕ) (last : Option ℕ) → (s : Stands blocks n number bit)
    → ends_of start blocks last ≡ s.front start ++ (start + 64 * number + bit) ∷ (set_places (start + 64 * number) s.mask (bit + 1) (63 - bit)
    ++ ends_of (start + 64 * number + 64) (drop (number + 1) blocks) last)
ends_around start n number bit blocks last s =
    ap (λ l. l ++ option_to_list last) (s.split start)
    ∙ append_assoc (s.front start) _ (option_to_list last)
    ∙ ap (λ l. s.front start ++ (start + 64 * number + bit) ∷ l) (append_assoc (set_places (start + 64 * number) s.mask (bit + 1) (63 - bit)) _ (option_to_list last))

pub found_end : (start n number bit : ℕ) (blocks : List ℕ) (last : Option ℕ) → Stands blocks n number bit
    → slice_get (ends_of start blocks last) n ≡ Some (start + 64 * number + bit)
found_end start n number bit blocks last s =
    ap (λ l. slice_get l n) (ends_around start n number bit blocks last s)
    ∙ slice_get-behind (s.front start) _ n 0 (omega (arith, s.count start))

-- where the blocks have no such place, it is the last end
pub last_place : (start n : ℕ) (blocks : List ℕ) (last : Option ℕ) → length (block_places 0 blocks) ≤ n → n < length (ends_of start blocks last)
    → (slice_get (ends_of start blocks last) n ≡ last) × (drop (n + 1) (ends_of start blocks last) ≡ [])
last_place start n blocks last past within = on last within
  where
    same : length (block_places start blocks) ≡ length (block_places 0 blocks)
    same = block_places-length start 0 blocks

    on : (l : Option ℕ) → n < length (block_places start blocks ++ option_to_list l)
        → (slice_get (block_places start blocks ++ option_to_list l) n ≡ l) × (drop (n + 1) (block_places start blocks ++ option_to_list l) ≡ [])
    on None h = absurd (omega (arith, length-append (block_places start blocks) [], same))
    on (Some end) h =
        let size = length-append (block_places start blocks) (end ∷ []) in
        let here : n ≡ length (block_places start blocks) = omega (arith, same) in (
          slice_get-behind (block_places start blocks) (end ∷ []) n 0 (omega arith),
          ap (λ k. drop (k + 1) (block_places start blocks ++ end ∷ [])) here ∙ drop-append-add (block_places start blocks) (end ∷ []) 1,
        )

-- ---- the bits after one

behind_mask : (w bit : ℕ) → bit < 64 → (k : ℕ) → bit ≤ k → k < 64 → bit_at (bit_and w ((2 ^ 64 - 1) * 2 ^ bit % 2 ^ 64)) k ≡ bit_at w k
behind_mask w bit within k from most =
    ap (λ m. bit_at (bit_and w m) k) (ones_shl 64 bit (omega arith))
    ∙ bit_at_and w (2 ^ 64 - 2 ^ bit) k
    ∙ omega (arith, bit_at_mask_inside bit 64 k from most, bit_at-lt w k)

before_mask : (w bit : ℕ) → bit < 64 → (k : ℕ) → k < bit → bit_at (bit_and w ((2 ^ 64 - 1) * 2 ^ bit % 2 ^ 64)) k ≡ 0
before_mask w bit within k less =
    ap (λ m. bit_at (bit_and w m) k) (ones_shl 64 bit (omega arith))
    ∙ bit_at_and w (2 ^ 64 - 2 ^ bit) k
    ∙ omega (arith, bit_at_mask_below bit 64 k less)

pub places_behind : (base w bit : ℕ) → bit < 64
    → set_places base (bit_and (bit_and w ((2 ^ 64 - 1) * 2 ^ bit % 2 ^ 64)) (bit_not w64 (1 * 2 ^ bit % 2 ^ 64))) 0 64 ≡ set_places base w (bit + 1) (63 - bit)
places_behind base w bit within =
    let high : ℕ = bit_and w ((2 ^ 64 - 1) * 2 ^ bit % 2 ^ 64) in
    let word : ℕ = bit_and high (bit_not w64 (1 * 2 ^ bit % 2 ^ 64)) in
    places_split base word 0 (bit + 1) (bit + 1) (63 - bit) 64 (omega arith) (omega arith)
    ∙ ap (λ l. l ++ set_places base word (bit + 1) (63 - bit)) (places_none base word 0 (bit + 1) (λ k h l. low k l (k == bit) refl))
    ∙ places_same base word w (bit + 1) (63 - bit) (λ k h l. bit_at_clear_other w64 high bit within k (omega arith) (λ e. omega arith) ∙ behind_mask w bit within k (omega arith) (omega arith))
  where
    low : (k : ℕ) → k < 0 + (bit + 1) → (t : Bool) → k == bit ≡ t → bit_at (bit_and (bit_and w ((2 ^ 64 - 1) * 2 ^ bit % 2 ^ 64)) (bit_not w64 (1 * 2 ^ bit % 2 ^ 64))) k ≡ 0
    low k h true e = let same : k ≡ bit = eqb-true k bit e in rw same (bit_at_clear_same w64 (bit_and w ((2 ^ 64 - 1) * 2 ^ bit % 2 ^ 64)) bit within)
    low k h false e =
        let other : k ≢ bit = eqb-false k bit e in
        bit_at_clear_other w64 (bit_and w ((2 ^ 64 - 1) * 2 ^ bit % 2 ^ 64)) bit within k (omega arith) other ∙ before_mask w bit within k (omega arith)

-- the places that follow the one that was found
pub found_behind : (start n number bit base word : ℕ) (blocks rest : List ℕ) (last : Option ℕ) → (s : Stands blocks n number bit) → base ≡ start + number * 64
    → word ≡ bit_and (bit_and s.mask ((2 ^ 64 - 1) * 2 ^ bit % 2 ^ 64)) (bit_not w64 (1 * 2 ^ bit % 2 ^ 64)) → rest ≡ drop (number + 1) blocks
    → set_places base word 0 64 ++ ends_of (base + 64) rest last ≡ drop (n + 1) (ends_of start blocks last)
found_behind start n number bit base word blocks rest last s b w r =
    let place : base ≡ start + 64 * number = omega arith in
    let size : n + 1 ≡ length (s.front start) + 1 = omega (arith, s.count start) in
    let tail : List ℕ = set_places (start + 64 * number) s.mask (bit + 1) (63 - bit) ++ ends_of (start + 64 * number + 64) (drop (number + 1) blocks) last in
    ap (λ k. set_places k word 0 64 ++ ends_of (k + 64) rest last) place
    ∙ ap (λ v. set_places (start + 64 * number) v 0 64 ++ ends_of (start + 64 * number + 64) rest last) w
    ∙ ap (λ l. l ++ ends_of (start + 64 * number + 64) rest last) (places_behind (start + 64 * number) s.mask bit s.within)
    ∙ ap (λ bs. set_places (start + 64 * number) s.mask (bit + 1) (63 - bit) ++ ends_of (start + 64 * number + 64) bs last) r
    ∙ sym (ap (λ k. drop k (ends_of start blocks last)) size
    ∙ ap (drop (length (s.front start) + 1)) (ends_around start n number bit blocks last s)
    ∙ drop-append-add (s.front start) ((start + 64 * number + bit) ∷ tail) 1)

-- no place follows
pub none_behind : (start : ℕ) → set_places start 0 0 64 ++ ends_of (start + 64) [] None ≡ []
none_behind start = ap (λ l. l ++ []) (places_none start 0 0 64 (λ k h l. bit_at-zero k))

no_end : (ends : List ℕ) (n : ℕ) → n < length ends → slice_get ends n ≡ None → ⊥
no_end [] n h e = omega arith
no_end (end ∷ ends) zero h e = cc
no_end (end ∷ ends) (suc n) h e = no_end ends n (omega arith) e

-- so there is a last end
pub no_last : (start n : ℕ) (blocks : List ℕ) → length (block_places 0 blocks) ≤ n → n < length (ends_of start blocks None) → ⊥
no_last start n blocks past within = no_end (ends_of start blocks None) n within (last_place start n blocks None past within).0
