-- Where a structural place stands among blocks.
use Rattle.std.proofs.Common.{◌≡◌, ℕ, zero, suc, ◌+◌, ◌-◌, ◌*◌, ◌%◌, ◌^◌, ◌<◌, ◌≤◌, min, List, [], ◌∷◌, ◌++◌, length, length-append, append_assoc, append-nil as append_nil, take, drop, Some, add-one, refl, sym, ap, ◌∙◌, arith}
use Rattle.std.specs.Prelude.{slice_get}
use Rattle.std.specs.Int.{bit_at}
use Rattle.std.specs.Int.RustNames.{count_ones}
use Rattle.std.proofs.Math.Nat.{mod-lt}
use Rattle.std.proofs.lemmas.Nat.{ones-le, pow_pos}
use Rattle.std.proofs.lemmas.List.{take_all}
use Rattle.csv_index.specs.Blocks.{set_places, block_places, rank, Stands}
use Rattle.csv_index.proofs.Bits.{places_count, places_around, ones_front}

-- the place of the first block does not matter to the number of places
pub block_places-length : (at to : ℕ) (blocks : List ℕ) → length (block_places at blocks) ≡ length (block_places to blocks)
block_places-length at to [] = refl
block_places-length at to (block ∷ blocks) =
    length-append (set_places at block 0 64) (block_places (at + 64) blocks)
    ∙ omega (arith, places_count at block 64, places_count to block 64, block_places-length (at + 64) (to + 64) blocks)
    ∙ sym (length-append (set_places to block 0 64) (block_places (to + 64) blocks))

-- one block more
pub block_places-push : (at to : ℕ) (blocks : List ℕ) (block : ℕ) → to ≡ at + 64 * length blocks
    → block_places at (blocks ++ block ∷ []) ≡ block_places at blocks ++ set_places to block 0 64
block_places-push at to [] block e =
    let same : to ≡ at = omega arith in rw same (simp append_nil)
block_places-push at to (first ∷ blocks) block e =
    ap (λ l. set_places at first 0 64 ++ l) (block_places-push (at + 64) to blocks block (omega arith))
    ∙ sym (append_assoc (set_places at first 0 64) (block_places (at + 64) blocks) (set_places to block 0 64))

-- around a block
pub block_places-around : (at to : ℕ) (blocks : List ℕ) (number block : ℕ) → slice_get blocks number ≡ Some block → to ≡ at + 64 * number
    → block_places at blocks
    ≡ block_places at (take number blocks) ++ (set_places to block 0 64 ++ block_places (to + 64) (drop (suc number) blocks))
block_places-around at to [] number block is e = absurd (cc)
block_places-around at to (first ∷ blocks) zero block is e =
    let same : first ≡ block = cc in
    let here : to ≡ at = omega arith in rw (same, here) refl
block_places-around at to (first ∷ blocks) (suc number) block is e =
    ap (λ l. set_places at first 0 64 ++ l) (block_places-around (at + 64) to blocks number block is (omega arith))
    ∙ sym (append_assoc (set_places at first 0 64) (block_places (at + 64) (take number blocks)) _)

-- what stands before the next block
pub rank_next : (blocks : List ℕ) (number block : ℕ) → slice_get blocks number ≡ Some block
    → rank blocks (number + 1) ≡ rank blocks number + count_ones (block % 2 ^ 64)
rank_next blocks number block is = ap (rank blocks) (add-one number) ∙ on 0 blocks number is
  where
    on : (at : ℕ) (bs : List ℕ) (k : ℕ) → slice_get bs k ≡ Some block
        → length (block_places at (take (suc k) bs)) ≡ length (block_places at (take k bs)) + count_ones (block % 2 ^ 64)
    on at [] k e = absurd (cc)
    on at (b ∷ bs) zero e =
        let same : b ≡ block = cc in
        length-append (set_places at b 0 64) (block_places (at + 64) [])
        ∙ omega (arith, places_count at b 64, ap (λ x. count_ones (x % 2 ^ 64)) same)
    on at (b ∷ bs) (suc k) e =
        length-append (set_places at b 0 64) (block_places (at + 64) (take (suc k) bs))
        ∙ omega (arith, on (at + 64) bs k e, length-append (set_places at b 0 64) (block_places (at + 64) (take k bs)))

-- the last block has no place of that number
pub none_stands : (masks : List ℕ) (n number left mask : ℕ) → slice_get masks number ≡ Some mask → length masks ≤ number + 1 → rank masks number + left ≡ n
    → count_ones mask ≤ left → length (block_places 0 masks) ≤ n
none_stands masks n number left mask is end before few =
    let next : rank masks (number + 1) ≤ rank masks number + count_ones mask = omega (arith, rank_next masks number mask is, ones_front mask 64) in
    omega (arith, ap (λ bs. length (block_places 0 bs)) (take_all (number + 1) masks end))

-- the block has it
pub stands : (masks : List ℕ) (n number left bit mask : ℕ) → slice_get masks number ≡ Some mask → rank masks number + left ≡ n
    → bit < 64 → bit_at mask bit ≡ 1 → count_ones (mask % 2 ^ bit) ≡ min left 64 → Stands masks n number bit
stands masks n number left bit mask is before within set below =
    let few : count_ones (mask % 2 ^ bit) ≤ bit = ones-le bit (mask % 2 ^ bit) (mod-lt mask (pow_pos bit)) in
    let here : count_ones (mask % 2 ^ bit) ≡ left = omega arith in record {
      mask = mask;
      is = is;
      within = within;
      set = set;
      before = λ at. refl;
      front = λ at. block_places at (take number masks) ++ set_places (at + 64 * number) mask 0 bit;
      count = λ at.
          length-append (block_places at (take number masks)) (set_places (at + 64 * number) mask 0 bit)
          ∙ omega (arith, block_places-length at 0 (take number masks), places_count (at + 64 * number) mask bit);
      split = λ at.
          block_places-around at (at + 64 * number) masks number mask is refl
          ∙ ap (λ k. block_places at (take number masks) ++ (set_places (at + 64 * number) mask 0 64 ++ block_places (at + 64 * number + 64) (drop k masks))) (sym (add-one number))
          ∙ ap (λ l. block_places at (take number masks) ++ (l ++ block_places (at + 64 * number + 64) (drop (number + 1) masks)))
          (places_around (at + 64 * number) mask 0 bit bit (bit + 1) (63 - bit) 64 (omega arith) refl (omega arith) set)
          ∙ simp append_assoc;
    }
