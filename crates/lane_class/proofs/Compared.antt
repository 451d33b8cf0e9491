-- The mask of the comparison of a block with one byte, bit by bit.
use Rattle.std.proofs.Common.{◌≡◌, ◌↔◌, ℕ, ◌<◌, ◌%◌, ◌^◌, List, Bool, true, false, cond, eqb, length, get_or, map, replicate, refl, sym, ap, subst, ◌∙◌, arith, w8}
use Rattle.std.specs.Int.{bit_at}
use Rattle.std.specs.Simd.Lanes.{zip2, mask_l, top}
use Rattle.std.proofs.lemmas.Simd.{bit_mask_l, bitmask_splat}
use Rattle.std.proofs.lemmas.Bool.{eqb-true, eqb-false}
use Rattle.std.proofs.Math.ListN.{get_or-map}
use Rattle.lane_class.specs.Classes.{Marks}

tells : (x byte : ℕ) (b : Bool) → eqb x byte ≡ b → (cond {A = ℕ} b 1 0 ≡ 1) ↔ (x ≡ byte)
tells x byte true e = (λ h. eqb-true x byte e, λ h. refl)
tells x byte false e = (λ h. absurd (omega arith), λ h. absurd (eqb-false x byte e h))

-- bit i of the mask of a test t that fails at the filler 0
bit_of_test : (t : ℕ → Bool) (xs : List ℕ) (i : ℕ) → t 0 ≡ false → bit_at (mask_l (map t xs)) i ≡ cond (t (get_or xs i 0)) 1 0
bit_of_test t xs i none =
    bit_mask_l (map t xs) i ∙ ap (λ b. cond {A = ℕ} b 1 0) (ap (λ d. get_or (map t xs) i d) (sym none) ∙ get_or-map t xs i 0)

-- `to_bitmask` of `simd_eq` with a splat of a byte that is not 0
pub Marks-compared : (block : List ℕ) (byte : ℕ) → length block ≡ 64 → 0 < byte
    → Marks (mask_l (map (top 7) (zip2 (λ a b. cond (eqb a b) 255 0) block (replicate 64 byte))) % 2 ^ 64) block byte
Marks-compared block byte long some i within =
    let t : ℕ → Bool = λ x. eqb x byte in
    let word : mask_l (map (top 7) (zip2 (λ a b. cond (eqb a b) 255 0) block (replicate 64 byte))) % 2 ^ 64 ≡ mask_l (map t block) = bitmask_splat w8 eqb block 64 byte long (omega arith) in
    let bit = bit_of_test t block i (not_zero byte some) in
    let both = tells (get_or block i 0) byte _ refl in
    subst (λ m. (bit_at m i ≡ 1) ↔ (get_or block i 0 ≡ byte)) (sym word) (λ h. both.0 (sym bit ∙ h), λ h. bit ∙ both.1 h)
  where
    not_zero : (b : ℕ) → 0 < b → eqb 0 b ≡ false
    not_zero b h = grind arith
