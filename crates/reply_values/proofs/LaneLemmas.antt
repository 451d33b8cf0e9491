-- From the mask of a block to the first of its bytes that passes a test.
use Rattle.std.proofs.Common.{◌≡◌, ℕ, ◌+◌, ◌%◌, ◌^◌, ◌≤◌, Bool, true, cond, eqb, not, tests, List, [], ◌∷◌, map, length, get_or, take, drop, Fits, w8, refl, ap, ap₂, ◌∙◌, arith}
use Rattle.std.specs.Int.{trailing_zeros, w64}
use Rattle.std.specs.List.{position_or_len}
use Rattle.std.specs.Simd.Lanes.{Each1, chunk, mask_l, top}
use Rattle.std.proofs.lemmas.Bool.{agree_below, agree_below_at}
use Rattle.std.proofs.lemmas.List.{length-map}
use Rattle.std.proofs.lemmas.Simd.{chunk-fits, first_set_mask_l, length-chunk, map-map, mask_l-mod}

-- tests that give one answer at each byte
same_tests : (s p : ℕ → Bool) (bytes : List ℕ) → agree_below s p 256 ≡ true → Each1 (Fits w8) bytes → map s bytes ≡ map p bytes
same_tests s p [] same fits = refl
same_tests s p (b ∷ bytes) same fits = ap₂ (λ x xs. x ∷ xs) (agree_below_at s p 256 b same fits.0.fits) (same_tests s p bytes same fits.1)

-- the lanes are computed from the block, each from its byte, and set just where the test is passed
pub first_in_block : (p : ℕ → Bool) (text : List ℕ) (at n : ℕ) (lane : ℕ → ℕ) (lanes : List ℕ) (first : ℕ) → n ≤ 64 → at + n ≤ length text
    → ((k : ℕ) → Fits w8 (get_or text k 0)) → lanes ≡ map lane (chunk at n text) → agree_below (λ b. top 7 (lane b)) p 256 ≡ true
    → first ≡ cond (eqb (mask_l (map (top 7) lanes) % 2 ^ 64) 0) n (trailing_zeros w64 (mask_l (map (top 7) lanes) % 2 ^ 64))
    → first ≡ position_or_len p (take n (drop at text))
first_in_block p text at n lane lanes first most room fits computed same found =
    let block = chunk at n text in
    let long = length-chunk at n text room in
    let tests : map (top 7) lanes ≡ map p block =
    ap (map (top 7)) computed ∙ map-map (top 7) lane block ∙ same_tests (λ b. top 7 (lane b)) p block same (chunk-fits w8 at n text fits) in
    let word : mask_l (map (top 7) lanes) % 2 ^ 64 ≡ mask_l (map p block) =
    ap (λ l. mask_l l % 2 ^ 64) tests ∙ mask_l-mod (map p block) 64 (omega (arith, length-map block p, long, most)) in
    found ∙ ap (λ m. cond (eqb m 0) n (trailing_zeros w64 m)) word ∙ first_set_mask_l p block n long most

-- a flag that is not 0
pub is_set : (n : ℕ) → (n ≡ 0 → ⊥) → not (eqb n 0) ≡ true
is_set n other = grind (arith, tests, other)
