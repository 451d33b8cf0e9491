-- What a take gives out of the bytes that wait, and what it leaves.
use Rattle.std.proofs.Common.{◌≡◌, ◌≤◌, ℕ, List, ◌++◌, length, take, drop, min, ap, arith, ◌∙◌}
use Rattle.std.proofs.lemmas.List.{drop_at, drop_min, length-take-le, take_at, take_min}

-- Of what waits, as much as there is room for came into the front, and what is after it is as before. So much less waits.
pub taken : (waiting before after : List ℕ) (count : ℕ) → count ≡ min (length waiting) (length before) → after ≡ take count waiting ++ drop count before
    → (take count after ≡ take (length before) waiting) × (drop count after ≡ drop count before) × (drop count waiting ≡ drop (length before) waiting)
taken waiting before after count is same =
    let room : count ≡ min (length before) (length waiting) = omega (arith, is) in
    let within : count ≤ length waiting = omega (arith, is) in
    let long = length-take-le count waiting within in (
      ap (take count) same ∙ take_at (take count waiting) (drop count before) count long ∙ ap (λ n. take n waiting) room ∙ take_min (length before) waiting,
      ap (drop count) same ∙ drop_at (take count waiting) (drop count before) count long,
      ap (λ n. drop n waiting) room ∙ drop_min (length before) waiting,
    )
