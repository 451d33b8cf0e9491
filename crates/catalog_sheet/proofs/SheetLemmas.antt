-- What is added to a sheet, piece after piece.
use Rattle.std.proofs.Common.{◌≡◌, ◌∙◌, ℕ, List, ◌++◌, append_assoc, ap}

-- two texts one after the other
pub added-both : (a b c s t : List ℕ) → b ≡ a ++ s → c ≡ b ++ t → c ≡ a ++ (s ++ t)
added-both a b c s t first second = second ∙ ap (λ (bytes : List ℕ). bytes ++ t) first ∙ append_assoc a s t

-- four of them
pub added-four : (a b c d e s t u v : List ℕ) → b ≡ a ++ s → c ≡ b ++ t → d ≡ c ++ u → e ≡ d ++ v → e ≡ a ++ (s ++ t ++ u ++ v)
added-four a b c d e s t u v first second third fourth =
    added-both a d e (s ++ t ++ u) v (added-both a c d (s ++ t) u (added-both a b c s t first second) third) fourth

-- six of them
pub added-six : (a b c d e f g s t u v w x : List ℕ) → b ≡ a ++ s → c ≡ b ++ t → d ≡ c ++ u → e ≡ d ++ v → f ≡ e ++ w → g ≡ f ++ x
    → g ≡ a ++ (s ++ t ++ u ++ v ++ w ++ x)
added-six a b c d e f g s t u v w x first second third fourth fifth sixth =
    let before = added-both a e f (s ++ t ++ u ++ v) w (added-four a b c d e s t u v first second third fourth) fifth in
    added-both a f g (s ++ t ++ u ++ v ++ w) x before sixth
