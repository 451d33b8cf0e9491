-- A list without what was there before.
use Rattle.std.specs.Prelude.{Bool, not, List, [], ◌∷◌, filter}

-- each element at its first place, where equal ones count as one
abbrev pub first_seen : {X : Type 0} → (X → X → Bool) → List X → List X
first_seen eq [] = []
first_seen eq (x ∷ xs) = x ∷ filter (λ y. not (eq x y)) (first_seen eq xs)
