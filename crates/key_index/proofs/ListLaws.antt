-- Crates above may cite this file: laws of lists alone.
use Rattle.std.proofs.Common.{◌≡◌, List, [], ◌∷◌, Bool, map, refl}
use Rattle.std.specs.List.{position_or_len}

-- the first place of a value that passes
pub position_or_len-map : {X Y : Type 0} (p : Y → Bool) (f : X → Y) (xs : List X) → position_or_len p (map f xs) ≡ position_or_len (λ x. p (f x)) xs
position_or_len-map p f [] = refl
position_or_len-map p f (x ∷ xs) = rw (position_or_len-map p f xs) refl
