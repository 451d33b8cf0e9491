-- Crates above may cite this file: laws of lists alone.
use Rattle.std.proofs.Common.{List, [], ◌∷◌, ◌++◌}
use Rattle.std.specs.List.{AllZip}

-- what holds of the pairs of two lists, one after the other
pub AllZip-append : {X Y : Type 0} (R : X → Y → Type 0) (xs : List X) (ys : List Y) (us : List X) (vs : List Y)
    → AllZip R xs ys → AllZip R us vs → AllZip R (xs ++ us) (ys ++ vs)
AllZip-append R [] [] us vs p q = q
AllZip-append R [] (y ∷ ys) us vs p q = absurd p
AllZip-append R (x ∷ xs) [] us vs p q = absurd p
AllZip-append R (x ∷ xs) (y ∷ ys) us vs p q = (p.0, AllZip-append R xs ys us vs p.1 q)
