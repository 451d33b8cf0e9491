-- Crates above may cite this file: laws of booleans alone.
use Rattle.std.proofs.Common.{◌≡◌, Bool, true, false, MatchBool, sym, subst}

-- the two cases of a test
pub MatchBool_elim : {P Q R : Type 0} (b : Bool) → (P → R) → (Q → R) → MatchBool b P Q → R
MatchBool_elim true on off m = on m
MatchBool_elim false on off m = off m

-- and of one that decides twice
pub MatchBool_elim_two : {P Q S T R : Type 0} (b : Bool) → (P → S → R) → (Q → T → R) → MatchBool b P Q → MatchBool b S T → R
MatchBool_elim_two true on off m n = on m n
MatchBool_elim_two false on off m n = off m n

-- one case of a test that is known
pub MatchBool-from_false : (P Q : Type 0) (b : Bool) → b ≡ false → Q → MatchBool b P Q
MatchBool-from_false P Q b e q = let F : Bool → Type 0 = λ x. MatchBool x P Q in subst F (sym e) q
