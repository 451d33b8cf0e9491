-- Bytes that wait to be taken, and what is left of a body that is written piece by piece.
use Rattle.std.specs.Prelude.{◌≡◌, ℕ, List, [], ◌++◌}

-- first bytes of what waits: one at least, where any waits
pub record IsFront (front waiting : List ℕ) : Type 0 where
  pub behind : List ℕ
  pub whole : front ++ behind ≡ waiting
  pub some : front ≡ [] → waiting ≡ []

-- what is left of a body
pub record BodyRest : Type 0 where
  -- the bytes that are left
  pub bytes : List ℕ
  -- no piece is longer
  pub longest : ℕ
