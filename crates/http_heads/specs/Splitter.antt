-- What a splitter makes of a piece of a stream.
use Rattle.std.specs.Prelude.{◌≡◌, ℕ, List, ◌++◌, length, take, Option, Some, None}
use Rattle.http_heads.specs.declared.head.TheConstants.{MAX_HEAD}
use Rattle.http_heads.specs.Head.{HeadOf, BeginsWithAll, HasNoHead}

-- The rest and the piece after it are these heads, one after another, and then what has no head at its front. Of that the first bytes are
-- kept, as many as a head may have: no head can reach further.
pub record Splits (rest piece : List ℕ) (heads : List HeadOf) (kept : List ℕ) : Type 0 where
  pub left : List ℕ
  pub begins : BeginsWithAll (rest ++ piece) heads left
  pub none : HasNoHead left
  pub kept_is : kept ≡ take MAX_HEAD left

-- What adding a piece makes of a rest: all of the piece was added, and so long the rest was; or no head ends in the piece, and no more is there
-- than is kept.
abbrev pub IsAdded : List ℕ → List ℕ → List ℕ → Option ℕ → Type 0
IsAdded rest piece new (Some before) = (before ≡ length rest) × (new ≡ rest ++ piece)
IsAdded rest piece new None = (new ≡ take MAX_HEAD (rest ++ piece)) × HasNoHead (rest ++ piece)
