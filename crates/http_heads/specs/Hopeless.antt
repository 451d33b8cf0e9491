-- A rest after which no head can come any more (RFC 9112, sections 2.2, 3 and 5), and one that may still begin a head.
use Rattle.std.specs.Prelude.{◌≡◌, ℕ, ◌<◌, Bool, true, false, List, ◌++◌, length}
use Rattle.httparse.specs.Grammar.{MayBecomeRequest}
use Rattle.http_heads.specs.declared.head.TheConstants.{MAX_HEAD}
use Rattle.http_heads.specs.Head.{HasNoHead}

-- whatever follows these bytes, no front of it all is a head
abbrev pub IsHopeless : List ℕ → Type 0
IsHopeless rest = (more : List ℕ) → HasNoHead (rest ++ more)

-- There is room for more bytes of a head; and some can follow that make these bytes a head of httparse's grammar, or the target is still being
-- read, whose test for UTF-8 waits for its end.
pub record MayBegin (rest : List ℕ) : Type 0 where
  pub room : length rest < MAX_HEAD
  pub goes_on : MayBecomeRequest rest

-- a rest is reported as hopeless only if it is, and as waiting only if it may begin a head
pub record TellsHopeless (rest : List ℕ) (told : Bool) : Type 0 where
  pub hopeless : told ≡ true → IsHopeless rest
  pub waits : told ≡ false → MayBegin rest
