-- The cut of a stream (RFC 9112, sections 2.2 and 9.3): heads are cut off one after another, up to one after which the connection closes.
use Rattle.std.specs.Prelude.{◌≡◌, ℕ, Bool, true, false, List, [], ◌∷◌, take, MatchBool}
use Rattle.http_heads.specs.declared.head.TheConstants.{MAX_HEAD}
use Rattle.http_heads.specs.Head.{HeadOf, BeginsWith, HasNoHead}
use Rattle.http_heads.specs.Checks.{closes}

-- The stream is these heads, one after another, and then what has no head at its front, of which as much is kept as a head may have; or the
-- last of the heads closes, and nothing after it is kept.
abbrev pub IsCut : List ℕ → List HeadOf → List ℕ → Bool → Type 0
IsCut stream [] rest closed = (rest ≡ take MAX_HEAD stream) × (closed ≡ false) × HasNoHead stream
IsCut stream (head ∷ heads) rest closed = (more : List ℕ) × BeginsWith stream head more
    × MatchBool (closes head)
    ((heads ≡ []) × (rest ≡ []) × (closed ≡ true))
    (IsCut more heads rest closed)
