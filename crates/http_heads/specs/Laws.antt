-- What holds of the cut of every stream.
use Rattle.std.specs.Prelude.{◌≡◌, ℕ, ◌<◌, Bool, true, false, List, [], ◌++◌, length, take}
use Rattle.http_heads.specs.declared.head.TheConstants.{MAX_HEAD, MAX_FIELDS}
use Rattle.http_heads.specs.Head.{HeadOf}
use Rattle.http_heads.specs.Cut.{IsCut}
use Rattle.http_heads.specs.Hopeless.{IsHopeless}

-- a head has at most 8,192 bytes and 64 fields
abbrev pub HeadLimits : Type 0
HeadLimits = (MAX_HEAD ≡ 8192) × (MAX_FIELDS ≡ 64)

-- a cut of the stream
abbrev pub HasCut : List ℕ → Type 0
HasCut stream = (heads : List HeadOf) × (rest : List ℕ) × (closed : Bool) × IsCut stream heads rest closed

-- A stream has one cut; that of the empty stream has no head.
pub record OneCut : Type 0 where
  pub empty : IsCut [] [] [] false
  pub some : (stream : List ℕ) → HasCut stream
  pub one : (stream : List ℕ) (heads others : List HeadOf) (rest left : List ℕ) (closed shut : Bool)
      → IsCut stream heads rest closed → IsCut stream others left shut → (heads ≡ others) × (rest ≡ left) × (closed ≡ shut)

-- Unless the connection closed, what follows a stream is cut as what follows its rest; where it closed, what follows is not cut. So the cut
-- does not depend on the pieces that a stream comes in.
pub record CutsJoin : Type 0 where
  pub follows : (stream piece : List ℕ) (heads others : List HeadOf) (rest left : List ℕ) (closed : Bool)
      → IsCut stream heads rest false → IsCut (rest ++ piece) others left closed → IsCut (stream ++ piece) (heads ++ others) left closed
  pub closed : (stream piece : List ℕ) (heads : List HeadOf) (rest : List ℕ)
      → IsCut stream heads rest true → IsCut (stream ++ piece) heads rest true

-- A hopeless rest has bytes, and what is kept of it and what follows it is hopeless. Whatever follows the stream, its heads are those that were cut off
-- before, and that is left: so at its end one rest without a head is answered.
pub record HopelessRests : Type 0 where
  pub some : (rest : List ℕ) → IsHopeless rest → 0 < length rest
  pub kept : (rest more : List ℕ) → IsHopeless rest → IsHopeless (take MAX_HEAD (rest ++ more))
  pub cut : (stream more : List ℕ) (heads : List HeadOf) (rest : List ℕ)
      → IsCut stream heads rest false → IsHopeless rest → IsCut (stream ++ more) heads (take MAX_HEAD (rest ++ more)) false
