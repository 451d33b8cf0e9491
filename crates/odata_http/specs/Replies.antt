-- The replies of a stream (RFC 9112, section 9.3), for any relation of heads and replies: those to the heads of its cut, one after another.
-- Nothing here says that a head has a reply, but of those that were reached.
use Rattle.std.specs.Prelude.{◌≡◌, ℕ, Bool, List, [], ◌∷◌, ◌++◌, take, MatchBool}
use Rattle.std.specs.List.{AllZip, concat}
use Rattle.http_heads.specs.Head.{HeadOf}
use Rattle.http_heads.specs.Cut.{IsCut}
use Rattle.odata_http.specs.Reply.{rest_reply}

-- the reply that the end of the stream brings: to a nonempty rest
abbrev pub last_reply : List ℕ → List ℕ
last_reply [] = []
last_reply (b ∷ rest) = rest_reply

-- the replies that are certain after these bytes, whatever follows; the rest; and whether the connection closed
pub record IsCertain (R : HeadOf → List ℕ → Type 0) (stream certain rest : List ℕ) (closed : Bool) : Type 0 where
  pub heads : List HeadOf
  pub replies : List (List ℕ)
  pub cut : IsCut stream heads rest closed
  pub each : AllZip R heads replies
  pub certain_is : certain ≡ concat replies

-- the replies of a whole stream, and whether it closed the connection before its end
pub record AreReplies (R : HeadOf → List ℕ → Type 0) (stream all : List ℕ) (closed : Bool) : Type 0 where
  pub certain : List ℕ
  pub rest : List ℕ
  pub is : IsCertain R stream certain rest closed
  pub all_is : all ≡ certain ++ last_reply rest

-- some of the first replies, each of them whole
pub record AreFirstReplies (R : HeadOf → List ℕ → Type 0) (stream some : List ℕ) : Type 0 where
  pub answered : List HeadOf
  pub others : List HeadOf
  pub rest : List ℕ
  pub closed : Bool
  pub cut : IsCut stream (answered ++ others) rest closed
  pub replies : List (List ℕ)
  pub each : AllZip R answered replies
  pub some_is : some ≡ concat replies

-- a front of some of the first replies; where the end of the stream was read, of all
pub record IsFrontOfReplies (R : HeadOf → List ℕ → Type 0) (stream wrote : List ℕ) (ended : Bool) : Type 0 where
  pub replies : List ℕ
  pub are : MatchBool ended ((closed : Bool) × AreReplies R stream replies closed) (AreFirstReplies R stream replies)
  pub count : ℕ
  pub wrote_is : wrote ≡ take count replies
