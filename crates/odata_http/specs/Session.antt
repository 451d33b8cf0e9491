-- A connection's part of a service: what it holds, and what each call makes of it.
use Rattle.std.specs.Prelude.{◌≡◌, ℕ, List, [], ◌++◌, Bool, true, false, ◌||◌, nat_lt, length, take, drop, min, MatchBool, Result, Ok, Err, ⊤}
use Rattle.odata_http.specs.declared.session.SessionFault.{SessionFault}
use Rattle.odata_http.specs.declared.session.SessionFault.TheVariants.{Failed, Ended, NoMemory}
use Rattle.http_heads.specs.Head.{HeadOf}
use Rattle.odata_http.specs.Replies.{IsCertain, AreFirstReplies, last_reply}

-- the rest of the stream, the output that waits, and whether a reply closed, it ended, or it failed
pub record SessionOf : Type 0 where
  pub rest : List ℕ
  pub output : List ℕ
  pub closed : Bool
  pub ended : Bool
  pub failed : Bool

-- before the first byte
abbrev pub new_session : SessionOf
new_session = record { rest = []; output = []; closed = false; ended = false; failed = false }

-- it neither failed nor ended
abbrev pub IsLive : SessionOf → Type 0
IsLive s = (s.failed ≡ false) × (s.ended ≡ false)

-- it is live, or the fault says why not
abbrev pub IsLiveOr : SessionOf → Result ⊤ SessionFault → Type 0
IsLiveOr s (Ok u) = IsLive s
IsLiveOr s (Err Failed) = s.failed ≡ true
IsLiveOr s (Err Ended) = (s.failed ≡ false) × (s.ended ≡ true)
IsLiveOr s (Err NoMemory) = ⊥

-- the replies that are certain after the rest and the piece were added, and the rest of that is kept
pub record TakesIn (R : HeadOf → List ℕ → Type 0) (piece : List ℕ) (old new : SessionOf) : Type 0 where
  pub certain : List ℕ
  pub rest : List ℕ
  pub closed : Bool
  pub is : IsCertain R (old.rest ++ piece) certain rest closed
  pub new_is : new ≡ record old { rest = rest; output = old.output ++ certain; closed = closed }

-- the session failed with this output; what rest it keeps is not said, since nothing reads it any more
abbrev pub HasFailed : SessionOf → SessionOf → List ℕ → Type 0
HasFailed old new output = (rest : List ℕ) × (new ≡ record old { rest = rest; output = output; failed = true })

-- some first replies were added, each of them whole, and the session failed
pub record FailsIn (R : HeadOf → List ℕ → Type 0) (stream : List ℕ) (old new : SessionOf) : Type 0 where
  pub some : List ℕ
  pub first : AreFirstReplies R stream some
  pub failed : HasFailed old new (old.output ++ some)

-- what feeding a piece makes of a session: nothing, once a reply closed
abbrev pub IsFedSession : (HeadOf → List ℕ → Type 0) → List ℕ → SessionOf → SessionOf → Result ⊤ SessionFault → Type 0
IsFedSession R piece old new (Ok u) = IsLive old × MatchBool old.closed (new ≡ old) (TakesIn R piece old new)
IsFedSession R piece old new (Err Failed) = (old.failed ≡ true) × (new ≡ old)
IsFedSession R piece old new (Err Ended) = (old.failed ≡ false) × (old.ended ≡ true) × (new ≡ old)
IsFedSession R piece old new (Err NoMemory) = IsLive old × (old.closed ≡ false) × FailsIn R (old.rest ++ piece) old new

-- there is a rest, to which the end of the stream brings a reply
abbrev pub has_rest : SessionOf → Bool
has_rest s = nat_lt 0 (length s.rest)

-- the end of the stream: the reply to a rest that is not empty is added, and it closes
abbrev pub IsOver : SessionOf → SessionOf → Type 0
IsOver old new = new ≡ record old { rest = []; output = old.output ++ last_reply old.rest; closed = old.closed || has_rest old; ended = true }

-- What the end of the stream makes of a session. Memory is wanted for the reply to a rest alone.
abbrev pub IsEnded : SessionOf → SessionOf → Result ⊤ SessionFault → Type 0
IsEnded old new (Ok u) = IsLive old × IsOver old new
IsEnded old new (Err Failed) = (old.failed ≡ true) × (new ≡ old)
IsEnded old new (Err Ended) = (old.failed ≡ false) × (old.ended ≡ true) × (new ≡ old)
IsEnded old new (Err NoMemory) = IsLive old × (has_rest old ≡ true) × HasFailed old new old.output

-- the first bytes of the output, as many as wait or fit, were moved into the front of a buffer, and the rest of that stays
pub record Takes (old new : SessionOf) (count : ℕ) (buf buf_after : List ℕ) : Type 0 where
  pub count_is : count ≡ min (length old.output) (length buf)
  pub bytes : buf_after ≡ take count old.output ++ drop count buf
  pub new_is : new ≡ record old { output = drop count old.output }
