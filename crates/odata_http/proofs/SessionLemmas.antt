-- What a piece, and the end, make of a session that is live.
use Rattle.std.proofs.Common.{◌≡◌, ℕ, Bool, true, false, ◌||◌, nat_lt, List, [], ◌++◌, MatchBool, length, refl}
use Rattle.odata_http.specs.declared.session.State.{State}
use Rattle.odata_http.specs.declared.session.State.TheVariants.{Live, Ended, Failed}
use Rattle.http_heads.specs.Head.{HeadOf}
use Rattle.odata_http.specs.Replies.{AreFirstReplies, IsCertain, last_reply}
use Rattle.odata_http.specs.Session.{SessionOf, IsLive, TakesIn, FailsIn, HasFailed, IsOver}
use Rattle.odata_http.specs.States.{has_ended, has_failed}

-- a session by its parts
abbrev pub session : List ℕ → List ℕ → Bool → State → SessionOf
session rest output closed state = record { rest = rest; output = output; closed = closed; ended = has_ended state; failed = has_failed state }

-- a piece was taken in
pub fed : (R : HeadOf → List ℕ → Type 0) (piece rest output kept after certain : List ℕ) (closed shut : Bool) (state : State)
    → IsLive (session rest output closed state) → closed ≡ false → IsCertain R (rest ++ piece) certain kept shut → after ≡ output ++ certain
    → IsLive (session rest output closed state)
    × MatchBool closed (session kept after shut state ≡ session rest output closed state)
    (TakesIn R piece (session rest output closed state) (session kept after shut state))
fed R piece rest output kept after certain closed shut state live stays is added = rw (stays, added) (
  live,
  record { certain = certain; rest = kept; closed = shut; is = is; new_is = refl },
)

-- memory ran out
pub fed_failed : (R : HeadOf → List ℕ → Type 0) (piece rest output kept after some : List ℕ) (closed : Bool) (state : State)
    → IsLive (session rest output closed state) → closed ≡ false → AreFirstReplies R (rest ++ piece) some → after ≡ output ++ some
    → IsLive (session rest output closed state) × (closed ≡ false)
    × FailsIn R (rest ++ piece) (session rest output closed state) (session kept after closed Failed)
fed_failed R piece rest output kept after some closed Live live stays first added =
    rw added (live, stays, record { some = some; first = first; failed = (kept, refl) })
fed_failed R piece rest output kept after some closed Ended live stays first added = absurd (cc (live.1))
fed_failed R piece rest output kept after some closed Failed live stays first added = absurd (cc (live.0))

-- the end
pub over : (rest output kept after : List ℕ) (closed shut answered : Bool) (state : State)
    → IsLive (session rest output closed state) → kept ≡ [] → after ≡ output ++ last_reply rest → answered ≡ nat_lt 0 (length rest)
    → shut ≡ (closed || answered)
    → IsLive (session rest output closed state) × IsOver (session rest output closed state) (session kept after shut Ended)
over rest output kept after closed shut answered Live live none added some is = rw (is, some, added, none) (live, refl)
over rest output kept after closed shut answered Ended live none added some is = absurd (cc (live.1))
over rest output kept after closed shut answered Failed live none added some is = absurd (cc (live.0))

-- memory ran out at the end
pub end_failed : (rest output kept after : List ℕ) (closed : Bool) (state : State)
    → IsLive (session rest output closed state) → nat_lt 0 (length rest) ≡ true → after ≡ output
    → IsLive (session rest output closed state) × (nat_lt 0 (length rest) ≡ true)
    × HasFailed (session rest output closed state) (session kept after closed Failed) output
end_failed rest output kept after closed Live live some same = rw same (live, some, (kept, refl))
end_failed rest output kept after closed Ended live some same = absurd (cc (live.1))
end_failed rest output kept after closed Failed live some same = absurd (cc (live.0))
