-- Heads answered in turn, wherever their replies go.
use Rattle.std.specs.Prelude.{◌≡◌, ◌⊎◌, ◌<◌, ℕ, ◌≤◌, Bool, true, false, List, [], ◌∷◌, ◌++◌, length, take, Result, Ok, Err, ⊤}
use Rattle.std.specs.Io.KnownBytes.{Appends}
use Rattle.std.specs.List.{AllByRecursion, AllZip}
use Rattle.http_heads.specs.Head.{HeadOf}
use Rattle.http_heads.specs.Cut.{IsCut}
use Rattle.odata_http.specs.declared.answer.AnswerFault.{AnswerFault}
use Rattle.odata_http.specs.declared.answer.AnswerFault.TheVariants.{NoMemory, Write}
use Rattle.odata_http.specs.Device.{SinkOf, Counts}
use Rattle.odata_http.specs.Replies.{last_reply}

-- no target is longer than a head may be
abbrev pub AreSmall : List HeadOf → Type 0
AreSmall heads = AllByRecursion (λ head. length head.target ≤ 8_192) heads

-- these bytes were written, and no write failed
pub record HasWritten (old new : SinkOf) (bytes : List ℕ) : Type 0 where
  pub gained : Appends old.taken new.taken bytes
  pub failed : new.failed_writes ≡ old.failed_writes

-- these bytes were written, and then a write failed
pub record HasFailed (old new : SinkOf) (bytes : List ℕ) : Type 0 where
  pub gained : Appends old.taken new.taken bytes
  pub failed : Counts old.failed_writes new.failed_writes

-- a device was given a reply: it took all of it, or a front of it where a write failed
abbrev pub IsSent : SinkOf → List ℕ → Result ⊤ AnswerFault → SinkOf → Type 0
IsSent old reply (Ok u) new = HasWritten old new reply
IsSent old reply (Err NoMemory) new = ⊥
IsSent old reply (Err Write) new = (n : ℕ) × (n ≤ length reply) × HasFailed old new (take n reply)

-- these replies were taken, one after another
abbrev pub TakesAll : {S : Type 0} → (S → List ℕ → Result ⊤ AnswerFault → S → Type 0) → S → List (List ℕ) → S → Type 0
TakesAll T old [] new = new ≡ old
TakesAll {S} T old (reply ∷ replies) new = (mid : S) × T old reply (Ok tt) mid × TakesAll T mid replies new

-- all of these heads were answered
pub record AnswersAll {S : Type 0} (R : HeadOf → List ℕ → Type 0) (T : S → List ℕ → Result ⊤ AnswerFault → S → Type 0)
    (heads : List HeadOf) (old new : S) : Type 0 where
  pub replies : List (List ℕ)
  pub each : AllZip R heads replies
  pub taken : TakesAll T old replies new

-- the reply to the first of these heads was not taken
pub record FailsToTake {S : Type 0} (R : HeadOf → List ℕ → Type 0) (T : S → List ℕ → Result ⊤ AnswerFault → S → Type 0)
    (heads : List HeadOf) (fault : AnswerFault) (old new : S) : Type 0 where
  pub head : HeadOf
  pub behind : List HeadOf
  pub heads_are : heads ≡ head ∷ behind
  pub reply : List ℕ
  pub is : R head reply
  pub failed : T old reply (Err fault) new

-- memory ran out before a reply was made
pub record LacksMemory {S : Type 0} (fault : AnswerFault) (old new : S) : Type 0 where
  pub fault_is : fault ≡ NoMemory
  pub same : new ≡ old

-- some first of these heads were answered, and then there was this fault
pub record AnswersSome {S : Type 0} (R : HeadOf → List ℕ → Type 0) (T : S → List ℕ → Result ⊤ AnswerFault → S → Type 0)
    (heads : List HeadOf) (fault : AnswerFault) (old new : S) : Type 0 where
  pub answered : List HeadOf
  pub others : List HeadOf
  pub heads_are : heads ≡ answered ++ others
  pub between : S
  pub all : AnswersAll R T answered old between
  pub stop : LacksMemory fault between new ⊎ FailsToTake R T others fault between new

-- how answering these heads ended
abbrev pub IsAnswered : {S : Type 0} → (HeadOf → List ℕ → Type 0) → (S → List ℕ → Result ⊤ AnswerFault → S → Type 0)
    → List HeadOf → S → S → Result ⊤ AnswerFault → Type 0
IsAnswered R T heads old new (Ok u) = AnswersAll R T heads old new
IsAnswered R T heads old new (Err fault) = AnswersSome R T heads fault old new

-- how taking in a piece ended, where the rest and the piece are this stream: all heads of its cut were answered, and the rest is kept; or
-- some first ones
abbrev pub IsTakenIn : {S : Type 0} → (HeadOf → List ℕ → Type 0) → (S → List ℕ → Result ⊤ AnswerFault → S → Type 0)
    → List ℕ → List ℕ → S → S → Result Bool AnswerFault → Type 0
IsTakenIn R T stream kept old new (Ok closed) = (heads : List HeadOf) × IsCut stream heads kept closed × AnswersAll R T heads old new
IsTakenIn R T stream kept old new (Err fault) = (heads : List HeadOf) × (rest : List ℕ) × (closed : Bool) × IsCut stream heads rest closed
    × AnswersSome R T heads fault old new

-- the reply to a nonempty rest was not made or not taken
pub record FailsOnRest {S : Type 0} (T : S → List ℕ → Result ⊤ AnswerFault → S → Type 0) (rest : List ℕ) (fault : AnswerFault) (old new : S)
    : Type 0 where
  pub some : 0 < length rest
  pub stop : LacksMemory fault old new ⊎ T old (last_reply rest) (Err fault) new

-- how the end of the stream after this rest was answered
abbrev pub IsRestAnswered : {S : Type 0} → (S → List ℕ → Result ⊤ AnswerFault → S → Type 0) → List ℕ → S → S → Result Bool AnswerFault → Type 0
IsRestAnswered T [] old new (Ok answered) = (answered ≡ false) × (new ≡ old)
IsRestAnswered T (b ∷ rest) old new (Ok answered) = (answered ≡ true) × T old (last_reply (b ∷ rest)) (Ok tt) new
IsRestAnswered T rest old new (Err fault) = FailsOnRest T rest fault old new
