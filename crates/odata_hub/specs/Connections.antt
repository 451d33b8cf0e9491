-- A connection, what each call on it does, and lists of calls.
use Rattle.std.specs.Prelude.{◌≡◌, ◌≢◌, ◌⊎◌, ⊤, ℕ, ◌+◌, ◌-◌, Bool, true, false, not, ◌||◌, ◌&&◌, List, [], ◌∷◌, ◌++◌, take, drop, is_none, nat_le, Option, Some, None, Result, Ok, Err, MatchBool, if◌then◌else◌}
use Rattle.table_store.specs.Catalog.{CatalogOf}
use Rattle.http_heads.specs.Head.{HeadOf}
use Rattle.http_heads.specs.Cut.{IsCut}
use Rattle.odata_http.specs.Exchange.{HeadTakes}
use Rattle.odata_http.specs.Replies.{last_reply}
use Rattle.odata_hub.specs.declared.answers.HubFault.{HubFault}
use Rattle.odata_hub.specs.declared.answers.HubFault.TheVariants.{Ended, Failed, NoMemory}
use Rattle.odata_hub.specs.declared.answers.Turned.{Turned}
use Rattle.odata_hub.specs.declared.answers.Turned.TheVariants.{Idle, Worked}
use Rattle.odata_hub.specs.Streams.{Came, Asked, asked}
use Rattle.odata_hub.specs.Replies.{IsReplyTo}

-- the exchange in flight: its head with its tables, and how many of its calls are left
pub record FlightOf : Type 0 where
  pub asked : Asked
  pub left : ℕ

-- The rest of the stream; the heads that wait, each with its tables; the exchange in flight; the output that waits; and whether a closing head
-- was cut off, the stream ended, or memory ran out.
pub record ConnOf : Type 0 where
  pub rest : List ℕ
  pub waiting : List Asked
  pub flight : Option FlightOf
  pub output : List ℕ
  pub closed : Bool
  pub ended : Bool
  pub failed : Bool

-- what `open` gives: it holds nothing
abbrev pub fresh : ConnOf
fresh = record { rest = []; waiting = []; flight = None; output = []; closed = false; ended = false; failed = false }

-- a call on a connection; a piece goes with the tables current as it came, a take with the room that it has
pub data Call : Type 0 where
  Piece : (catalog : CatalogOf) (bytes : List ℕ) → Call
  End : Call
  Turn : Call
  Take : (room : ℕ) → Call

pub data Answer : Type 0 where
  Done : Answer
  Opened : (place : ℕ) → Answer
  Went : (turned : Turned) → Answer
  Gave : (bytes : List ℕ) → Answer
  Refused : (fault : HubFault) → Answer

-- the answer that a result is
abbrev pub call_answer : {T : Type 0} → (T → Answer) → Result T HubFault → Answer
call_answer answer (Ok x) = answer x
call_answer answer (Err fault) = Refused fault

-- a piece adds the heads that are cut off the rest and the piece, each with the current tables, and what is left of these bytes is kept
pub record IsFed (old : ConnOf) (catalog : CatalogOf) (piece : List ℕ) (new : ConnOf) : Type 0 where
  pub heads : List HeadOf
  pub rest : List ℕ
  pub closed : Bool
  pub cut : IsCut (old.rest ++ piece) heads rest closed
  pub new_is : new ≡ record old { rest = rest; waiting = old.waiting ++ asked catalog heads; closed = closed }

-- the last call of the exchange in flight: the whole reply to its head is added to the output
pub record AddsReply (old : ConnOf) (a : Asked) (new : ConnOf) : Type 0 where
  pub reply : List ℕ
  pub is : IsReplyTo a reply
  pub new_is : new ≡ record old { flight = None; output = old.output ++ reply }

-- the exchange of the first waiting head begins: all of its calls are left
pub record BeginsNext (old : ConnOf) (a : Asked) (waiting : List Asked) (new : ConnOf) : Type 0 where
  pub calls : ℕ
  pub takes : HeadTakes a.catalog a.head calls
  pub new_is : new ≡ record old { waiting = waiting; flight = Some (record { asked = a; left = calls }) }

-- One call of the exchange in flight; without one, the first waiting head begins; without that, once the stream ended, the reply to a rest
-- is added. By the exchange, the waiting heads, the end and the rest.
abbrev pub IsTurnedBy : ConnOf → Option FlightOf → List Asked → Bool → List ℕ → ConnOf → Type 0
IsTurnedBy old (Some f) waiting ended rest new = MatchBool (nat_le f.left 1) (AddsReply old f.asked new)
    (new ≡ record old { flight = Some (record { asked = f.asked; left = f.left - 1 }) })
IsTurnedBy old None (a ∷ waiting) ended rest new = BeginsNext old a waiting new
IsTurnedBy old None [] true rest new = new ≡ record old { rest = []; output = old.output ++ last_reply rest }
IsTurnedBy old None [] false rest new = new ≡ old

abbrev pub IsTurned : ConnOf → ConnOf → Type 0
IsTurned old new = IsTurnedBy old old.flight old.waiting old.ended old.rest new

-- whether a turn finds something to do
abbrev pub works_by : Option FlightOf → List Asked → Bool → List ℕ → Bool
works_by (Some f) waiting ended rest = true
works_by None (a ∷ waiting) ended rest = true
works_by None [] true (b ∷ rest) = true
works_by None [] true [] = false
works_by None [] false rest = false

abbrev pub works : ConnOf → Bool
works c = works_by c.flight c.waiting c.ended c.rest

-- what a call answers where memory lasts
abbrev pub answer_to : ConnOf → Call → Answer
answer_to c (Piece catalog bytes) = if c.failed then Refused Failed else (if c.ended then Refused Ended else Done)
answer_to c End = if c.failed then Refused Failed else (if c.ended then Refused Ended else Done)
answer_to c Turn = if c.failed then Refused Failed else Went (if works c then Worked else Idle)
answer_to c (Take room) = Gave (take room c.output)

-- the connection after it; a refused call changes nothing, nor does a piece after a closing head
abbrev pub IsAfter : ConnOf → Call → ConnOf → Type 0
IsAfter c (Piece catalog bytes) new =
    MatchBool c.failed (new ≡ c) (MatchBool c.ended (new ≡ c) (MatchBool c.closed (new ≡ c) (IsFed c catalog bytes new)))
IsAfter c End new = new ≡ (if c.failed then c else (if c.ended then c else record c { ended = true }))
IsAfter c Turn new = MatchBool c.failed (new ≡ c) (IsTurned c new)
IsAfter c (Take room) new = new ≡ record c { output = drop room c.output }

-- a piece or a turn that does something may want memory that is not there
abbrev pub MayWant : ConnOf → Call → Type 0
MayWant c (Piece catalog bytes) = (c.failed ≡ false) × (c.ended ≡ false) × (c.closed ≡ false)
MayWant c End = ⊥
MayWant c Turn = (c.failed ≡ false) × (works c ≡ true)
MayWant c (Take room) = ⊥

-- A connection is marked as failed when memory ran out. Its output is kept, and whether a closing head was cut off and the stream ended; the rest, the
-- heads that wait and the exchange in flight are given up.
pub record IsFailed (old new : ConnOf) : Type 0 where
  pub failed : new.failed ≡ true
  pub output : new.output ≡ old.output
  pub closed : new.closed ≡ old.closed
  pub ended : new.ended ≡ old.ended
  pub rest : new.rest ≡ []
  pub waiting : new.waiting ≡ []
  pub flight : new.flight ≡ None

-- the call is answered, or memory is wanting
abbrev pub Step : ConnOf → Call → Answer → ConnOf → Type 0
Step old call answer new =
    ((answer ≡ answer_to old call) × IsAfter old call new) ⊎ ((answer ≡ Refused NoMemory) × MayWant old call × IsFailed old new)

-- a closing head was cut off, and all replies were taken; where memory ran out, one of them was never made
abbrev pub is_over : ConnOf → Bool
is_over c = not c.failed && c.closed && is_none c.flight && is_empty c.waiting && is_empty c.output
  where
    is_empty : {T : Type 0} → List T → Bool
    is_empty [] = true
    is_empty (x ∷ xs) = false

-- ---- lists of calls

-- a call with its answer
pub record Own : Type 0 where
  pub call : Call
  pub answer : Answer

-- these calls get these answers, one after another
abbrev pub Run : ConnOf → List Own → ConnOf → Type 0
Run old [] new = new ≡ old
Run old (o ∷ os) new = (mid : ConnOf) × Step old o.call o.answer mid × Run mid os new

abbrev pub is_done : Answer → Bool
is_done Done = true
is_done (Opened place) = false
is_done (Went turned) = false
is_done (Gave bytes) = false
is_done (Refused fault) = false

-- what a call adds to the stream: a piece that is answered Ok
abbrev pub came_with : Call → Answer → List Came
came_with (Piece catalog bytes) answer = if is_done answer then record { catalog = catalog; bytes = bytes } ∷ [] else []
came_with End answer = []
came_with Turn answer = []
came_with (Take room) answer = []

-- the stream of a connection
abbrev pub stream_of : List Own → List Came
stream_of [] = []
stream_of (o ∷ os) = came_with o.call o.answer ++ stream_of os

-- the bytes that an answer gives
abbrev pub given_by : Answer → List ℕ
given_by (Gave bytes) = bytes
given_by Done = []
given_by (Opened place) = []
given_by (Went turned) = []
given_by (Refused fault) = []

-- the bytes that the takes of a connection gave
abbrev pub taken_of : List Own → List ℕ
taken_of [] = []
taken_of (o ∷ os) = given_by o.answer ++ taken_of os

-- whether it is an end that is answered Ok
abbrev pub ends_with : Call → Answer → Bool
ends_with (Piece catalog bytes) answer = false
ends_with End answer = is_done answer
ends_with Turn answer = false
ends_with (Take room) answer = false

-- whether the stream ended
abbrev pub input_ended : List Own → Bool
input_ended [] = false
input_ended (o ∷ os) = ends_with o.call o.answer || input_ended os

-- the calls alone
abbrev pub calls_of : List Own → List Call
calls_of [] = []
calls_of (o ∷ os) = o.call ∷ calls_of os

-- none of the answers is out of memory
abbrev pub HasMemory : List Own → Type 0
HasMemory [] = ⊤
HasMemory (o ∷ os) = (o.answer ≢ Refused NoMemory) × HasMemory os

abbrev pub turns_by : Call → ℕ → ℕ
turns_by (Piece catalog bytes) others = others
turns_by End others = others
turns_by Turn others = others + 1
turns_by (Take room) others = others

-- how many of these calls are turns
abbrev pub turns_in : List Own → ℕ
turns_in [] = 0
turns_in (o ∷ os) = turns_by o.call (turns_in os)
