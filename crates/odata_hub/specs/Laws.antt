-- What holds of a connection in every schedule. A connection is opened at a place; the events after that which are its own are those of
-- `own_of`.
use Rattle.std.specs.Prelude.{◌≡◌, ◌↔◌, ◌≤◌, ◌+◌, ⊤, length, max, ℕ, Bool, true, false, List, [], ◌∷◌, ◌++◌, None, Some, slice_get}
use Rattle.std.specs.List.{AllZip, concat}
use Rattle.table_store.specs.Block.{block_count}
use Rattle.table_store.specs.Catalog.{CatalogOf}
use Rattle.table_store.specs.Table.{TableOf}
use Rattle.http_heads.specs.Checks.{head_fault}
use Rattle.http_heads.specs.Head.{HeadOf}
use Rattle.http_heads.specs.Cut.{IsCut}
use Rattle.http_heads.specs.Hopeless.{IsHopeless}
use Rattle.odata_http.specs.Request.{AsksFor, RequestOf, refused, rows, service}
use Rattle.odata_http.specs.Exchange.{HeadTakes}
use Rattle.odata_http.specs.Replies.{AreReplies as AreAllReplies, IsCertain}
use Rattle.odata_http.specs.Reply.{IsReply, rest_reply}
use Rattle.odata_hub.specs.declared.answers.Turned.TheVariants.{Idle}
use Rattle.odata_hub.specs.Streams.{Came, Asked, asked, bytes_of, IsCutUnder}
use Rattle.odata_hub.specs.Replies.{IsReplyTo, AreHubReplies, AreFirstHubReplies}
use Rattle.odata_hub.specs.Connections.{ConnOf, FlightOf, Turn, Went, Own, Run, fresh, is_over, stream_of, taken_of, calls_of, turns_in, HasMemory, input_ended}
use Rattle.odata_hub.specs.Schedules.{HubOf, Happening, On, conn_at, HubStep, HubRun, own_of, stays, opened, reload, has_reload}

-- ---- what is a connection's own

-- What else happens in a schedule changes no connection: its own events are a run of it from what `open` gives, which leads to what is at its place,
-- where it was not dropped.
abbrev pub RunsAlone : Type 0
RunsAlone = (start end : HubOf) (place : ℕ) (events : List Happening) → HubRun start (opened place ∷ events) end
    → (c : ConnOf) × Run fresh (own_of place events) c × (stays place events ≡ true → conn_at end place ≡ Some c)

-- ---- streams whose heads have tables of their own

-- a stream has one list of heads, each with its tables
abbrev pub OneListOfHeads : Type 0
OneListOfHeads = (stream : List Came) (heads others : List Asked) (rest left : List ℕ) (closed shut : Bool)
    → IsCutUnder stream heads rest closed → IsCutUnder stream others left shut → (heads ≡ others) × (rest ≡ left) × (closed ≡ shut)

-- What a piece adds: unless the connection closed, the heads that are cut off the rest and the piece, each with the piece's tables; and nothing
-- where it did.
pub record JoinsStreams : Type 0 where
  pub follows : (stream : List Came) (heads : List Asked) (rest : List ℕ) (piece : Came) (more : List HeadOf) (left : List ℕ) (closed : Bool)
      → IsCutUnder stream heads rest false → IsCut (rest ++ piece.bytes) more left closed
      → IsCutUnder (stream ++ piece ∷ []) (heads ++ asked piece.catalog more) left closed
  pub closed : (stream : List Came) (heads : List Asked) (rest : List ℕ) (piece : Came)
      → IsCutUnder stream heads rest true → IsCutUnder (stream ++ piece ∷ []) heads rest true

-- these pieces came under these tables
abbrev pub CameUnder : CatalogOf → List Came → Type 0
CameUnder catalog [] = ⊤
CameUnder catalog (piece ∷ stream) = (piece.catalog ≡ catalog) × CameUnder catalog stream

-- the replies of these bytes under one catalog: those that are certain, and after the end all
abbrev pub AreRepliesUnder : CatalogOf → List ℕ → Bool → List ℕ → Type 0
AreRepliesUnder catalog bytes true all = (closed : Bool) × AreAllReplies (IsReply catalog) bytes all closed
AreRepliesUnder catalog bytes false all = (rest : List ℕ) × (closed : Bool) × IsCertain (IsReply catalog) bytes all rest closed

-- Where all pieces of a stream came under the same tables, its replies are those of its bytes under them.
pub record SameReplies : Type 0 where
  pub under : (catalog : CatalogOf) (stream : List Came) (ended : Bool) (all : List ℕ) → CameUnder catalog stream
      → AreHubReplies stream ended all → AreRepliesUnder catalog (bytes_of stream) ended all
  pub each : (catalog : CatalogOf) (stream : List Came) (ended : Bool) (all : List ℕ) → CameUnder catalog stream
      → AreRepliesUnder catalog (bytes_of stream) ended all → AreHubReplies stream ended all

-- ---- what a connection is given

abbrev pub IsFrontOf : List ℕ → List ℕ → Type 0
IsFrontOf given all = (rest : List ℕ) × (given ++ rest ≡ all)

-- What the takes gave is a front of the replies: of some first ones, each whole, and of all, where there are all.
pub record IsGiven (os : List Own) : Type 0 where
  pub some : List ℕ
  pub first : AreFirstHubReplies (stream_of os) (input_ended os) some
  pub front : IsFrontOf (taken_of os) some
  pub whole : (all : List ℕ) → AreHubReplies (stream_of os) (input_ended os) all → IsFrontOf (taken_of os) all

-- What the takes of a connection gave is a front of the replies of its stream, each head with its own tables; before its end, of those that are
-- certain.
abbrev pub GivesReplies : Type 0
GivesReplies = (start end : HubOf) (place : ℕ) (events : List Happening) → HubRun start (opened place ∷ events) end
    → IsGiven (own_of place events)

-- nothing is left to do, and all that is due was taken or is in the output
pub record IsAllAnswered (os : List Own) (c : ConnOf) : Type 0 where
  pub waiting : c.waiting ≡ []
  pub flight : c.flight ≡ None
  pub rest : input_ended os ≡ true → c.rest ≡ []
  pub given : AreHubReplies (stream_of os) (input_ended os) (taken_of os ++ c.output)

-- a turn is idle only where all is answered
abbrev pub IdlesWhenAnswered : Type 0
IdlesWhenAnswered = (start mid end : HubOf) (place : ℕ) (events : List Happening) → HubRun start (opened place ∷ events) mid
    → stays place events ≡ true → HubStep mid (On place Turn) (Went Idle) end
    → (c : ConnOf) × (conn_at mid place ≡ Some c) × IsAllAnswered (own_of place events) c

-- ---- where a connection is over

-- a closing head was cut off the stream, and the takes gave the replies to all of its heads
pub record IsAllTaken (os : List Own) : Type 0 where
  pub heads : List Asked
  pub cut : IsCutUnder (stream_of os) heads [] true
  pub each : List (List ℕ)
  pub are : AllZip IsReplyTo heads each
  pub taken : taken_of os ≡ concat each

-- a connection is over only where all of its replies were taken
abbrev pub OverWhenTaken : Type 0
OverWhenTaken = (start end : HubOf) (place : ℕ) (events : List Happening) (c : ConnOf) → HubRun start (opened place ∷ events) end
    → stays place events ≡ true → conn_at end place ≡ Some c → is_over c ≡ true → IsAllTaken (own_of place events)

-- ---- a rest that can begin no head any more

-- A stream that ends here and one that goes on have the same replies at their ends: those that are certain here, and one to the rest.
pub record EndsAlike (stream more : List Came) : Type 0 where
  pub certain : (replies : List ℕ) → AreHubReplies stream false replies → AreHubReplies (stream ++ more) true (replies ++ rest_reply)
  pub alike : (all : List ℕ) → AreHubReplies stream true all ↔ AreHubReplies (stream ++ more) true all

-- where the rest of a connection is hopeless, whatever more would come and under whatever tables, its end brings the same replies now
abbrev pub HopelessConnectionsEnd : Type 0
HopelessConnectionsEnd = (start end : HubOf) (place : ℕ) (events : List Happening) (c : ConnOf) → HubRun start (opened place ∷ events) end
    → stays place events ≡ true → conn_at end place ≡ Some c → IsHopeless c.rest
    → (more : List Came) → EndsAlike (stream_of (own_of place events)) more

-- ---- how many turns a reply takes

-- The life of a connection in a schedule, seen at two moments: it was opened at the place; after the events `before` it was the old one, and
-- after `after`, which follow them, it is the new one. It was not dropped, and memory lasted for it.
pub record LivesOn (place : ℕ) (before after : List Happening) (old new : ConnOf) : Type 0 where
  pub start : HubOf
  pub mid : HubOf
  pub end : HubOf
  pub earlier : HubRun start (opened place ∷ before) mid
  pub later : HubRun mid after end
  pub stays : stays place (before ++ after) ≡ true
  pub memory : HasMemory (own_of place (before ++ after))
  pub old_is : conn_at mid place ≡ Some old
  pub new_is : conn_at end place ≡ Some new

-- The whole reply to this head was added to the output, and nothing else: what was taken since, and what is in the output, are together what was in
-- the output before and then the reply. No exchange is in flight; and these others wait, with what came since after them.
pub record IsBrought (old : ConnOf) (a : Asked) (others : List Asked) (os : List Own) (new : ConnOf) : Type 0 where
  pub reply : List ℕ
  pub is : IsReplyTo a reply
  pub output : taken_of os ++ new.output ≡ old.output ++ reply
  pub flight : new.flight ≡ None
  pub came : List Asked
  pub waiting : new.waiting ≡ others ++ came

-- The exchange in flight has its whole reply in the output after as many turns of its connection as it has calls left, whatever other calls stand
-- between these.
abbrev pub BringsReply : Type 0
BringsReply = (place : ℕ) (before after : List Happening) (old new : ConnOf) (f : FlightOf) → LivesOn place before after old new
    → old.flight ≡ Some f → turns_in (own_of place after) ≡ f.left
    → IsBrought old f.asked old.waiting (own_of place after) new

-- the first head that waits is the next to be answered
abbrev pub IsNext : ConnOf → Asked → List Asked → Type 0
IsNext c a others = (c.flight ≡ None) × (c.waiting ≡ a ∷ others)

-- and the next head, after as many turns after the one that begins it as its reply takes calls
abbrev pub BringsNext : Type 0
BringsNext = (place : ℕ) (before after : List Happening) (old new : ConnOf) (a : Asked) (others : List Asked) (calls : ℕ)
    → LivesOn place before after old new → IsNext old a others → HeadTakes a.catalog a.head calls
    → turns_in (own_of place after) ≡ calls + 1
    → IsBrought old a others (own_of place after) new

-- The whole reply to this head was added to the output, and maybe others after it.
pub record IsAmong (old : ConnOf) (a : Asked) (os : List Own) (new : ConnOf) : Type 0 where
  pub reply : List ℕ
  pub is : IsReplyTo a reply
  pub output : IsFrontOf (old.output ++ reply) (taken_of os ++ new.output)

-- This many turns are enough for a request: on a table one more than it has blocks, of which one is counted where it has none; on no table 2.
abbrev pub AreEnoughTurns : CatalogOf → RequestOf → ℕ → Type 0
AreEnoughTurns catalog (refused code) turns = 2 ≤ turns
AreEnoughTurns catalog service turns = 2 ≤ turns
AreEnoughTurns catalog (rows asked) turns =
    (table : TableOf) × (slice_get catalog.tables asked.table ≡ Some table) × (max 1 (block_count (length table.rows)) + 1 ≤ turns)

-- the next head has its reply in the output within that many turns in all
abbrev pub BringsWithin : Type 0
BringsWithin = (place : ℕ) (before after : List Happening) (old new : ConnOf) (a : Asked) (others : List Asked) (request : RequestOf)
    → LivesOn place before after old new → IsNext old a others
    → AsksFor a.catalog (head_fault a.head) a.head.target request → AreEnoughTurns a.catalog request (turns_in (own_of place after))
    → IsAmong old a (own_of place after) new

-- ---- what other connections and other tables change: nothing

-- Two schedules in which a connection has the same own events, with equal tables at its pieces, give it equal answers, whatever else happens in
-- them, where memory lasts.
abbrev pub AnswersAlike : Type 0
AnswersAlike = (start end other last : HubOf) (place seat : ℕ) (events others : List Happening)
    → HubRun start (opened place ∷ events) end → HubRun other (opened seat ∷ others) last
    → calls_of (own_of place events) ≡ calls_of (own_of seat others)
    → HasMemory (own_of place events) → HasMemory (own_of seat others)
    → own_of place events ≡ own_of seat others

-- these heads have these tables
abbrev pub HaveCatalog : CatalogOf → List Asked → Type 0
HaveCatalog catalog [] = ⊤
HaveCatalog catalog (a ∷ heads) = (a.catalog ≡ catalog) × HaveCatalog catalog heads

-- The heads of a connection between whose pieces the tables changed: those that came before have the older, the others the newer.
pub record Parts (place : ℕ) (older newer : CatalogOf) (before after : List Happening) : Type 0 where
  pub heads : List Asked
  pub later : List Asked
  pub left : List ℕ
  pub rest : List ℕ
  pub closed : Bool
  pub shut : Bool
  pub earlier : IsCutUnder (stream_of (own_of place before)) heads left closed
  pub whole : IsCutUnder (stream_of (own_of place (before ++ reload newer ∷ after))) (heads ++ later) rest shut
  pub earlier_have : HaveCatalog older heads
  pub later_have : HaveCatalog newer later

-- a head that came before a reload has the older tables, one that came after it the newer
abbrev pub KeepsCatalogs : Type 0
KeepsCatalogs = (start end : HubOf) (place : ℕ) (newer : CatalogOf) (before after : List Happening)
    → HubRun start (opened place ∷ (before ++ reload newer ∷ after)) end
    → has_reload before ≡ false → has_reload after ≡ false → stays place before ≡ true
    → Parts place start.catalog newer before after
