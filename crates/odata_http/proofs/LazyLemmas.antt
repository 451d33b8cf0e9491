-- An exchange call by call, before its reply is written and after.
use Rattle.std.proofs.Common.{◌≡◌, ◌<◌, ◌+◌, ◌-◌, ℕ, List, Ok, sym, subst, arith}
use Rattle.table_store.specs.Catalog.{CatalogOf}
use Rattle.odata_request.specs.Request.{RequestOf, refused, rows, service}
use Rattle.http_heads.specs.Head.{HeadOf}
use Rattle.query_exec.specs.declared.run.Step.{Step}
use Rattle.query_exec.specs.declared.run.Step.TheVariants.{More, Done}
use Rattle.odata_http.specs.declared.exchange.Exchange.{Exchange}
use Rattle.odata_http.specs.declared.lazy.LazyExchange.{LazyExchange}
use Rattle.odata_http.specs.declared.work.Work.{Work}
use Rattle.odata_http.specs.declared.work.Work.TheVariants.{Refuse, ListTables, Find, Read, Waits, Replied, Failed}
use Rattle.odata_http.specs.Exchange.{Begins, GivesReply, GoesOn, IsReplied, IsWork, MayGoOn, answers as stands, done as gave, failed as lacked, most_calls}
use Rattle.odata_http.specs.Lazy.{BeginsLazily, GoesUnlaid, IsWaiting, MayGoOnLazily, answers, done, failed}
use Rattle.odata_http.specs.Reply.{IsReply}
use Rattle.odata_http.specs.Work.{MayWork}
use Rattle.odata_http.proofs.WorkLemmas.{IsUnderWay, left_few}

-- ---- work that may go on

work_may : (catalog : CatalogOf) (request : RequestOf) (left : ℕ) (work : Work) → IsWork catalog request left work → MayWork catalog work
work_may catalog request left (Refuse code) h = tt
work_may catalog request left ListTables h = tt
work_may catalog request left (Waits bytes) h = tt
work_may catalog request left (Replied bytes) h = tt
work_may catalog request left Failed h = tt
work_may catalog (refused code) left (Find key_lookup) h = absurd h
work_may catalog service left (Find key_lookup) h = absurd h
work_may catalog (rows asked) left (Find key_lookup) h = (asked, h.0)
work_may catalog (refused code) left (Read query_run) h = absurd h
work_may catalog service left (Read query_run) h = absurd h
work_may catalog (rows asked) left (Read query_run) h = (asked, left, h)

replied_may : (catalog : CatalogOf) (work : Work) (reply : List ℕ) → IsReplied work reply → MayWork catalog work
replied_may catalog (Refuse code) reply h = absurd h
replied_may catalog ListTables reply h = absurd h
replied_may catalog (Find key_lookup) reply h = absurd h
replied_may catalog (Read query_run) reply h = absurd h
replied_may catalog (Waits bytes) reply h = absurd h
replied_may catalog (Replied bytes) reply h = tt
replied_may catalog Failed reply h = absurd h

waiting_may : (catalog : CatalogOf) (work : Work) (reply : List ℕ) → IsWaiting work reply → MayWork catalog work
waiting_may catalog (Refuse code) reply h = absurd h
waiting_may catalog ListTables reply h = absurd h
waiting_may catalog (Find key_lookup) reply h = absurd h
waiting_may catalog (Read query_run) reply h = absurd h
waiting_may catalog (Waits bytes) reply h = tt
waiting_may catalog (Replied bytes) reply h = absurd h
waiting_may catalog Failed reply h = absurd h

failed_may : (catalog : CatalogOf) (work : Work) → work ≡ Failed → MayWork catalog work
failed_may catalog work e = let P : Work → Type 0 = λ x. MayWork catalog x in subst P (sym e) tt

pub may_work : (catalog : CatalogOf) (exchange : Exchange) → MayGoOn catalog exchange → MayWork catalog exchange.work
may_work catalog exchange (gave d) = replied_may catalog exchange.work d.0 d.1
may_work catalog exchange (lacked f) = failed_may catalog exchange.work f
may_work catalog exchange (stands head left a) = work_may catalog a.request left exchange.work a.work

pub may_work_lazily : (catalog : CatalogOf) (lazy : LazyExchange) → MayGoOnLazily catalog lazy → MayWork catalog lazy.exchange.work
may_work_lazily catalog lazy (done d) = waiting_may catalog lazy.exchange.work d.0 d.1
may_work_lazily catalog lazy (failed f) = failed_may catalog lazy.exchange.work f
may_work_lazily catalog lazy (answers head left a) = work_may catalog a.request left lazy.exchange.work a.work

-- ---- a reply that is written at the last call

pub lays_none : (catalog : CatalogOf) (head : HeadOf) (left : ℕ) (mid : Exchange) (step : Step) → step ≡ More → GoesUnlaid catalog head left mid (Ok step)
    → GoesOn catalog head left mid (Ok More)
lays_none catalog head left mid step e h = let P : Step → Type 0 = λ s. GoesUnlaid catalog head left mid (Ok s) in subst P e h

pub lays_last : (catalog : CatalogOf) (head : HeadOf) (left : ℕ) (mid new : Exchange) (step : Step) → step ≡ Done → GoesUnlaid catalog head left mid (Ok step)
    → ((reply : List ℕ) → IsWaiting mid.work reply → GivesReply new reply) → GoesOn catalog head left new (Ok Done)
lays_last catalog head left mid new step e h gives =
    let P : Step → Type 0 = λ s. GoesUnlaid catalog head left mid (Ok s) in
    let g = subst P e h in (g.0, g.1, g.2, gives g.1 g.3)

-- ---- the calls of a head

pub begins_lazily : (catalog : CatalogOf) (head : HeadOf) (exchange : Exchange) → Begins catalog head exchange
    → BeginsLazily catalog head (record { exchange = exchange })
begins_lazily catalog head exchange b = record { calls = b.calls; takes = b.takes; answers = b.answers }

-- one that begins
pub is_begun : (catalog : CatalogOf) (head : HeadOf) (lazy : LazyExchange) → BeginsLazily catalog head lazy
    → IsUnderWay catalog head (most_calls lazy.exchange.work) lazy.exchange
is_begun catalog head lazy b = record {
  left = b.calls;
  few = (left_few catalog b.answers.request b.calls lazy.exchange.work b.answers.work).1;
  answers = b.answers;
}

-- a call is left
pub is_left : (catalog : CatalogOf) (head : HeadOf) (most : ℕ) (exchange : Exchange) → IsUnderWay catalog head most exchange → 0 < most
is_left catalog head most exchange u =
    let some = (left_few catalog u.answers.request u.left exchange.work u.answers.work).0 in
    let few = u.few in omega (arith, some, few)

-- one call more
pub calls_on : (catalog : CatalogOf) (head : HeadOf) (most next : ℕ) (old new : Exchange) (step : Step) → (u : IsUnderWay catalog head most old) → step ≡ More
    → next + 1 ≡ most → GoesUnlaid catalog head u.left new (Ok step) → IsUnderWay catalog head next new
calls_on catalog head most next old new step u e one h =
    let on = subst (λ (s : Step). GoesUnlaid catalog head u.left new (Ok s)) e h in
    let few = u.few in
    let less = on.0 in record { left = u.left - 1; few = omega (arith, one, few, less); answers = on.1 }

-- the last call
pub calls_end : (catalog : CatalogOf) (head : HeadOf) (left : ℕ) (exchange : Exchange) (step : Step) → step ≡ Done → GoesUnlaid catalog head left exchange (Ok step)
    → (reply : List ℕ) × IsReply catalog head reply × IsWaiting exchange.work reply
calls_end catalog head left exchange step e h =
    let on = subst (λ (s : Step). GoesUnlaid catalog head left exchange (Ok s)) e h in (on.1, on.2, on.3)
