-- The laws, each from a connection's own run.
use Rattle.std.proofs.Common.{◌≡◌, ◌<◌, ℕ, List, Option, Some, refl, sym, subst, ◌∙◌}
use Rattle.std.specs.Prelude.{false}
use Rattle.http_heads.specs.Laws.{OneCut, CutsJoin, HopelessRests}
use Rattle.odata_http.specs.Laws.{OneLength, OneReply, UnderTables}
use Rattle.odata_hub.specs.declared.answers.Turned.TheVariants.{Idle}
use Rattle.odata_hub.specs.Connections.{ConnOf, FlightOf, Run, Turn, Went, fresh}
use Rattle.odata_hub.specs.Schedules.{Happening, StepsAt, own_of}
use Rattle.odata_hub.specs.Laws.{RunsAlone, GivesReplies, HopelessConnectionsEnd, IdlesWhenAnswered, OverWhenTaken, BringsReply, BringsNext, BringsWithin, AnswersAlike, KeepsCatalogs}
use Rattle.odata_hub.proofs.GivenLemmas.{front_taken, idle_answered}
use Rattle.odata_hub.proofs.OverLemmas.{over_taken}
use Rattle.odata_hub.proofs.HopelessLemmas.{ends_alike}
use Rattle.odata_hub.proofs.CallLemmas.{adds_run}
use Rattle.odata_hub.proofs.LifeLemmas.{HasLeft, Life, left_run, life_of}
use Rattle.odata_hub.proofs.BringLemmas.{next_among, next_brought, reply_brought}
use Rattle.odata_hub.proofs.AlikeLemmas.{equal_answers}
use Rattle.odata_hub.proofs.CatalogLemmas.{splits}
use Rattle.odata_hub.proofs.HubLemmas.{on_steps, from_open}

pub runs_alone : RunsAlone
runs_alone start end place events r = let f = from_open start end place events r in (f.last, f.run, f.here)

pub gives_replies : OneCut → CutsJoin → UnderTables OneReply → GivesReplies
gives_replies cuts joins one start end place events r =
    let f = from_open start end place events r in
    front_taken cuts joins one f.last (own_of place events) f.run

pub idles_when_answered : OneCut → CutsJoin → IdlesWhenAnswered
idles_when_answered cuts joins start mid end place events r stay s =
    let f = from_open start mid place events r in
    let one : StepsAt mid place f.last Turn (Went Idle) end = on_steps mid end place f.last Turn (Went Idle) (f.here stay) s in
    (f.last, f.here stay, idle_answered cuts joins f.last one.next (own_of place events) f.run one.step)

pub over_when_taken : OneCut → CutsJoin → OverWhenTaken
over_when_taken cuts joins start end place events c r stay here over =
    let f = from_open start end place events r in
    let same : Some f.last ≡ Some c = sym (f.here stay) ∙ here in
    let is : f.last ≡ c = cc same in
    let P : ConnOf → Type 0 = λ x. Run fresh (own_of place events) x in
    over_taken cuts joins c (own_of place events) (subst P is f.run) over

pub hopeless_ends : OneCut → CutsJoin → HopelessRests → HopelessConnectionsEnd
hopeless_ends cuts joins rests start end place events c r stay here never more =
    let f = from_open start end place events r in
    let same : Some f.last ≡ Some c = sym (f.here stay) ∙ here in
    let is : f.last ≡ c = cc same in
    let P : ConnOf → Type 0 = λ x. Run fresh (own_of place events) x in
    ends_alike cuts joins rests c (own_of place events) (subst P is f.run) never more

-- memory lasted up to the first moment
has_memory : {place : ℕ} {before after : List Happening} {old new : ConnOf} → Life place before after old new → old.failed ≡ false
has_memory {place} {before} {after} {old} {new} l = (adds_run fresh old (own_of place before) refl l.early l.first).1.going

pub brings_reply : OneLength → BringsReply
brings_reply lengths place before after old new f l at len =
    let x = life_of place before after old new l in
    let H : Option FlightOf → Type 0 = HasLeft in
    let left : 0 < f.left = subst H at (left_run lengths fresh old (own_of place before) refl tt x.early x.first) in
    reply_brought old new (own_of place after) f (has_memory x) at left len x.late x.next

pub brings_next : OneLength → BringsNext
brings_next lengths place before after old new a others calls l next takes len =
    let x = life_of place before after old new l in
    next_brought lengths old new (own_of place after) a others calls (has_memory x) next takes len x.late x.next

pub brings_within : OneLength → BringsWithin
brings_within lengths place before after old new a others request l next asks many =
    let x = life_of place before after old new l in
    next_among lengths old new (own_of place after) a others request (has_memory x) next asks many x.late x.next

pub answers_alike : OneCut → UnderTables OneReply → OneLength → AnswersAlike
answers_alike cuts one lengths start end other last place seat events others r q same m n =
    let f = from_open start end place events r in
    let g = from_open other last seat others q in
    equal_answers cuts one lengths fresh f.last g.last (own_of place events) (own_of seat others) f.run g.run same m n

pub keeps_catalogs : OneCut → CutsJoin → KeepsCatalogs
keeps_catalogs cuts joins start end place newer before after r early late' stay = splits cuts joins start end place newer before after r early late' stay
