-- The work for a request, call by call.
use Rattle.std.proofs.Common.{◌≡◌, ◌<◌, ◌≤◌, ◌-◌, ℕ, Bool, List, Option, Some, None, Ok, Vec, Global, refl, sym, ap, ap₂, ◌∙◌, subst, arith}
use Rattle.cell_types.specs.Value.{CellValue}
use Rattle.table_store.specs.Catalog.{CatalogOf}
use Rattle.odata_query.specs.Query.{optional_numbers, values_view}
use Rattle.odata_request.specs.Laws.{KeysStandAlone}
use Rattle.odata_errors.specs.declared.code.Code.{Code}
use Rattle.http_heads.specs.Head.{HeadOf}
use Rattle.query_exec.specs.declared.run.Step.{Step}
use Rattle.odata_request.specs.Request.{IsRowsInside, RequestOf, RowsRequestOf, refused, rows, service}
use Rattle.http_heads.specs.declared.method.Method.{Method}
use Rattle.odata_http.specs.declared.exchange.Exchange.{Exchange}
use Rattle.odata_http.specs.declared.key_lookup.KeyLookup.{KeyLookup}
use Rattle.odata_http.specs.declared.query_run.Reached.{Reached}
use Rattle.odata_http.specs.declared.query_run.Reached.TheVariants.{Over}
use Rattle.odata_http.specs.declared.query_run.QueryRun.{QueryRun}
use Rattle.odata_http.specs.declared.response.Response.{Response}
use Rattle.odata_http.specs.declared.work.Work.{Work}
use Rattle.odata_http.specs.declared.work.Work.TheVariants.{Refuse, ListTables, Find, Read, Waits, Replied, Failed}
use Rattle.odata_http.specs.Exchange.{Answers, IsKeyLookup, IsQueryRun, IsWork, QueryTakes, most_calls}
use Rattle.odata_http.specs.Lazy.{GoesUnlaid}
use Rattle.odata_http.specs.Reply.{RespondsWithRows, ResponseOf, error_response, reply_of, service_response}
use Rattle.odata_http.specs.Work.{IsAskedFor, ReadsOn, StartsReading, StartsWork, WorksOn, response_view, step_of}

pub starts_refusal : (catalog : CatalogOf) (code : Code) → StartsWork catalog (refused code) (Refuse code)
starts_refusal catalog code = (1, refl, (refl, refl))

pub starts_listing : (catalog : CatalogOf) → StartsWork catalog service ListTables
starts_listing catalog = (1, refl, refl)

pub starts_finding : (catalog : CatalogOf) (asked : RowsRequestOf) (key_lookup : KeyLookup) → KeysStandAlone → IsAskedFor catalog (rows asked) → IsRowsInside catalog asked
    → key_lookup.table ≡ asked.table → key_lookup.format ≡ asked.format → asked.query.key ≡ Some (values_view key_lookup.key) → optional_numbers key_lookup.select ≡ asked.query.select
    → StartsWork catalog (rows asked) (Find key_lookup)
starts_finding catalog asked key_lookup alone head inside table format key select = (
  1,
  subst (λ (k : Option (List CellValue)). QueryTakes catalog asked k 1) (sym key) refl,
  (
    record {
      table = inside.table;
      table_is = inside.table_is;
      number_is = table;
      format_is = format;
      typed = inside.typed;
      key_is = key;
      unapplied = alone catalog head.0 head.1 asked (values_view key_lookup.key) head.2 key;
      select_is = select;
    },
    refl,
  ),
)

pub starts_run : (catalog : CatalogOf) (asked : RowsRequestOf) (query_run : QueryRun) → asked.query.key ≡ None → StartsReading catalog asked query_run
    → StartsWork catalog (rows asked) (Read query_run)
starts_run catalog asked query_run unkeyed starts = (starts.0, subst (λ (k : Option (List CellValue)). QueryTakes catalog asked k starts.0) (sym unkeyed) starts.1, starts.2)

pub works_refuse : (catalog : CatalogOf) (method : Option Method) (closing : Bool) (request : RequestOf) (left : ℕ) (work : Work) (code : Code) (response : ResponseOf) (bytes : List ℕ)
    → work ≡ Refuse code → response ≡ error_response code → bytes ≡ reply_of method response closing → IsWork catalog request left work
    → WorksOn catalog method closing request left (Waits bytes)
works_refuse catalog method closing request left work code response bytes at made reply is =
    of request (subst (IsWork catalog request left) at is)
  where
    of : (q : RequestOf) → IsWork catalog q left (Refuse code) → WorksOn catalog method closing q left (Waits bytes)
    of (refused other) h = (h.1, response, made ∙ ap error_response h.0, reply)
    of service h = absurd h
    of (rows asked) h = absurd h

pub works_list : (catalog : CatalogOf) (method : Option Method) (closing : Bool) (request : RequestOf) (left : ℕ) (work : Work) (response : ResponseOf) (bytes : List ℕ)
    → work ≡ ListTables → response ≡ service_response catalog → bytes ≡ reply_of method response closing → IsWork catalog request left work
    → WorksOn catalog method closing request left (Waits bytes)
works_list catalog method closing request left work response bytes at made reply is =
    of request (subst (IsWork catalog request left) at is)
  where
    of : (q : RequestOf) → IsWork catalog q left ListTables → WorksOn catalog method closing q left (Waits bytes)
    of (refused other) h = absurd h
    of service h = (h, response, made, reply)
    of (rows asked) h = absurd h

pub works_find : (catalog : CatalogOf) (method : Option Method) (closing : Bool) (request : RequestOf) (left : ℕ) (work : Work) (key_lookup : KeyLookup) (response : ResponseOf) (bytes : List ℕ)
    → work ≡ Find key_lookup → ((asked : RowsRequestOf) → IsKeyLookup catalog asked key_lookup → RespondsWithRows catalog asked response)
    → bytes ≡ reply_of method response closing → IsWork catalog request left work → WorksOn catalog method closing request left (Waits bytes)
works_find catalog method closing request left work key_lookup response bytes at responds reply is =
    of request (subst (IsWork catalog request left) at is)
  where
    of : (q : RequestOf) → IsWork catalog q left (Find key_lookup) → WorksOn catalog method closing q left (Waits bytes)
    of (refused other) h = absurd h
    of service h = absurd h
    of (rows asked) h = (h.1, response, responds asked h.0, reply)

pub works_over : (catalog : CatalogOf) (method : Option Method) (closing : Bool) (request : RequestOf) (left : ℕ) (work : Work) (query_run : QueryRun) (reached : Reached) (response : Response)
    (bytes : List ℕ) → work ≡ Read query_run → reached ≡ Over response → ((asked : RowsRequestOf) (n : ℕ) → IsQueryRun catalog asked n query_run → ReadsOn catalog asked n reached)
    → bytes ≡ reply_of method (response_view response) closing → IsWork catalog request left work → WorksOn catalog method closing request left (Waits bytes)
works_over catalog method closing request left work query_run reached response bytes at over reads reply is =
    of request (subst (IsWork catalog request left) at is)
  where
    of : (q : RequestOf) → IsWork catalog q left (Read query_run) → WorksOn catalog method closing q left (Waits bytes)
    of (refused other) h = absurd h
    of service h = absurd h
    of (rows asked) h =
        let r = subst (ReadsOn catalog asked left) over (reads asked left h) in
        (r.0, response_view response, r.1, reply)

abbrev with_work : Exchange → Work → Exchange
with_work exchange work = record exchange { work = work }

no_work_replied : (catalog : CatalogOf) (request : RequestOf) (left : ℕ) (bytes : Vec ℕ Global) → IsWork catalog request left (Replied bytes) → ⊥
no_work_replied catalog (refused code) left bytes h = h
no_work_replied catalog service left bytes h = h
no_work_replied catalog (rows asked) left bytes h = h

pub goes_on : (catalog : CatalogOf) (head : HeadOf) (left : ℕ) (old : Exchange) (work : Work) → (a : Answers catalog head left old)
    → WorksOn catalog old.method old.closes a.request left work → GoesUnlaid catalog head left (with_work old work) (Ok (step_of work))
goes_on catalog head left old (Waits bytes) a w = (
  w.0,
  bytes,
  record {
    request = a.request;
    asks = a.asks;
    response = w.1;
    responds = w.2;
    reply_is = w.3 ∙ ap₂ (λ (m : Option Method) (b : Bool). reply_of m w.1 b) a.method_is a.closes_is;
  },
  refl,
)
goes_on catalog head left old (Replied bytes) a w = absurd (no_work_replied catalog a.request (left - 1) bytes w.1)
goes_on catalog head left old (Read query_run) a w = (w.0, record { method_is = a.method_is; closes_is = a.closes_is; request = a.request; asks = a.asks; work = w.1 })
goes_on catalog head left old (Refuse code) a w = (w.0, record { method_is = a.method_is; closes_is = a.closes_is; request = a.request; asks = a.asks; work = w.1 })
goes_on catalog head left old (Find key_lookup) a w = (w.0, record { method_is = a.method_is; closes_is = a.closes_is; request = a.request; asks = a.asks; work = w.1 })
goes_on catalog head left old ListTables a w = (w.0, record { method_is = a.method_is; closes_is = a.closes_is; request = a.request; asks = a.asks; work = w.1 })
goes_on catalog head left old Failed a w = (w.0, record { method_is = a.method_is; closes_is = a.closes_is; request = a.request; asks = a.asks; work = w.1 })

-- the same of an exchange that was given the work
pub goes_to : (catalog : CatalogOf) (head : HeadOf) (left : ℕ) (old : Exchange) (work given : Work) (step : Step) → given ≡ work → step ≡ step_of work
    → (a : Answers catalog head left old) → WorksOn catalog old.method old.closes a.request left work → GoesUnlaid catalog head left (with_work old given) (Ok step)
goes_to catalog head left old work given step same told a w =
    let here = subst (λ (x : Work). GoesUnlaid catalog head left (with_work old x) (Ok (step_of work))) (sym same) (goes_on catalog head left old work a w) in
    subst (λ (s : Step). GoesUnlaid catalog head left (with_work old given) (Ok s)) (sym told) here

pub left_few : (catalog : CatalogOf) (request : RequestOf) (left : ℕ) (work : Work) → IsWork catalog request left work → (0 < left) × (left ≤ most_calls work)
left_few catalog (refused code) left (Refuse other) h = let one = h.1 in (omega (arith, one), omega (arith, one))
left_few catalog (refused code) left ListTables h = absurd h
left_few catalog (refused code) left (Find key_lookup) h = absurd h
left_few catalog (refused code) left (Read query_run) h = absurd h
left_few catalog (refused code) left (Replied bytes) h = absurd h
left_few catalog (refused code) left (Waits bytes) h = absurd h
left_few catalog (refused code) left Failed h = absurd h
left_few catalog service left (Refuse other) h = absurd h
left_few catalog service left ListTables h = (omega (arith, h), omega (arith, h))
left_few catalog service left (Find key_lookup) h = absurd h
left_few catalog service left (Read query_run) h = absurd h
left_few catalog service left (Replied bytes) h = absurd h
left_few catalog service left (Waits bytes) h = absurd h
left_few catalog service left Failed h = absurd h
left_few catalog (rows asked) left (Refuse other) h = absurd h
left_few catalog (rows asked) left ListTables h = absurd h
left_few catalog (rows asked) left (Find key_lookup) h = let one = h.1 in (omega (arith, one), omega (arith, one))
left_few catalog (rows asked) left (Read query_run) h =
    let all = h.left_are in
    let on = h.stands.goes_on in (omega (arith, all, on), h.few)
left_few catalog (rows asked) left (Replied bytes) h = absurd h
left_few catalog (rows asked) left (Waits bytes) h = absurd h
left_few catalog (rows asked) left Failed h = absurd h

-- an exchange stands for a head, and at most `most` calls are left
pub record IsUnderWay (catalog : CatalogOf) (head : HeadOf) (most : ℕ) (exchange : Exchange) : Type 0 where
  pub left : ℕ
  pub few : left ≤ most
  pub answers : Answers catalog head left exchange
