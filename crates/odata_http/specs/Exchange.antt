-- What an exchange stands for, and what its calls make of that.
use Rattle.std.specs.Prelude.{◌≡◌, ◌<◌, ◌≤◌, ◌+◌, ◌-◌, ⊤, ℕ, List, [], Option, Some, None, Result, Ok, Err, length, max, option_map, slice_get}
use Rattle.std.specs.declared.alloc.AllocError.{AllocError}
use Rattle.cell_types.specs.Value.{CellValue}
use Rattle.odata_query.specs.Query.{TypedOf, optional_numbers, values_view}
use Rattle.table_store.specs.Catalog.{CatalogOf}
use Rattle.table_store.specs.Table.{TableOf}
use Rattle.query_meaning.specs.Fitting.{IsTypedFor}
use Rattle.query_meaning.specs.Meaning.{query_meaning}
use Rattle.query_plan.specs.Plan.{PlanOf, answer_of}
use Rattle.query_exec.specs.declared.run.Step.{Step}
use Rattle.query_exec.specs.declared.run.Step.TheVariants.{More, Done}
use Rattle.query_exec.specs.Answer.{plan_answer, unordered_answer}
use Rattle.query_plan.specs.Needed.{needed_blocks}
use Rattle.query_exec.specs.Run.{StandsFor, run_length}
use Rattle.result_rows.specs.Rows.{RowsOf}
use Rattle.http_heads.specs.Head.{HeadOf}
use Rattle.http_heads.specs.Checks.{head_fault, closes}
use Rattle.http_heads.specs.Method.{method_of}
use Rattle.odata_request.specs.Request.{AsksFor, RequestOf, RowsRequestOf, refused, rows, service}
use Rattle.odata_http.specs.declared.key_lookup.KeyLookup.{KeyLookup}
use Rattle.odata_http.specs.declared.query_run.QueryRun.{QueryRun}
use Rattle.odata_http.specs.declared.work.Work.{Work}
use Rattle.odata_http.specs.declared.work.Work.TheVariants.{Refuse, ListTables, Find, Read, Replied, Failed}
use Rattle.odata_http.specs.declared.exchange.Exchange.{Exchange}
use Rattle.odata_http.specs.Reply.{HaveFirstSizes, IsReply}

-- how many calls a query takes on its table: one for each block that it needs, and one where it needs none
abbrev pub query_length : TypedOf → TableOf → ℕ
query_length query table = max 1 (length (needed_blocks query table.rows))

-- its run takes `calls` calls
pub record TakesRunCalls (catalog : CatalogOf) (asked : RowsRequestOf) (calls : ℕ) : Type 0 where
  pub table : TableOf
  pub table_is : slice_get catalog.tables asked.table ≡ Some table
  pub calls_are : calls ≡ query_length asked.query table

-- how many calls a query takes: with a key there is no run
abbrev pub QueryTakes : CatalogOf → RowsRequestOf → Option (List CellValue) → ℕ → Type 0
QueryTakes catalog asked None calls = TakesRunCalls catalog asked calls
QueryTakes catalog asked (Some key) calls = calls ≡ 1

-- how many calls the reply to a request takes: one, where there is no run
abbrev pub RequestTakes : CatalogOf → RequestOf → ℕ → Type 0
RequestTakes catalog (refused code) calls = calls ≡ 1
RequestTakes catalog service calls = calls ≡ 1
RequestTakes catalog (rows asked) calls = QueryTakes catalog asked asked.query.key calls

-- and that to a head
pub record HeadTakes (catalog : CatalogOf) (head : HeadOf) (calls : ℕ) : Type 0 where
  pub request : RequestOf
  pub asks : AsksFor catalog (head_fault head) head.target request
  pub takes : RequestTakes catalog request calls

-- on a table the plan answers what the query means
abbrev pub MeansOn : TableOf → PlanOf → TypedOf → Type 0
MeansOn table plan query = option_map (answer_of query.counting) (plan_answer plan table) ≡ query_meaning table.schema query table.rows

-- a run on its table of a plan that means a query without a key, `left` calls before its end, and the sizes of some first rows of its answer before an order at its end
pub record IsQueryRun (catalog : CatalogOf) (asked : RowsRequestOf) (left : ℕ) (query_run : QueryRun) : Type 0 where
  pub unkeyed : asked.query.key ≡ None
  pub table : TableOf
  pub table_is : slice_get catalog.tables asked.table ≡ Some table
  pub number_is : query_run.table ≡ asked.table
  pub format_is : query_run.format ≡ asked.format
  pub counting_is : query_run.counting ≡ asked.query.counting
  pub plan : PlanOf
  pub means : MeansOn table plan asked.query
  pub handed : ℕ
  pub stands : StandsFor query_run.run.value plan table handed
  pub left_are : left + handed ≡ run_length plan table
  pub few : left ≤ query_run.most
  pub counted : (rows : RowsOf) → unordered_answer plan table ≡ Some rows → HaveFirstSizes query_run.format query_run.sizes rows

-- the key of a query that fits its table, to be found there
pub record IsKeyLookup (catalog : CatalogOf) (asked : RowsRequestOf) (key_lookup : KeyLookup) : Type 0 where
  pub table : TableOf
  pub table_is : slice_get catalog.tables asked.table ≡ Some table
  pub number_is : key_lookup.table ≡ asked.table
  pub format_is : key_lookup.format ≡ asked.format
  pub typed : IsTypedFor table.schema asked.query
  pub key_is : asked.query.key ≡ Some (values_view key_lookup.key)
  pub unapplied : asked.query.apply ≡ []
  pub select_is : optional_numbers key_lookup.select ≡ asked.query.select

-- what is left to be done for a request, `left` calls before its end
abbrev pub IsWork : CatalogOf → RequestOf → ℕ → Work → Type 0
IsWork catalog (refused code) left (Refuse other) = (other ≡ code) × (left ≡ 1)
IsWork catalog service left ListTables = left ≡ 1
IsWork catalog (rows asked) left (Find key_lookup) = IsKeyLookup catalog asked key_lookup × (left ≡ 1)
IsWork catalog (rows asked) left (Read query_run) = IsQueryRun catalog asked left query_run
IsWork catalog request left work = ⊥

-- at most this many calls are left of the work
abbrev pub most_calls : Work → ℕ
most_calls (Read query_run) = query_run.most
most_calls work = 1

-- The exchange stands for a head under a catalog, `left` calls before its reply.
pub record Answers (catalog : CatalogOf) (head : HeadOf) (left : ℕ) (exchange : Exchange) : Type 0 where
  pub method_is : exchange.method ≡ method_of head.method
  pub closes_is : exchange.closes ≡ closes head
  pub request : RequestOf
  pub asks : AsksFor catalog (head_fault head) head.target request
  pub work : IsWork catalog request left exchange.work

-- the work is done, and this is the reply
abbrev pub IsReplied : Work → List ℕ → Type 0
IsReplied (Replied bytes) reply = bytes.items ≡ reply
IsReplied work reply = ⊥

-- the exchange is done, and gives this reply
abbrev pub GivesReply : Exchange → List ℕ → Type 0
GivesReply exchange reply = IsReplied exchange.work reply

abbrev pub IsDone : Exchange → Type 0
IsDone exchange = (reply : List ℕ) × GivesReply exchange reply

-- memory ran out
abbrev pub HasFailed : Exchange → Type 0
HasFailed exchange = exchange.work ≡ Failed

-- Under which catalog an exchange may go on: before it is over, under one for which it stands for a head.
pub data MayGoOn (catalog : CatalogOf) (exchange : Exchange) : Type 0 where
  done : IsDone exchange → MayGoOn catalog exchange
  failed : HasFailed exchange → MayGoOn catalog exchange
  answers : (head : HeadOf) (left : ℕ) → Answers catalog head left exchange → MayGoOn catalog exchange

-- What a call makes of an exchange that was `left` calls before its reply: Done with the reply to its head at the last of them, and More
-- before it.
abbrev pub GoesOn : CatalogOf → HeadOf → ℕ → Exchange → Result Step AllocError → Type 0
GoesOn catalog head left exchange (Ok More) = (1 < left) × Answers catalog head (left - 1) exchange
GoesOn catalog head left exchange (Ok Done) = (left ≡ 1) × (reply : List ℕ) × IsReply catalog head reply × GivesReply exchange reply
GoesOn catalog head left exchange (Err fault) = ⊤

-- an exchange that begins: all its calls are left
pub record Begins (catalog : CatalogOf) (head : HeadOf) (exchange : Exchange) : Type 0 where
  pub calls : ℕ
  pub takes : HeadTakes catalog head calls
  pub answers : Answers catalog head calls exchange
