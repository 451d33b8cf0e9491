-- What one call makes of the work for a request.
use Rattle.std.specs.Prelude.{◌≡◌, ◌<◌, ◌-◌, ⊤, ℕ, Bool, List, Option, Some}
use Rattle.http.specs.StatusCode.{IsStatusCode}
use Rattle.table_store.specs.Catalog.{CatalogOf}
use Rattle.table_store.specs.Table.{TableOf}
use Rattle.query_plan.specs.Plan.{PlanOf}
use Rattle.query_exec.specs.declared.run.Run.{Run}
use Rattle.query_exec.specs.declared.run.Step.{Step}
use Rattle.query_exec.specs.declared.run.Step.TheVariants.{More, Done}
use Rattle.query_exec.specs.Answer.{unordered_answer}
use Rattle.query_exec.specs.Run.{LendsFor, StandsFor}
use Rattle.result_rows.specs.Rows.{RowsOf}
use Rattle.odata_parse.specs.declared.format.Format.{Format}
use Rattle.reply_text.specs.declared.row_sizes.RowSizes.{RowSizes}
use Rattle.http_heads.specs.declared.checks.HeadFault.{HeadFault}
use Rattle.http_heads.specs.declared.method.Method.{Method}
use Rattle.odata_request.specs.Request.{AsksFor, RequestOf, RowsRequestOf}
use Rattle.odata_http.specs.declared.response.Response.{Response}
use Rattle.odata_http.specs.declared.key_lookup.KeyLookup.{KeyLookup}
use Rattle.odata_http.specs.declared.query_run.QueryRun.{QueryRun}
use Rattle.odata_http.specs.declared.query_run.Reached.{Reached}
use Rattle.odata_http.specs.declared.query_run.Reached.TheVariants.{On, Over}
use Rattle.odata_http.specs.declared.work.Work.{Work}
use Rattle.odata_http.specs.declared.work.Work.TheVariants.{Find, Read, Replied, Waits}
use Rattle.odata_http.specs.Exchange.{IsKeyLookup, IsQueryRun, IsWork, RequestTakes, TakesRunCalls}
use Rattle.odata_http.specs.Reply.{HaveFirstSizes, ResponseOf, RespondsWith, RespondsWithRows, reply_of}

abbrev pub response_view : Response → ResponseOf
response_view response = record { status = response.status; media = response.media; body = response.body.bytes }

-- some head asks for it
abbrev pub IsAskedFor : CatalogOf → RequestOf → Type 0
IsAskedFor catalog request = (fault : Option HeadFault) × (target : List ℕ) × AsksFor catalog fault target request

-- the run stands for some plan on the table
abbrev pub NeedsBlocksOf : Run → TableOf → Type 0
NeedsBlocksOf run table = (plan : PlanOf) × (handed : ℕ) × StandsFor run plan table handed

-- the run lends rows of some plan on some table
abbrev pub LendsSome : Run → Type 0
LendsSome run = (plan : PlanOf) × (table : TableOf) × LendsFor run plan table

-- the sizes of some first rows of whatever the run is to answer, before an order at its end, in that format, and then of more or as many
abbrev pub CountsOn : Run → Format → RowSizes → RowSizes → Type 0
CountsOn run format old new = (plan : PlanOf) (table : TableOf) (rows : RowsOf) → LendsFor run plan table → unordered_answer plan table ≡ Some rows
    → HaveFirstSizes format old rows → HaveFirstSizes format new rows

-- some key is to be found in these tables
abbrev pub MayFind : CatalogOf → KeyLookup → Type 0
MayFind catalog key_lookup = (asked : RowsRequestOf) × IsKeyLookup catalog asked key_lookup

-- some query is under way on these tables
abbrev pub MayRead : CatalogOf → QueryRun → Type 0
MayRead catalog query_run = (asked : RowsRequestOf) × (left : ℕ) × IsQueryRun catalog asked left query_run

-- a block was read, or it was the last call, and the answer is there
abbrev pub ReadsOn : CatalogOf → RowsRequestOf → ℕ → Reached → Type 0
ReadsOn catalog asked left (On query_run) = (1 < left) × IsQueryRun catalog asked (left - 1) query_run
ReadsOn catalog asked left (Over response) = (left ≡ 1) × RespondsWithRows catalog asked (response_view response)

-- the status is one of HTTP
abbrev pub IsHttpStatus : Reached → Type 0
IsHttpStatus (On query_run) = ⊤
IsHttpStatus (Over response) = IsStatusCode response.status

-- all calls are left
abbrev pub StartsReading : CatalogOf → RowsRequestOf → QueryRun → Type 0
StartsReading catalog asked query_run = (calls : ℕ) × TakesRunCalls catalog asked calls × IsQueryRun catalog asked calls query_run

abbrev pub StartsWork : CatalogOf → RequestOf → Work → Type 0
StartsWork catalog request work = (calls : ℕ) × RequestTakes catalog request calls × IsWork catalog request calls work

abbrev pub MayWork : CatalogOf → Work → Type 0
MayWork catalog (Find key_lookup) = MayFind catalog key_lookup
MayWork catalog (Read query_run) = MayRead catalog query_run
MayWork catalog work = ⊤

-- the work goes on, or it was the last call, and the reply waits
abbrev pub WorksOn : CatalogOf → Option Method → Bool → RequestOf → ℕ → Work → Type 0
WorksOn catalog method closing request left (Waits bytes) =
    (left ≡ 1) × (response : ResponseOf) × RespondsWith catalog request response × (bytes ≡ reply_of method response closing)
WorksOn catalog method closing request left work = (1 < left) × IsWork catalog request (left - 1) work

-- what a call answers that leaves this work
abbrev pub step_of : Work → Step
step_of (Waits bytes) = Done
step_of (Replied bytes) = Done
step_of work = More
