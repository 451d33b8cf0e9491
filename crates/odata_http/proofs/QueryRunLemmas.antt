-- The run of a query, call by call.
use Rattle.std.proofs.Common.{◌≡◌, ◌<◌, ◌≤◌, ◌+◌, ◌-◌, ℕ, Ok, Err, Bool, List, length, max, get_or, Option, Some, None, option_map, refl, sym, ap, ◌∙◌, subst, arith}
use Rattle.std.specs.Prelude.{slice_get}
use Rattle.std.proofs.Math.Nat.{max_comm}
use Rattle.std.proofs.lemmas.Option.{get_or_from_slice_get, slice_get_within}
use Rattle.block_summary.specs.Ranges.{RangeOf}
use Rattle.cell_types.specs.Value.{CellValue}
use Rattle.csvw_meta.specs.Schema.{SchemaOf}
use Rattle.table_store.specs.Block.{block_count}
use Rattle.table_store.specs.Summaries.{AreSummariesOf}
use Rattle.table_store.specs.Catalog.{CatalogOf}
use Rattle.table_store.specs.Fits.{HasTableRows}
use Rattle.table_store.specs.Table.{TableOf}
use Rattle.odata_parse.specs.declared.format.Format.{Format}
use Rattle.odata_parse.specs.declared.format.Format.TheVariants.{Json, Csv}
use Rattle.odata_query.specs.Query.{TypedOf}
use Rattle.query_plan.specs.Laws.{NeededBlocksAreRead, PlansNeedBlocks}
use Rattle.query_plan.specs.Needed.{needed_blocks}
use Rattle.query_plan.specs.Plan.{MeansQuery, PlanOf, answer_of, naive_plan, needed}
use Rattle.query_plan.specs.Push.{rewritten}
use Rattle.query_plan.specs.Rewrite.{MeansTheSame}
use Rattle.query_exec.specs.declared.fault.ExecFault.{ExecFault}
use Rattle.query_exec.specs.declared.fault.ExecFault.TheVariants.{DivisionByZero}
use Rattle.query_exec.specs.declared.run.Run.{Run}
use Rattle.query_exec.specs.declared.run.Step.{Step}
use Rattle.query_exec.specs.declared.run.Step.TheVariants.{More, Done}
use Rattle.query_exec.specs.Answer.{plan_answer, unordered_answer}
use Rattle.result_rows.specs.Rows.{AreReordered, BeginWith, RowsOf}
use Rattle.reply_text.specs.declared.row_sizes.RowSizes.{RowSizes}
use Rattle.reply_text.specs.RowSizes.{AreCsvSizes, AreJsonSizes}
use Rattle.query_exec.specs.Run.{AdvancesTo, HasAnswered, LendsFor, RunGives, MayBeHanded, StandsFor, awaited, handed_block, next_block, run_length}
use Rattle.odata_request.specs.Request.{RowsRequestOf}
use Rattle.odata_http.specs.declared.query_run.QueryRun.{QueryRun}
use Rattle.odata_http.specs.Exchange.{IsQueryRun, query_length}
use Rattle.odata_http.specs.Work.{MayRead, NeedsBlocksOf, StartsReading}
use Rattle.odata_http.specs.Reply.{HaveFirstSizes, HaveSizesIn, ResponseOf, RespondsWithRows, rows_response}
use Rattle.odata_http.proofs.LengthLemmas.{max_below}

-- ---- tables and blocks

pub table_is : (tables seen : List TableOf) (number : ℕ) (found table : TableOf) → seen ≡ tables → found ≡ get_or seen number found → slice_get tables number ≡ Some table → found ≡ table
table_is tables seen number found table same at is = at ∙ ap (λ (ts : List TableOf). get_or ts number found) same ∙ get_or_from_slice_get tables number table found is

pub block_inside : PlansNeedBlocks → (plan : PlanOf) (table : TableOf) (handed number : ℕ) → Some number ≡ next_block plan table handed
    → number < block_count (length table.rows)
block_inside law plan table handed number e =
    let blocks = needed plan table.rows in
    subst (λ n. n < block_count (length table.rows)) (get_or_from_slice_get blocks handed number number (sym e))
    (law.each plan table.rows handed number (slice_get_within blocks handed number (sym e)))

-- ---- what a run is handed

-- the block that is there is the one that the run is to be handed
pub block_is : (catalog : CatalogOf) (seen : List TableOf) (query_run : QueryRun) (found : TableOf) (block : Option TableOf) (asked : RowsRequestOf) (left : ℕ)
    → (is : IsQueryRun catalog asked left query_run) → seen ≡ catalog.tables → found ≡ get_or seen query_run.table found
    → ((plan : PlanOf) (handed : ℕ) → StandsFor query_run.run.value plan found handed → block ≡ handed_block plan found handed) → block ≡ handed_block is.plan is.table is.handed
block_is catalog seen query_run found block asked left is same at given =
    let here = table_is catalog.tables seen query_run.table found is.table same at (subst (λ (n : ℕ). slice_get catalog.tables n ≡ Some is.table) (sym is.number_is) is.table_is) in
    let stands = subst (λ (t : TableOf). StandsFor query_run.run.value is.plan t is.handed) (sym here) is.stands in
    subst (λ (t : TableOf). block ≡ handed_block is.plan t is.handed) here (given is.plan is.handed stands)

-- ---- a run in a box, as it is lent

pub lent_needs : (run lent : Run) (table : TableOf) → lent ≡ run → NeedsBlocksOf run table → NeedsBlocksOf lent table
lent_needs run lent table e h = subst (λ (r : Run). NeedsBlocksOf r table) (sym e) h

pub lent_handed : (run lent : Run) (block : Option TableOf) → lent ≡ run → MayBeHanded run block → MayBeHanded lent block
lent_handed run lent block e h = subst (λ (r : Run). MayBeHanded r block) (sym e) h

pub lent_stands : (run lent : Run) (plan : PlanOf) (table : TableOf) (handed : ℕ) → lent ≡ run → StandsFor run plan table handed → StandsFor lent plan table handed
lent_stands run lent plan table handed e h = subst (λ (r : Run). StandsFor r plan table handed) (sym e) h

abbrev pub TellsNext : Run → TableOf → Option TableOf → Type 0
TellsNext run table block = (plan : PlanOf) (handed : ℕ) → StandsFor run plan table handed → block ≡ handed_block plan table handed

pub lent_tells : (run lent : Run) (table : TableOf) (block : Option TableOf) → lent ≡ run → TellsNext lent table block → TellsNext run table block
lent_tells run lent table block e h = subst (λ (r : Run). TellsNext r table block) e h

pub lent_gives : (run lent : Run) (rows : RowsOf) → lent ≡ run → RunGives run rows → RunGives lent rows
lent_gives run lent rows e h = subst (λ (r : Run). RunGives r rows) (sym e) h

pub lent_lends : (run lent : Run) (plan : PlanOf) (table : TableOf) → lent ≡ run → LendsFor run plan table → LendsFor lent plan table
lent_lends run lent plan table e h = subst (λ (r : Run). LendsFor r plan table) (sym e) h

pub needs_blocks : (catalog : CatalogOf) (seen : List TableOf) (query_run : QueryRun) (found : TableOf) → MayRead catalog query_run → seen ≡ catalog.tables
    → found ≡ get_or seen query_run.table found → NeedsBlocksOf query_run.run.value found
needs_blocks catalog seen query_run found may same at =
    let is = may.2 in
    let here : found ≡ is.table = table_is catalog.tables seen query_run.table found is.table same at (subst (λ (n : ℕ). slice_get catalog.tables n ≡ Some is.table) (sym is.number_is) is.table_is) in
    (is.plan, is.handed, subst (λ (t : TableOf). StandsFor query_run.run.value is.plan t is.handed) (sym here) is.stands)

pub may_be_handed : (catalog : CatalogOf) (seen : List TableOf) (query_run : QueryRun) (found : TableOf) (block : Option TableOf) → MayRead catalog query_run
    → seen ≡ catalog.tables → found ≡ get_or seen query_run.table found
    → ((plan : PlanOf) (handed : ℕ) → StandsFor query_run.run.value plan found handed → block ≡ handed_block plan found handed) → MayBeHanded query_run.run.value block
may_be_handed catalog seen query_run found block may same at given =
    let is = may.2 in
    awaited (is.plan, is.table, is.handed, is.stands, block_is catalog seen query_run found block may.0 may.1 is same at given)

-- ---- sizes of first rows

pub none_counted : (format : Format) (sizes : RowSizes) → ((rows : RowsOf) → AreJsonSizes sizes 0 rows) → ((rows : RowsOf) → AreCsvSizes sizes 0 rows)
    → (rows : RowsOf) → HaveFirstSizes format sizes rows
none_counted Json sizes json csv rows = (0, json rows)
none_counted Csv sizes json csv rows = (0, csv rows)

-- more of the first rows, in either format
pub counted_json : (format : Format) (old new : RowSizes) (rows : RowsOf) (names : List (List ℕ)) (first : List (List CellValue)) → format ≡ Json → BeginWith rows names first
    → ((all : RowsOf) (count : ℕ) → BeginWith all names first → AreJsonSizes old count all → AreJsonSizes new (max count (length first)) all)
    → HaveFirstSizes format old rows → HaveFirstSizes format new rows
counted_json Json old new rows names first is begin counts has = (max has.0 (length first), counts rows has.0 begin has.1)
counted_json Csv old new rows names first is begin counts has = absurd (cc)

pub counted_csv : (format : Format) (old new : RowSizes) (rows : RowsOf) (names : List (List ℕ)) (first : List (List CellValue)) → format ≡ Csv → BeginWith rows names first
    → ((all : RowsOf) (under : List (List ℕ)) (count : ℕ) → BeginWith all under first → AreCsvSizes old count all → AreCsvSizes new (max count (length first)) all)
    → HaveFirstSizes format old rows → HaveFirstSizes format new rows
counted_csv Json old new rows names first is begin counts has = absurd (cc)
counted_csv Csv old new rows names first is begin counts has = (max has.0 (length first), counts rows names has.0 begin has.1)

-- sizes of rows as they come are those of rows in order
pub reordered_sizes : (format : Format) (sizes : RowSizes) (before rows : RowsOf) → AreReordered before rows → HaveFirstSizes format sizes before → HaveSizesIn format sizes rows
reordered_sizes Json sizes before rows moved has = (has.0, before, moved, has.1.0, has.1.1)
reordered_sizes Csv sizes before rows moved has = (has.0, before, moved, has.1.0, has.1.1)

-- ---- a run that begins

-- the plan needs the blocks that the query needs
pub blocks_are : NeededBlocksAreRead → (plan first : PlanOf) (query : TypedOf) (table : TableOf) → plan ≡ rewritten first → first ≡ naive_plan query → HasTableRows table
    → needed plan table.rows ≡ needed_blocks query table.rows
blocks_are law plan first query table is naive fit =
    let few = fit.count in
    ap (λ (p : PlanOf). needed p table.rows) (is ∙ ap rewritten naive) ∙ law query table.rows (omega (arith, few))

pub starts : (catalog : CatalogOf) (seen : List TableOf) (asked : RowsRequestOf) (number : ℕ) (found table : TableOf) (schema : SchemaOf) (query_run : QueryRun) (plan : PlanOf)
    (summaries : List (List RangeOf)) → slice_get catalog.tables number ≡ Some table → number ≡ asked.table → seen ≡ catalog.tables → found ≡ get_or seen number found
    → schema ≡ found.schema → HasTableRows found → AreSummariesOf found summaries → asked.query.key ≡ None → (first : PlanOf) → MeansQuery first asked.query → MeansTheSame table.schema first plan
    → query_run.table ≡ number → query_run.format ≡ asked.format → query_run.counting ≡ asked.query.counting → query_run.most ≡ max (length summaries) 1
    → ((rows : RowsOf) → HaveFirstSizes query_run.format query_run.sizes rows)
    → ((t : TableOf) → t.schema ≡ schema → HasTableRows t → AreSummariesOf t summaries → StandsFor query_run.run.value plan t 0)
    → PlansNeedBlocks → needed plan table.rows ≡ needed_blocks asked.query table.rows → StartsReading catalog asked query_run
starts catalog seen asked number found table schema query_run plan summaries is number_is same at of fit those unkeyed first means alike table_of format counting most sizes stands law blocks =
    let here = table_is catalog.tables seen number found table same at is in
    let asked_is = subst (λ (n : ℕ). slice_get catalog.tables n ≡ Some table) number_is is in
    let known : AreSummariesOf table summaries = subst (λ (t : TableOf). AreSummariesOf t summaries) here those in
    let stood = stands table (ap (λ (t : TableOf). t.schema) (sym here) ∙ sym of) (subst HasTableRows here fit) known in
    let calls : run_length plan table ≡ query_length asked.query table = ap (λ (ns : List ℕ). max 1 (length ns)) blocks in
    let few = law.few plan table.rows in
    let bound : query_run.most ≡ max 1 (block_count (length table.rows)) = most ∙ max_turned (length summaries) ∙ ap (max 1) known.count in
    let within : max 1 (length (needed plan table.rows)) ≤ max 1 (block_count (length table.rows)) = max_below (length (needed plan table.rows)) (block_count (length table.rows)) few in (
      query_length asked.query table,
      record { table = table; table_is = asked_is; calls_are = refl },
      record {
        unkeyed = unkeyed;
        table = table;
        table_is = asked_is;
        number_is = table_of ∙ number_is;
        format_is = format;
        counting_is = counting;
        plan = plan;
        means = ap (option_map (answer_of asked.query.counting)) (alike table.rows stood.read.are_rows) ∙ means table.schema table.rows;
        handed = 0;
        stands = stood;
        left_are = omega (arith, calls);
        few = omega (arith, calls, bound, within);
        counted = λ rows is. sizes rows;
      },
    )
  where
    max_turned : (n : ℕ) → max n 1 ≡ max 1 n
    max_turned n = max_comm n 1

-- ---- what an advance answers

pub advanced_more : (plan : PlanOf) (table : TableOf) (handed : ℕ) (run : Run) (step : Step) → step ≡ More → AdvancesTo plan table handed run (Ok step)
    → (handed + 1 < run_length plan table) × StandsFor run plan table (handed + 1)
advanced_more plan table handed run step e h = subst (λ (s : Step). AdvancesTo plan table handed run (Ok s)) e h

pub advanced_done : (plan : PlanOf) (table : TableOf) (handed : ℕ) (run : Run) (step : Step) → step ≡ Done → AdvancesTo plan table handed run (Ok step)
    → (rows : RowsOf) × (handed + 1 ≡ run_length plan table) × (plan_answer plan table ≡ Some rows) × RunGives run rows × HasAnswered run plan table
advanced_done plan table handed run step e h = subst (λ (s : Step). AdvancesTo plan table handed run (Ok s)) e h

pub advanced_fault : (plan : PlanOf) (table : TableOf) (handed : ℕ) (run : Run) (fault : ExecFault) → fault ≡ DivisionByZero → AdvancesTo plan table handed run (Err fault)
    → (handed + 1 ≡ run_length plan table) × (plan_answer plan table ≡ None)
advanced_fault plan table handed run fault e h = subst (λ (f : ExecFault). AdvancesTo plan table handed run (Err f)) e h

-- ---- calls

-- one call more
pub reads_more : (catalog : CatalogOf) (asked : RowsRequestOf) (left : ℕ) (old new : QueryRun) → (is : IsQueryRun catalog asked left old)
    → new.table ≡ old.table → new.format ≡ old.format → new.counting ≡ old.counting → new.most ≡ old.most → is.handed + 1 < run_length is.plan is.table
    → StandsFor new.run.value is.plan is.table (is.handed + 1)
    → ((rows : RowsOf) → unordered_answer is.plan is.table ≡ Some rows → HaveFirstSizes old.format old.sizes rows → HaveFirstSizes old.format new.sizes rows)
    → (1 < left) × IsQueryRun catalog asked (left - 1) new
reads_more catalog asked left old new is number format counting most goes_on stands counts =
    let all = is.left_are in
    let few = is.few in
    let more : 1 < left = omega (arith, all, goes_on) in (
      more,
      record {
        unkeyed = is.unkeyed;
        table = is.table;
        table_is = is.table_is;
        number_is = number ∙ is.number_is;
        format_is = format ∙ is.format_is;
        counting_is = counting ∙ is.counting_is;
        plan = is.plan;
        means = is.means;
        handed = is.handed + 1;
        stands = stands;
        left_are = omega (arith, all, more);
        few = omega (arith, few, most, more);
        counted = λ rows answers. subst (λ (f : Format). HaveFirstSizes f new.sizes rows) (sym format) (counts rows answers (is.counted rows answers));
      },
    )

-- the last call: what the plan gives is what the query means
pub reads_last : (catalog : CatalogOf) (asked : RowsRequestOf) (left : ℕ) (old : QueryRun) (response : ResponseOf) (answer : Option RowsOf) → (is : IsQueryRun catalog asked left old)
    → is.handed + 1 ≡ run_length is.plan is.table → plan_answer is.plan is.table ≡ answer → response ≡ rows_response old.format (option_map (answer_of old.counting) answer)
    → (left ≡ 1) × RespondsWithRows catalog asked response
reads_last catalog asked left old response answer is last answers made =
    let all = is.left_are in
    let meaning = ap (λ (c : Bool). option_map (answer_of c) answer) is.counting_is ∙ ap (option_map (answer_of asked.query.counting)) (sym answers) ∙ is.means in (
      omega (arith, all, last),
      record {
        table = is.table;
        table_is = is.table_is;
        response_is =
            made
            ∙ ap (λ (f : Format). rows_response f (option_map (answer_of old.counting) answer)) is.format_is
            ∙ ap (rows_response asked.format) meaning;
      },
    )
