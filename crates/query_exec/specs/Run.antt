-- What a run stands for, and what its calls make of that.
use Rattle.std.specs.Prelude.{◌≡◌, ◌<◌, ◌+◌, ◌++◌, ◌^◌, ⊤, ℕ, true, IfSome, Option, Some, None, Result, Ok, Err, List, [], count_by, drop, is_none, is_some, length, map, max, option_and_then, option_map, slice_get, string_bytes, take}
use Rattle.std.specs.List.{All}
use Rattle.cell_types.specs.Value.{CellValue}
use Rattle.typed_trees.specs.TypedTree.{TruthExprOf, boxed_truth}
use Rattle.table_store.specs.Block.{block_of}
use Rattle.table_store.specs.Table.{TableOf}
use Rattle.query_plan.specs.Fitting.{IsFitFor, NodesFit}
use Rattle.query_meaning.specs.Fitting.{AreTableRows}
use Rattle.query_meaning.specs.Filter.{passes_each}
use Rattle.query_plan.specs.Plan.{NodeOf, PlanOf, leading, needed, node_view, nodes_result, select_nodes}
use Rattle.query_plan.specs.Scan.{rows_of_blocks, up_to}
use Rattle.sort_rows.specs.Cutoffs.{HasCalendarDays}
use Rattle.block_filter.specs.Conditions.{passing_all, rows_joined, ConditionsFit}
use Rattle.query_exec.specs.declared.fault.ExecFault.{ExecFault}
use Rattle.query_exec.specs.declared.fault.ExecFault.TheVariants.{DivisionByZero, NoMemory, Failed}
use Rattle.query_exec.specs.declared.front.FirstRows.{FirstRows}
use Rattle.query_exec.specs.declared.run.Run.{Run}
use Rattle.query_exec.specs.declared.run.Stage.TheVariants.{Reading, Ended, Refused}
use Rattle.query_exec.specs.declared.run.Step.{Step}
use Rattle.query_exec.specs.declared.run.Step.TheVariants.{More, Done}
use Rattle.result_rows.specs.Rows.{BeginWith, OrderedOf, RowsOf}
use Rattle.query_exec.specs.Answer.{before_order, plan_answer, unordered_answer}
use Rattle.query_exec.specs.Conditions.{condition_nodes}
use Rattle.query_exec.specs.Steps.{without_count}
use Rattle.result_rows.specs.Kept.{kept_names, kept_places, AreKeptOf, HasSameColumns}
use Rattle.result_rows.specs.Selected.{selected_rows}
use Rattle.query_exec.specs.Sink.{room_behind, sink_kept, sink_nodes, HasPushed}

-- the number of the block that is needed after those that were handed in, where there is one
abbrev pub next_block : PlanOf → TableOf → ℕ → Option ℕ
next_block plan table handed = slice_get (needed plan table.rows) handed

-- and that block
abbrev pub handed_block : PlanOf → TableOf → ℕ → Option TableOf
handed_block plan table handed = option_map (block_of table) (next_block plan table handed)

-- how many calls a run takes: one for each block that is needed, and one where none is
abbrev pub run_length : PlanOf → TableOf → ℕ
run_length plan table = max 1 (length (needed plan table.rows))

-- the rows of the first `handed` blocks that are needed
abbrev pub handed_rows : PlanOf → TableOf → ℕ → List (List CellValue)
handed_rows plan table handed = rows_of_blocks table.rows (take handed (needed plan table.rows))

-- the conditions that the plan begins with, the columns that are picked then, if so, and the steps after them, of which the sink does the first
abbrev pub conditions_of : Run → List TruthExprOf
conditions_of run = map boxed_truth run.conditions.items

abbrev pub places_of : Run → Option (List ℕ)
places_of run = kept_places (sink_kept run.sink)

abbrev pub steps_of : Run → List NodeOf
steps_of run = sink_nodes run.sink ++ map node_view run.steps.items

-- what passes of rows, in the columns that are picked; None, where a condition divides by zero
abbrev pub passed_rows : Run → List (List CellValue) → Option (List (List CellValue))
passed_rows run rows = option_map (selected_rows (places_of run)) (passing_all (conditions_of run) rows)

-- these rows went to the sink, unless a condition divided by zero
pub record HasPassed (run : Run) (passed : Option (List (List CellValue))) : Type 0 where
  pub faulted : run.faulted ≡ is_none passed
  pub pushed : IfSome passed (HasPushed run.sink)

-- The run was handed the first `handed` of the blocks that the plan needs of the table: what passes of their rows went to the sink; and up to its stop it is
-- left with the other blocks that are needed.
pub record HasTakenBlocks (run : Run) (plan : PlanOf) (table : TableOf) (handed : ℕ) : Type 0 where
  pub plan_is : condition_nodes (conditions_of run) ++ select_nodes (places_of run) ++ steps_of run ≡ plan.nodes
  pub conditions_are : leading plan.nodes ≡ conditions_of run
  pub fits : IsFitFor table.schema plan
  pub are_rows : AreTableRows table.schema table.rows
  pub reads : run.stage ≡ Reading
  pub left_are : up_to run.room (conditions_of run) table.rows run.left.items ≡ drop handed (needed plan table.rows)
  pub columns : AreKeptOf (sink_kept run.sink) table.schema
  pub passed : HasPassed run (passed_rows run (handed_rows plan table handed))

-- so it stands for the plan on the table, while a call is left
pub record StandsFor (run : Run) (plan : PlanOf) (table : TableOf) (handed : ℕ) : Type 0 where
  pub read : HasTakenBlocks run plan table handed
  pub goes_on : handed < run_length plan table

-- rows in their order, none of which was taken
pub record AreUntaken (rows : RowsOf) (given : OrderedOf) : Type 0 where
  pub rows_are : given.rows ≡ rows
  pub untaken : given.taken ≡ 0

-- the run is done, and gives this
pub record RunGives (run : Run) (rows : RowsOf) : Type 0 where
  pub given : OrderedOf
  pub ended : run.stage ≡ Ended given
  pub rows_are : AreUntaken rows given

-- the run answered Done
abbrev pub RunIsDone : Run → Type 0
RunIsDone run = (rows : RowsOf) × RunGives run rows

-- the run was refused
abbrev pub RunIsRefused : Run → Type 0
RunIsRefused run = run.stage ≡ Refused

-- the next block of a table that the run stands for, or none where that has no more
abbrev pub IsAwaited : Run → Option TableOf → Type 0
IsAwaited run block = (plan : PlanOf) × (table : TableOf) × (handed : ℕ) × StandsFor run plan table handed × (block ≡ handed_block plan table handed)

-- What a run may be handed: what is awaited, before the run is over, and anything then.
pub data MayBeHanded (run : Run) (block : Option TableOf) : Type 0 where
  done : RunIsDone run → MayBeHanded run block
  failed : RunIsRefused run → MayBeHanded run block
  awaited : IsAwaited run block → MayBeHanded run block

-- a run that does no more steps than its sink has the answer of a plan before an order at its end, beside the answer
pub record IsUnordered (run : Run) (plan : PlanOf) (table : TableOf) (given : OrderedOf) : Type 0 where
  pub untaken : given.taken ≡ 0
  pub unordered_is : map node_view run.steps.items ≡ [] → unordered_answer plan table ≡ Some given.stored

-- the run is done, and has both
pub record HasAnswered (run : Run) (plan : PlanOf) (table : TableOf) : Type 0 where
  pub given : OrderedOf
  pub gives : run.stage ≡ Ended given
  pub unordered : IsUnordered run plan table given

-- a run that lends rows of a plan on a table: it stands for the plan, or is done
pub data LendsFor (run : Run) (plan : PlanOf) (table : TableOf) : Type 0 where
  reads : (handed : ℕ) → StandsFor run plan table handed → LendsFor run plan table
  ended : HasAnswered run plan table → LendsFor run plan table

-- What a run answers that was handed `handed` blocks before: Done with the answer, or the division by zero, at the call of its length, and
-- More before it.
abbrev pub AdvancesTo : PlanOf → TableOf → ℕ → Run → Result Step ExecFault → Type 0
AdvancesTo plan table handed run (Ok More) = (handed + 1 < run_length plan table) × StandsFor run plan table (handed + 1)
AdvancesTo plan table handed run (Ok Done) = (rows : RowsOf) × (handed + 1 ≡ run_length plan table) × (plan_answer plan table ≡ Some rows) × RunGives run rows × HasAnswered run plan table
AdvancesTo plan table handed run (Err DivisionByZero) = (handed + 1 ≡ run_length plan table) × (plan_answer plan table ≡ None)
AdvancesTo plan table handed run (Err NoMemory) = ⊤
AdvancesTo plan table handed run (Err Failed) = ⊥

-- names, with a column for each, and rows that are those of whatever the plan answers on the table before an order at its end, and the first of these
pub record AreFirstRows (plan : PlanOf) (table : TableOf) (front : FirstRows) : Type 0 where
  pub width : length front.columns.now.kinds ≡ length front.names.now
  pub first : (rows : RowsOf) → unordered_answer plan table ≡ Some rows → BeginWith rows (map string_bytes front.names.now) front.columns.now.rows

-- ---- inside

-- as `AdvancesTo`, of a run whose stage is not set yet: there are rows at the call of its length, and none before it
abbrev pub StepsTo : PlanOf → TableOf → ℕ → Run → Result (Option OrderedOf) ExecFault → Type 0
StepsTo plan table handed run (Ok None) = (handed + 1 < run_length plan table) × StandsFor run plan table (handed + 1)
StepsTo plan table handed run (Ok (Some given)) = (handed + 1 ≡ run_length plan table) × (plan_answer plan table ≡ Some given.rows) × IsUnordered run plan table given
StepsTo plan table handed run (Err DivisionByZero) = (handed + 1 ≡ run_length plan table) × (plan_answer plan table ≡ None)
StepsTo plan table handed run (Err NoMemory) = ⊤
StepsTo plan table handed run (Err Failed) = ⊥

-- what the steps make of the rows that passed
abbrev pub passed_answer : Run → Option (List (List CellValue)) → Option RowsOf
passed_answer run passed = option_and_then (λ rows. nodes_result (steps_of run) (without_count (kept_names (sink_kept run.sink)) rows)) passed

abbrev pub IsRunAnswer : Run → Option RowsOf → Type 0
IsRunAnswer run answer = (passed : Option (List (List CellValue))) → HasPassed run passed → passed_answer run passed ≡ answer

-- the rows that passed may go through the steps
pub record IsReady (run : Run) : Type 0 where
  pub width : length (sink_kept run.sink).columns.kinds ≡ length (kept_names (sink_kept run.sink))
  pub passed : Option (List (List CellValue))
  pub has : HasPassed run passed
  pub fits : (rows : List (List CellValue)) → passed ≡ Some rows → NodesFit (steps_of run) (without_count (kept_names (sink_kept run.sink)) rows)

-- a run may take in a block: what passes of its rows may go to the sink
pub record MayTakeIn (run : Run) (block : TableOf) : Type 0 where
  pub conditions : All (ConditionsFit (conditions_of run)) block.rows
  pub columns : AreKeptOf (sink_kept run.sink) block.schema
  pub days : All HasCalendarDays block.rows
  pub passed : Option (List (List CellValue))
  pub has : HasPassed run passed
  pub few : (rows : List (List CellValue)) → rows_joined passed (passed_rows run block.rows) ≡ Some rows → length rows < 2 ^ 64
  pub fits : (rows : List (List CellValue)) → rows_joined passed (passed_rows run block.rows) ≡ Some rows
      → NodesFit (sink_nodes run.sink) (without_count (kept_names (sink_kept run.sink)) rows)

-- it took in the first of the blocks that are left: what passes of its rows went to the sink
pub record HasTakenIn (old new : Run) (rows : List (List CellValue)) : Type 0 where
  pub conditions : new.conditions ≡ old.conditions
  pub stage : new.stage ≡ old.stage
  pub steps : steps_of new ≡ steps_of old
  pub columns : HasSameColumns (sink_kept old.sink) (sink_kept new.sink)
  pub left_are : new.left.items ≡ drop 1 old.left.items
  pub room_is : new.room ≡ room_behind old.room (count_by (passes_each (conditions_of old)) rows)
  pub passed : (before : Option (List (List CellValue))) → HasPassed old before → HasPassed new (rows_joined before (passed_rows old rows))

-- the next of the blocks that are left, where the stop looks for rows after those before it
abbrev pub wanted : Option ℕ → Option ℕ → Option ℕ
wanted (Some ℕ.zero) next = None
wanted room next = next

abbrev pub wanted_block : Run → Option ℕ
wanted_block run = wanted run.room (slice_get run.left.items 0)

-- a run has the rows that passed as they stood before they were put in order, beside the answer
pub record KeepsUnordered (old new : Run) (given : OrderedOf) : Type 0 where
  pub steps : new.steps ≡ old.steps
  pub untaken : given.taken ≡ 0
  pub unordered_is : map node_view old.steps.items ≡ [] → (passed : List (List CellValue)) → HasPassed old (Some passed)
      → nodes_result (before_order (sink_nodes old.sink)) (without_count (kept_names (sink_kept old.sink)) passed) ≡ Some given.stored

-- what a run makes of the blocks that were handed in: nothing yet where others are to come
abbrev pub RunGoesOn : Run → Run → Result (Option OrderedOf) ExecFault → Type 0
RunGoesOn old new (Ok None) = (is_some (wanted_block old) ≡ true) × (new ≡ old)
RunGoesOn old new (Ok (Some given)) = (wanted_block old ≡ None) × IsRunAnswer old (Some given.rows) × KeepsUnordered old new given
RunGoesOn old new (Err DivisionByZero) = (wanted_block old ≡ None) × IsRunAnswer old None
RunGoesOn old new (Err NoMemory) = ⊤
RunGoesOn old new (Err Failed) = ⊥
