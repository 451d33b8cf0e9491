-- What a run keeps of the rows that passed until its last block came.
use Rattle.std.specs.Prelude.{◌≡◌, ℕ, List, ◌∷◌, Option, Some, None, length, map, min}
use Rattle.cell_types.specs.Value.{CellValue}
use Rattle.odata_query.specs.Query.{optional_numbers}
use Rattle.query_meaning.specs.Apply.{group_values}
use Rattle.query_plan.specs.Plan.{NodeOf, choosing, node_view, sorting}
use Rattle.query_exec.specs.declared.run.Run.{Run}
use Rattle.query_exec.specs.declared.run_kept.RunKept.{RunKept}
use Rattle.query_exec.specs.declared.run_kept.RunKept.TheVariants.{Groups, Nothing, Ordered}
use Rattle.query_exec.specs.declared.sink.Sink.{Sink}
use Rattle.query_exec.specs.declared.sink.Sink.TheVariants.{Aggregate, Collect, Slice, Sorted, TopN}
use Rattle.query_exec.specs.Run.{HasPassed}

-- all of the rows are kept where an order is the first of some steps
abbrev pub order_keeps : List NodeOf → ℕ → RunKept
order_keeps (sorting items ∷ steps) count = Ordered count
order_keeps (choosing items most ∷ steps) count = Ordered count
order_keeps steps count = Nothing

-- `groupby` keeps its groups, and `aggregate` one of all rows
abbrev pub groups_keep : Option (List ℕ) → List (List CellValue) → RunKept
groups_keep None rows = Groups 1
groups_keep (Some places) rows = Groups (length (group_values places rows))

-- what is kept of rows that went to a sink: those that it puts in order, or as many as it is to give of an order; its groups; or all rows for an order after it
abbrev pub sink_keeps : Sink → List NodeOf → List (List CellValue) → RunKept
sink_keeps (Collect kept) steps rows = order_keeps steps (length rows)
sink_keeps (Slice sink) steps rows = Nothing
sink_keeps (TopN sink) steps rows = Ordered (min sink.most (length rows))
sink_keeps (Sorted sink) steps rows = Ordered (length rows)
sink_keeps (Aggregate sink) steps rows = groups_keep (optional_numbers sink.places) rows

-- what a run keeps of the rows that passed; nothing, where a condition divides by zero
abbrev pub run_keeps : Run → Option (List (List CellValue)) → RunKept
run_keeps run None = Nothing
run_keeps run (Some rows) = sink_keeps run.sink (map node_view run.steps.items) rows

-- the run keeps that of whatever passed so far
abbrev pub RunKeeps : Run → RunKept → Type 0
RunKeeps run kept = (passed : Option (List (List CellValue))) → HasPassed run passed → kept ≡ run_keeps run passed
