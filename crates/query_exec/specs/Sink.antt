-- What takes in the rows that pass the conditions of a plan. The law of a sink: where rows are pushed, piece by piece, what it finishes with is what its step
-- makes of all of them.
use Rattle.std.specs.Prelude.{◌≡◌, ◌<◌, ◌-◌, ◌^◌, ◌++◌, ⊤, Result, Ok, Err, ℕ, true, false, List, [], ◌∷◌, Option, Some, None, IfSome, drop, length, map, option_to_list, string_bytes}
use Rattle.std.specs.Option.{unwrap_or}
use Rattle.std.specs.List.{All}
use Rattle.cell_types.specs.Value.{CellValue}
use Rattle.odata_query.specs.Aggregate.{aggregates_view}
use Rattle.odata_query.specs.Query.{optional_numbers, order_view}
use Rattle.table_store.specs.Table.{TableOf}
use Rattle.row_eval.specs.declared.fault.EvalFault.{EvalFault}
use Rattle.row_eval.specs.declared.fault.EvalFault.TheVariants.{DivisionByZero, NoMemory}
use Rattle.row_columns.specs.Picked.{numbered}
use Rattle.sort_rows.specs.Best.{best_rows}
use Rattle.sort_rows.specs.Cutoffs.{HasCalendarDays}
use Rattle.sort_rows.specs.Runs.{HasInRuns}
use Rattle.aggregate_rows.specs.Gathered.{Gathers}
use Rattle.block_filter.specs.declared.block.Passed.{Passed}
use Rattle.query_meaning.specs.Meaning.{ResultOf, first_rows, selected_names}
use Rattle.query_meaning.specs.Order.{Item}
use Rattle.query_plan.specs.Fitting.{NodesFit}
use Rattle.query_plan.specs.Plan.{NodeOf, choosing, nodes_result, select_nodes, slice_view, slicing, sorting}
use Rattle.query_plan.specs.Push.{room_of}
use Rattle.query_plan.specs.declared.plan.Slice as plan
use Rattle.query_plan.specs.Rewrite.{chosen}
use Rattle.result_rows.specs.Rows.{OrderedOf, RowsOf}
use Rattle.query_exec.specs.declared.aggregate.AggregateSink.{AggregateSink}
use Rattle.query_exec.specs.declared.front.FirstRows.{FirstRows}
use Rattle.result_rows.specs.declared.kept.Kept.{Kept}
use Rattle.query_exec.specs.declared.sink.Sink.{Sink}
use Rattle.query_exec.specs.declared.sink.Sink.TheVariants.{Aggregate, Collect, Slice, Sorted, TopN}
use Rattle.query_exec.specs.declared.slice.SliceSink.{SliceSink}
use Rattle.query_exec.specs.declared.sorted.SortedSink.{SortedSink}
use Rattle.query_exec.specs.declared.top_n.TopNSink.{TopNSink}
use Rattle.query_exec.specs.Answer.{before_order}
use Rattle.query_exec.specs.Cutoffs.{HasCutoff}
use Rattle.query_exec.specs.Steps.{aggregate_node, without_count}
use Rattle.query_exec.specs.Items.{none_can_fault, ItemsFit}
use Rattle.result_rows.specs.Kept.{kept_names, kept_places, shown_places, AreKeptOf, HasKept, HasSameColumns}
use Rattle.result_rows.specs.Selected.{selected_kinds, selected_rows}

abbrev pub sink_items : TopNSink → List Item
sink_items sink = map order_view sink.items.items

abbrev pub sorted_items : SortedSink → List Item
sorted_items sink = map order_view sink.items.items

abbrev pub sink_kept : Sink → Kept
sink_kept (Collect kept) = kept
sink_kept (Slice sink) = sink.kept
sink_kept (TopN sink) = sink.kept
sink_kept (Sorted sink) = sink.kept
sink_kept (Aggregate sink) = sink.kept

-- an order, or the first rows in it, and a piece of them
abbrev pub sorted_nodes : List Item → Option ℕ → Option plan.Slice → List NodeOf
sorted_nodes items most slice = chosen (sorting items) most ∷ map (λ s. slicing (slice_view s)) (option_to_list slice)

-- and the columns that are asked for of these
abbrev pub shown_nodes : SortedSink → List NodeOf
shown_nodes sink = sorted_nodes (sorted_items sink) sink.most sink.slice ++ select_nodes (shown_places sink.shown)

-- the steps that it does
abbrev pub sink_nodes : Sink → List NodeOf
sink_nodes (Collect kept) = []
sink_nodes (Slice sink) = slicing (slice_view sink.slice) ∷ []
sink_nodes (TopN sink) = choosing (sink_items sink) sink.most ∷ []
sink_nodes (Sorted sink) = shown_nodes sink
sink_nodes (Aggregate sink) = aggregate_node (optional_numbers sink.places) (aggregates_view sink.aggregates) ∷ []

-- the first rows of a result, under its names
abbrev pub first_result : Option ℕ → ResultOf → ResultOf
first_result most r = record { names = r.names; rows = first_rows most r.rows; count = r.count }

-- some steps fit rows under these names
pub record FitNames (names : List (List ℕ)) (nodes : List NodeOf) : Type 0 where
  pub result : ResultOf
  pub names_are : result.names ≡ names
  pub fit : NodesFit nodes result

-- ---- the rows that were pushed

-- the rows of a piece are kept, and all are counted
pub record HasPiece (sink : SliceSink) (rows : List (List CellValue)) : Type 0 where
  pub piece : sink.kept.columns.rows ≡ first_rows sink.slice.top (drop sink.slice.skip rows)
  pub count : sink.count ≡ length rows

-- Of an order that never divides by zero, rows are kept of which the first ones are those of all. If there is a cutoff, a row that it does not pass comes late.
pub record HasBest (sink : TopNSink) (rows : List (List CellValue)) : Type 0 where
  pub safe : none_can_fault (sink_items sink) ≡ true
  pub fit : ItemsFit (sink_items sink) sink.kept.columns.rows
  pub cutoff : HasCutoff sink
  pub first : best_rows (sink_items sink) sink.most sink.kept.columns.rows ≡ best_rows (sink_items sink) sink.most rows

-- columns that are asked for of all columns of a table: they have the same rows
pub record IsShown (kept : Kept) (rows : List (List CellValue)) (shown : Kept) : Type 0 where
  pub all : kept_places kept ≡ None
  pub within : IfSome (kept_places shown) (All (λ place. place < length (kept_names kept)))
  pub names_are : kept_names shown ≡ selected_names (kept_places shown) (kept_names kept)
  pub kinds_are : shown.columns.kinds ≡ selected_kinds (kept_places shown) kept.columns.kinds
  pub rows_are : shown.columns.rows ≡ selected_rows (kept_places shown) rows

-- of an order all rows are kept, and are in runs
pub record HasOrder (sink : SortedSink) (rows : List (List CellValue)) : Type 0 where
  pub rows_are : sink.kept.columns.rows ≡ rows
  pub shown_is : IfSome sink.shown (IsShown sink.kept rows)
  pub runs_are : HasInRuns (sorted_items sink) sink.runs sink.kept.columns.rows

-- for aggregates none is kept
pub record HasGathered (sink : AggregateSink) (rows : List (List CellValue)) : Type 0 where
  pub gathers : Gathers sink.aggregator (optional_numbers sink.places) (aggregates_view sink.aggregates) rows
  pub none : sink.kept.columns.rows ≡ []

abbrev pub HasPushed : Sink → List (List CellValue) → Type 0
HasPushed (Collect kept) rows = kept.columns.rows ≡ rows
HasPushed (Slice sink) rows = HasPiece sink rows
HasPushed (TopN sink) rows = HasBest sink rows
HasPushed (Sorted sink) rows = HasOrder sink rows
HasPushed (Aggregate sink) rows = HasGathered sink rows

-- ---- a push

-- how many rows are looked for after `passed` rows
abbrev pub room_behind : Option ℕ → ℕ → Option ℕ
room_behind None passed = None
room_behind (Some room) passed = Some (room - passed)

-- how many more rows a sink takes in by their numbers, where that is limited
abbrev pub spare_of : Sink → Option ℕ
spare_of (Slice sink) = room_behind (room_of sink.slice.skip sink.slice.top false) sink.count
spare_of sink = None

-- of these rows of a block the first ones were found by their numbers, `spare` if that is given, and how many they are
pub record AreFound (spare : Option ℕ) (rows : List (List CellValue)) (found : Passed) (passing : List (List CellValue)) : Type 0 where
  pub within : All (λ n. n < length rows) found.rows
  pub first : numbered found.rows rows ≡ first_rows spare passing
  pub count : found.count ≡ length passing

-- the rows that were found in a block may be pushed after others: the step fits all of them
pub record MayPush (sink : Sink) (block : TableOf) (found : Passed) : Type 0 where
  pub passing : List (List CellValue)
  pub are_found : AreFound (spare_of sink) block.rows found passing
  pub columns : AreKeptOf (sink_kept sink) block.schema
  pub days : All HasCalendarDays block.rows
  pub before : List (List CellValue)
  pub pushed : HasPushed sink before
  pub few : length (before ++ selected_rows (kept_places (sink_kept sink)) passing) < 2 ^ 64
  pub fits : NodesFit (sink_nodes sink) (without_count (kept_names (sink_kept sink)) (before ++ selected_rows (kept_places (sink_kept sink)) passing))

-- rows of a block are kept in the columns that are asked for, unless all are
abbrev pub KeepsShown : Option Kept → Option Kept → List (List CellValue) → Type 0
KeepsShown None None rows = ⊤
KeepsShown (Some old) (Some new) rows = HasKept old new (selected_rows (kept_places old) rows)
KeepsShown _ _ rows = ⊥

-- they are pushed, in the columns that are picked
pub record PushesOn (old new : Sink) (rows : List (List CellValue)) (found : Passed) : Type 0 where
  pub nodes : sink_nodes new ≡ sink_nodes old
  pub columns : HasSameColumns (sink_kept old) (sink_kept new)
  pub pushed : (before passing : List (List CellValue)) → AreFound (spare_of old) rows found passing → HasPushed old before
      → HasPushed new (before ++ selected_rows (kept_places (sink_kept old)) passing)

-- ---- before the finish

-- the names and the rows that are kept, as they are lent
pub record AreKeptRows (kept : Kept) (front : FirstRows) : Type 0 where
  pub names_are : map string_bytes front.names.now ≡ kept_names kept
  pub columns_are : front.columns.now ≡ kept.columns

-- rows that are put in order are lent, in the columns that are asked for, unless a piece of the order is
abbrev pub LendsWhole : SortedSink → Option FirstRows → Type 0
LendsWhole sink None = ⊤
LendsWhole sink (Some front) = (sink.most ≡ None) × (sink.slice ≡ None) × AreKeptRows (unwrap_or sink.shown sink.kept) front

-- a sink whose step makes of rows what it has kept of them, or puts that in order, lends that, and another lends nothing
abbrev pub LendsKept : Sink → Option FirstRows → Type 0
LendsKept (Collect kept) (Some front) = AreKeptRows kept front
LendsKept (Slice sink) (Some front) = AreKeptRows sink.kept front
LendsKept (TopN sink) None = ⊤
LendsKept (Sorted sink) front = LendsWhole sink front
LendsKept (Aggregate sink) None = ⊤
LendsKept _ _ = ⊥

-- ---- the finish

-- the step fits the rows that were pushed
pub record MayFinish (sink : Sink) : Type 0 where
  pub width : length (sink_kept sink).columns.kinds ≡ length (kept_names (sink_kept sink))
  pub rows : List (List CellValue)
  pub pushed : HasPushed sink rows
  pub fits : NodesFit (sink_nodes sink) (without_count (kept_names (sink_kept sink)) rows)

-- that is what its steps make of the rows that were pushed
pub record SinkGives (sink : Sink) (given : RowsOf) : Type 0 where
  pub gives : (rows : List (List CellValue)) → HasPushed sink rows → nodes_result (sink_nodes sink) (without_count (kept_names (sink_kept sink)) rows) ≡ Some given

-- that is what its steps make of them, and what they make of them before an order at their end
pub record SinkEnds (sink : Sink) (given : OrderedOf) : Type 0 where
  pub given_is : SinkGives sink given.rows
  pub untaken : given.taken ≡ 0
  pub stored_is : (rows : List (List CellValue)) → HasPushed sink rows
      → nodes_result (before_order (sink_nodes sink)) (without_count (kept_names (sink_kept sink)) rows) ≡ Some given.stored

-- that is what the sink finishes with, and a division by zero just where its steps divide by zero
abbrev pub SinkFinishes : Sink → Result OrderedOf EvalFault → Type 0
SinkFinishes sink (Ok given) = SinkEnds sink given
SinkFinishes sink (Err DivisionByZero) =
    (rows : List (List CellValue)) → HasPushed sink rows → nodes_result (sink_nodes sink) (without_count (kept_names (sink_kept sink)) rows) ≡ None
SinkFinishes sink (Err NoMemory) = ⊤
