-- Where no steps are left, the rows that a run has kept are its answer at the end, or what is put in order for it, and first rows of that before.
use Rattle.std.proofs.Common.{◌≡◌, ℕ, false, Option, Some, None, List, [], ◌∷◌, ◌++◌, append-nil, drop, length, map, refl, sym, ap, ◌∙◌, string_bytes}
use Rattle.std.specs.Prelude.{IfSome}
use Rattle.std.specs.Option.{unwrap_or}
use Rattle.std.proofs.lemmas.List.{length-map}
use Rattle.cell_types.specs.Value.{CellValue}
use Rattle.table_store.specs.Table.{TableOf}
use Rattle.query_meaning.specs.Apply.{names_at, values_at}
use Rattle.query_meaning.specs.Meaning.{first_rows, selected_names}
use Rattle.query_meaning.specs.Order.{Item}
use Rattle.block_filter.specs.Conditions.{rows_joined, ConditionsInTurn}
use Rattle.query_plan.specs.Plan.{PlanOf, counted, needed, node_view, nodes_result, select_nodes, slice_view, sorting}
use Rattle.query_plan.specs.Scan.{rows_of_blocks}
use Rattle.result_rows.specs.Rows.{BeginWith, OrderedOf, RowsOf}
use Rattle.query_exec.specs.declared.front.FirstRows.{FirstRows}
use Rattle.result_rows.specs.declared.kept.Kept.{Kept}
use Rattle.query_exec.specs.declared.run.Run.{Run}
use Rattle.query_exec.specs.declared.run.Stage.TheVariants.{Ended, Reading}
use Rattle.query_exec.specs.declared.sink.Sink.{Sink}
use Rattle.query_exec.specs.declared.sink.Sink.TheVariants.{Aggregate, Collect, Slice, Sorted, TopN}
use Rattle.query_exec.specs.Answer.{before_order}
use Rattle.query_exec.specs.Steps.{without_count}
use Rattle.result_rows.specs.Kept.{kept_names, kept_places, shown_places}
use Rattle.result_rows.specs.Selected.{selected_rows}
use Rattle.query_exec.specs.Run.{handed_rows, passed_rows, ended, reads, AreFirstRows, LendsFor, StandsFor}
use Rattle.query_exec.specs.Sink.{sink_kept, sink_nodes, sorted_items, AreKeptRows, HasPushed, IsShown, LendsKept}
use Rattle.result_rows.proofs.KeptLemmas.{as_many}
use Rattle.query_exec.proofs.OrderLemmas.{unordered_is}
use Rattle.query_exec.proofs.ReadLemmas.{handed_parts, passed_parts, read_rows}
use Rattle.query_exec.proofs.RunLemmas.{some_passed}
use Rattle.query_exec.proofs.SliceLemmas.{piece_begins}
use Rattle.query_exec.proofs.ConditionLemmas.{selected_append, some_of}
use Rattle.query_exec.proofs.SortedLemmas.{shown_wide, whole_nodes}

-- ---- what a sink lends

kept_width : (kept : Kept) (front : FirstRows) → AreKeptRows kept front → length kept.columns.kinds ≡ length (kept_names kept) → length front.columns.now.kinds ≡ length front.names.now
kept_width kept front are wide = rw are.columns_are (wide ∙ ap length (sym are.names_are) ∙ length-map front.names.now string_bytes)

shown_width : (kept : Kept) (shown : Option Kept) (rows : List (List CellValue)) (front : FirstRows) → IfSome shown (IsShown kept rows) → AreKeptRows (unwrap_or shown kept) front
    → length kept.columns.kinds ≡ length (kept_names kept) → length front.columns.now.kinds ≡ length front.names.now
shown_width kept None rows front is lends wide = kept_width kept front lends wide
shown_width kept (Some shown) rows front is lends wide = kept_width shown front lends (shown_wide kept shown rows is wide)

lent_width : (sink : Sink) (pushed : List (List CellValue)) (front : FirstRows) → HasPushed sink pushed → LendsKept sink (Some front)
    → length (sink_kept sink).columns.kinds ≡ length (kept_names (sink_kept sink)) → length front.columns.now.kinds ≡ length front.names.now
lent_width (Collect kept) pushed front has lends wide = kept_width kept front lends wide
lent_width (Slice sink) pushed front has lends wide = kept_width sink.kept front lends wide
lent_width (TopN sink) pushed front has lends wide = absurd lends
lent_width (Sorted sink) pushed front has lends wide = shown_width sink.kept sink.shown pushed front has.shown_is lends.2 wide
lent_width (Aggregate sink) pushed front has lends wide = absurd lends

-- of rows that stay as they are
all_first : (kept : Kept) (pushed more : List (List CellValue)) (front : FirstRows) (rows : RowsOf) → kept.columns.rows ≡ pushed → AreKeptRows kept front
    → Some (without_count (kept_names kept) (pushed ++ more)) ≡ Some rows → BeginWith rows (map string_bytes front.names.now) front.columns.now.rows
all_first kept pushed more front rows has lends made =
    let same : without_count (kept_names kept) (pushed ++ more) ≡ rows = cc in
    rw (← same, lends.columns_are, has, lends.names_are) (record { names_are = refl; rest = more; rows_are = refl })

-- of rows that are put in order, in the columns that are asked for
picked_first : (picked : Option (List ℕ)) (items : List Item) (names : List (List ℕ)) (pushed more : List (List CellValue)) (rows : RowsOf)
    → nodes_result (before_order (sorting items ∷ select_nodes picked)) (without_count names (pushed ++ more)) ≡ Some rows
    → (rows.names ≡ selected_names picked names) × (rows.rows ≡ selected_rows picked pushed ++ selected_rows picked more)
picked_first None items names pushed more rows made =
    let same : without_count names (pushed ++ more) ≡ rows = cc in rw (← same) (refl, refl)
picked_first (Some places) items names pushed more rows made =
    let same : without_count (names_at places names) (map (values_at places) (pushed ++ more)) ≡ rows = cc in
    rw (← same) (refl, selected_append (Some places) pushed more)

shown_first : (kept : Kept) (shown : Option Kept) (items : List Item) (pushed more : List (List CellValue)) (front : FirstRows) (rows : RowsOf) → kept.columns.rows ≡ pushed
    → IfSome shown (IsShown kept pushed) → AreKeptRows (unwrap_or shown kept) front
    → nodes_result (before_order (sorting items ∷ select_nodes (shown_places shown))) (without_count (kept_names kept) (pushed ++ more)) ≡ Some rows
    → BeginWith rows (map string_bytes front.names.now) front.columns.now.rows
shown_first kept None items pushed more front rows has is lends made = all_first kept pushed more front rows has lends made
shown_first kept (Some shown) items pushed more front rows has is lends made =
    let picked = kept_places shown in
    let first = picked_first picked items (kept_names kept) pushed more rows made in
    rw (lends.columns_are, is.rows_are, lends.names_are, is.names_are) (record { names_are = first.0; rest = selected_rows picked more; rows_are = first.1 })

-- what its step makes of more rows, before it puts them in order, begins with that
lent_first : (sink : Sink) (pushed more : List (List CellValue)) (front : FirstRows) (rows : RowsOf) → HasPushed sink pushed → LendsKept sink (Some front)
    → nodes_result (before_order (sink_nodes sink)) (without_count (kept_names (sink_kept sink)) (pushed ++ more)) ≡ Some rows
    → BeginWith rows (map string_bytes front.names.now) front.columns.now.rows
lent_first (Collect kept) pushed more front rows has lends made = all_first kept pushed more front rows has lends made
lent_first (Slice sink) pushed more front rows has lends made =
    let piece = piece_begins sink.slice.skip sink.slice.top pushed more in
    let same : record { names = kept_names sink.kept; rows = first_rows sink.slice.top (drop sink.slice.skip (pushed ++ more)); count = counted (slice_view sink.slice) (without_count (kept_names sink.kept) (pushed ++ more)) } ≡ rows = cc in
    rw (← same, lends.columns_are, has.piece, lends.names_are) (record { names_are = refl; rest = piece.0; rows_are = piece.1 })
lent_first (TopN sink) pushed more front rows has lends made = absurd lends
lent_first (Sorted sink) pushed more front rows has lends made =
    shown_first sink.kept sink.shown (sorted_items sink) pushed more front rows has.rows_are has.shown_is lends.2
    (ap (λ ns. nodes_result (before_order (ns ++ select_nodes (shown_places sink.shown))) (without_count (kept_names sink.kept) (pushed ++ more)))
    (sym (whole_nodes sink lends.0 lends.1)) ∙ made)
lent_first (Aggregate sink) pushed more front rows has lends made = absurd lends

-- ---- what a run lends

joined_more : (front all : List (List CellValue)) (back : Option (List (List CellValue))) → rows_joined (Some front) back ≡ Some all
    → (more : List (List CellValue)) × (front ++ more ≡ all)
joined_more front all None is = absurd (cc)
joined_more front all (Some more) is = (more, cc)

front_is_first : ConditionsInTurn → (run : Run) (front : Option FirstRows) → run.faulted ≡ false → map node_view run.steps.items ≡ [] → LendsKept run.sink front
    → (plan : PlanOf) (table : TableOf) (handed : ℕ) → StandsFor run plan table handed → IfSome front (AreFirstRows plan table)
front_is_first law run None works none lends plan table handed stands = tt
front_is_first law run (Some front) works none lends plan table handed stands =
    let has = stands.read in
    record {
      width =
          let some = some_passed run (passed_rows run (handed_rows plan table handed)) has.passed works in
          lent_width run.sink some.0 front some.2 lends (as_many (sink_kept run.sink) table.schema has.columns);
      first = λ rows is.
          let before = handed_rows plan table handed in
          let behind = rows_of_blocks table.rows (drop handed (needed plan table.rows)) in
          let some = some_passed run (passed_rows run before) has.passed works in
          let made = some_of (λ rs. nodes_result (before_order (sink_nodes run.sink)) (without_count (kept_names (sink_kept run.sink)) rs)) (passed_rows run (read_rows plan table)) rows (sym (unordered_is run plan table handed has none) ∙ is) in
          let more = joined_more some.0 made.0 (passed_rows run behind)
          (ap (λ passed. rows_joined passed (passed_rows run behind)) (sym some.1) ∙ sym (passed_parts law run before behind)
          ∙ ap (passed_rows run) (sym (handed_parts plan table handed)) ∙ made.1) in
          lent_first run.sink some.0 more.0 front rows some.2 lends (rw more.1 made.2);
    }

-- while blocks are read
pub reading_front : ConditionsInTurn → (run : Run) (front : Option FirstRows) → run.faulted ≡ false → map node_view run.steps.items ≡ [] → LendsKept run.sink front
    → run.stage ≡ Reading → (plan : PlanOf) (table : TableOf) → LendsFor run plan table → IfSome front (AreFirstRows plan table)
reading_front law run front works none lends is plan table (reads handed stands) = front_is_first law run front works none lends plan table handed stands
reading_front law run front works none lends is plan table (ended has) = absurd (cc (is, has.gives))

-- once the run is done
pub ended_front : (run : Run) (given : OrderedOf) (front : FirstRows) → map node_view run.steps.items ≡ [] → run.stage ≡ Ended given
    → map string_bytes front.names.now ≡ given.stored.names → front.columns.now.rows ≡ given.stored.rows
    → length front.columns.now.kinds ≡ length front.names.now → (plan : PlanOf) (table : TableOf) → LendsFor run plan table
    → AreFirstRows plan table front
ended_front run given front none is names rows_are width plan table (reads handed stands) = absurd (cc (is, stands.read.reads))
ended_front run given front none is names rows_are width plan table (ended has) = record {
  width = width;
  first = λ all answer.
      let same : has.given ≡ given = cc (is, has.gives) in
      let before = rw same at (has.unordered.unordered_is none) in
      let lent : given.stored ≡ all = cc (before, answer) in
      rw (← lent, names, rows_are) (record { names_are = refl; rest = []; rows_are = sym (append-nil given.stored.rows) });
}
