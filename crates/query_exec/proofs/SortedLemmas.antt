-- A sink of rows in order.
use Rattle.std.proofs.Common.{◌≡◌, ◌++◌, ◌||◌, ℕ, true, false, List, [], ◌∷◌, Option, Some, None, append-nil, drop, length, refl, sym, ap, ◌∙◌}
use Rattle.std.specs.Prelude.{IfSome, is_some, option_map}
use Rattle.std.specs.Option.{unwrap_or}
use Rattle.std.proofs.lemmas.List.{length-map}
use Rattle.cell_types.specs.Value.{CellValue}
use Rattle.csvw_meta.specs.Schema.{SchemaOf}
use Rattle.odata_query.specs.Query.{optional_numbers}
use Rattle.table_store.specs.Table.{TableOf}
use Rattle.result_rows.specs.Rows.{OrderedOf, RowsOf}
use Rattle.row_columns.specs.Picked.{numbered}
use Rattle.query_meaning.specs.Meaning.{first_rows, selected_names, table_names}
use Rattle.query_meaning.specs.Order.{Item, ordered}
use Rattle.query_plan.specs.Laws.{NodesInTurn}
use Rattle.query_plan.specs.Plan.{NodeOf, SliceOf, counted, node_result, nodes_result, projecting, select_nodes, slice_view, slicing, sorting}
use Rattle.query_plan.specs.declared.plan.Slice.{Slice}
use Rattle.query_plan.specs.Fitting.{NodesFit}
use Rattle.query_plan.specs.Rewrite.{chosen}
use Rattle.sort_rows.specs.Runs.{HasInRuns, HasMoreRows}
use Rattle.sort_rows.specs.declared.runs.SortedRuns.{SortedRuns}
use Rattle.block_filter.specs.declared.block.Passed.{Passed}
use Rattle.result_rows.specs.declared.kept.Kept.{Kept}
use Rattle.result_rows.specs.Kept.{kept_names, kept_places, shown_of, shown_places, AreKeptOf, AreShownOf, HasKept, HasSameColumns}
use Rattle.result_rows.specs.Selected.{selected_rows}
use Rattle.result_rows.proofs.KeptLemmas.{kinds_long}
use Rattle.result_rows.proofs.SelectedLemmas.{as_many_rows, selected_drop, selected_first}
use Rattle.query_exec.specs.declared.sink.Sink.TheVariants as sink
use Rattle.query_exec.specs.declared.sorted.SortedSink.{SortedSink}
use Rattle.query_exec.specs.Answer.{before_order}
use Rattle.query_exec.specs.Sink.{first_result, shown_nodes, sorted_items, sorted_nodes, HasPushed, IsShown, KeepsShown, MayPush, PushesOn, SinkEnds}
use Rattle.query_exec.specs.Items.{ItemsFit}
use Rattle.query_exec.specs.Steps.{without_count}
use Rattle.query_exec.proofs.ConditionLemmas.{mapped_of, selected_append}

-- the piece that all rows are
abbrev pub all_rows : Slice
all_rows = record { skip = 0; top = None; counts = false }

-- rows of a block are kept after others that are in runs
pub has_more_rows : (old : SortedSink) (mid : Kept) (block : TableOf) (found : Passed) → MayPush (sink.Sorted old) block found
    → HasKept old.kept mid (selected_rows (kept_places old.kept) (numbered found.rows block.rows)) → HasMoreRows (sorted_items old) old.runs mid.columns.rows
has_more_rows old mid block found may kept = record {
  before = old.kept.columns.rows;
  more = selected_rows (kept_places old.kept) (numbered found.rows block.rows);
  rows_are = kept.rows;
  has = may.pushed.runs_are;
}

-- what the items compute on the rows fits
first_fits : (items : List Item) (most : Option ℕ) (nodes : List NodeOf) (names : List (List ℕ)) (rows : List (List CellValue))
    → NodesFit (chosen (sorting items) most ∷ nodes) (without_count names rows) → ItemsFit items rows
first_fits items None nodes names rows fit = fit.0.numbers
first_fits items (Some most) nodes names rows fit = fit.0.numbers

pub kept_fit : (old : SortedSink) (mid : Kept) (block : TableOf) (found : Passed) → MayPush (sink.Sorted old) block found
    → HasKept old.kept mid (selected_rows (kept_places old.kept) (numbered found.rows block.rows)) → ItemsFit (sorted_items old) mid.columns.rows
kept_fit old mid block found may kept =
    rw (kept.rows, may.pushed.rows_are, may.are_found.first)
    (first_fits (sorted_items old) old.most _ (kept_names old.kept) (may.before ++ selected_rows (kept_places old.kept) may.passing) may.fits)

-- ---- the columns that are asked for

-- they are columns of the table
shown_of_table : (kept shown : Kept) (rows : List (List CellValue)) (schema : SchemaOf) → AreKeptOf kept schema → IsShown kept rows shown → AreKeptOf shown schema
shown_of_table kept shown rows schema are is =
    let names : kept_names kept ≡ table_names schema = rw is.all at are.names_are in
    record {
      within = rw (names, length-map schema.columns (λ column. column.name)) at is.within;
      names_are = rw names at is.names_are;
      kinds_are = rw (rw is.all at are.kinds_are) at is.kinds_are;
    }

pub all_of_table : (kept : Kept) (shown : Option Kept) (rows : List (List CellValue)) (schema : SchemaOf) → AreKeptOf kept schema → IfSome shown (IsShown kept rows)
    → IfSome shown (λ k. AreKeptOf k schema)
all_of_table kept None rows schema are is = tt
all_of_table kept (Some shown) rows schema are is = shown_of_table kept shown rows schema are is

-- there is one for each name
pub shown_wide : (kept shown : Kept) (rows : List (List CellValue)) → IsShown kept rows shown → length kept.columns.kinds ≡ length (kept_names kept)
    → length shown.columns.kinds ≡ length (kept_names shown)
shown_wide kept shown rows is wide =
    ap length is.kinds_are ∙ kinds_long (kept_places shown) kept.columns.kinds (kept_names kept) wide ∙ ap length (sym is.names_are)

pub shown_are : (kept : Kept) (shown : Option Kept) (rows : List (List CellValue)) → length kept.columns.kinds ≡ length (kept_names kept) → kept.columns.rows ≡ rows
    → IfSome shown (IsShown kept rows) → IfSome shown (AreShownOf kept.columns.rows)
shown_are kept None rows wide has is = tt
shown_are kept (Some shown) rows wide has is = record {
  width = shown_wide kept shown rows is wide;
  rows_are = rw has is.rows_are;
}

-- rows of a block are kept in them too
still_shown : (old mid shown new : Kept) (before rows passing : List (List CellValue)) → IsShown old before shown → HasSameColumns old mid
    → HasKept shown new (selected_rows (kept_places shown) rows) → rows ≡ passing → IsShown mid (before ++ selected_rows (kept_places old) passing) new
still_shown old mid shown new before rows passing is same takes found =
    record {
      all = rw same.places is.all;
      within = rw (takes.same.places, same.names) is.within;
      names_are = rw (takes.same.names, takes.same.places, same.names) is.names_are;
      kinds_are = rw (takes.same.kinds, takes.same.places, same.kinds) is.kinds_are;
      rows_are = rw (takes.rows, is.rows_are, takes.same.places, is.all, found) (sym (selected_append (kept_places shown) before passing));
    }

all_shown : (old mid : Kept) (shown new : Option Kept) (before rows passing : List (List CellValue)) → IfSome shown (IsShown old before) → HasSameColumns old mid
    → KeepsShown shown new rows → rows ≡ passing → IfSome new (IsShown mid (before ++ selected_rows (kept_places old) passing))
all_shown old mid None None before rows passing is same takes found = tt
all_shown old mid (Some shown) (Some new) before rows passing is same takes found = still_shown old mid shown new before rows passing is same takes found
all_shown old mid shown new before rows passing is same takes found = absurd takes

same_places : (shown new : Option Kept) (rows : List (List CellValue)) → KeepsShown shown new rows → shown_places new ≡ shown_places shown
same_places None None rows takes = refl
same_places (Some shown) (Some new) rows takes = ap optional_numbers takes.same.places
same_places shown new rows takes = absurd takes

-- and then all are
pub sorted_pushed : (old : SortedSink) (mid : Kept) (shown : Option Kept) (runs : SortedRuns) (rows : List (List CellValue)) (found : Passed)
    → HasKept old.kept mid (selected_rows (kept_places old.kept) (numbered found.rows rows)) → KeepsShown old.shown shown (numbered found.rows rows)
    → HasInRuns (sorted_items old) runs mid.columns.rows
    → PushesOn (sink.Sorted old) (sink.Sorted (record old { kept = mid; shown = shown; runs = runs })) rows found
sorted_pushed old mid shown runs rows found kept takes are = record {
  nodes = rw (same_places old.shown shown (numbered found.rows rows) takes) refl;
  columns = kept.same;
  pushed = λ before passing found_are has. record {
    rows_are = rw (kept.rows, has.rows_are, found_are.first) refl;
    shown_is = all_shown old.kept mid old.shown shown before (numbered found.rows rows) passing has.shown_is kept.same takes found_are.first;
    runs_are = are;
  };
}

-- ---- the end

-- an order alone
pub whole_nodes : (s : SortedSink) → s.most ≡ None → s.slice ≡ None → sorted_nodes (sorted_items s) s.most s.slice ≡ sorting (sorted_items s) ∷ []
whole_nodes s all whole = rw (all, whole) refl

-- rows of which some columns are asked for
abbrev pub selected_result : Option (List ℕ) → RowsOf → RowsOf
selected_result picked r = record { names = selected_names picked r.names; rows = selected_rows picked r.rows; count = r.count }

pub shown_is : (kept : Kept) (shown : Option Kept) (rows : List (List CellValue)) → kept.columns.rows ≡ rows → IfSome shown (IsShown kept rows)
    → shown_of (without_count (kept_names kept) kept.columns.rows) shown ≡ selected_result (shown_places shown) (without_count (kept_names kept) rows)
shown_is kept None rows has is = ap (without_count (kept_names kept)) has
shown_is kept (Some shown) rows has is = rw (is.names_are, is.rows_are) refl

-- steps and then a selection of columns
then_selected : NodesInTurn → (picked : Option (List ℕ)) (nodes : List NodeOf) (r made : RowsOf) → nodes_result nodes r ≡ Some made
    → nodes_result (nodes ++ select_nodes picked) r ≡ Some (selected_result picked made)
then_selected law None nodes r made is = rw (append-nil nodes) is
then_selected law (Some places) nodes r made is = law.turn nodes (projecting places ∷ []) r ∙ rw is refl

-- the columns of a piece are a piece of the columns
pub selected_piece : (picked : Option (List ℕ)) (most : Option ℕ) (slice : SliceOf) (names : List (List ℕ)) (all : List (List CellValue)) (made : RowsOf)
    → node_result (slicing slice) (first_result most (without_count (selected_names picked names) (selected_rows picked all))) ≡ Some made
    → (piece : RowsOf) × (node_result (slicing slice) (first_result most (without_count names all)) ≡ Some piece) × (selected_result picked piece ≡ made)
selected_piece picked most slice names all made is =
    let r = first_result most (without_count names all) in
    let piece : RowsOf = record { names = names; rows = first_rows slice.top (drop slice.skip r.rows); count = counted slice r } in
    let rows = selected_first picked most all in
    let same : selected_result picked piece ≡ made =
    rw (selected_first picked slice.top (drop slice.skip r.rows), selected_drop picked slice.skip r.rows, ← (as_many_rows picked r.rows), rows) (cc) in
    (piece, refl, same)

-- the rows that are kept, in order
rows_made : (names : List (List ℕ)) (rows : RowsOf) → rows.names ≡ names → rows.count ≡ None → without_count names rows.rows ≡ rows
rows_made names rows is count = rw (← is, ← count) refl

-- are a piece of them, or all
nodes_make : (items : List Item) (most : Option ℕ) (slice : Option Slice) (names : List (List ℕ)) (rows all : List (List CellValue)) (made : RowsOf) → ordered items rows ≡ Some all
    → node_result (slicing (slice_view (unwrap_or slice all_rows))) (first_result most (without_count names all)) ≡ Some made
    → nodes_result (sorted_nodes items most slice) (without_count names rows) ≡ Some made
nodes_make items None None names rows all made is piece = rw is piece
nodes_make items None (Some slice) names rows all made is piece = rw is piece
nodes_make items (Some most) None names rows all made is piece = rw is piece
nodes_make items (Some most) (Some slice) names rows all made is piece = rw is piece

nodes_stay : (items : List Item) (most : Option ℕ) (slice : Option Slice) (picked : Option (List ℕ)) → (is_some most || is_some slice) ≡ true
    → before_order (sorted_nodes items most slice ++ select_nodes picked) ≡ sorted_nodes items most slice ++ select_nodes picked
nodes_stay items None None picked some = absurd (cc)
nodes_stay items (Some most) None None some = refl
nodes_stay items (Some most) None (Some places) some = refl
nodes_stay items most (Some slice) None some = refl
nodes_stay items most (Some slice) (Some places) some = refl

-- the columns of rows in order
selected_alone : (picked : Option (List ℕ)) (names : List (List ℕ)) (rows : List (List CellValue))
    → nodes_result (select_nodes picked) (without_count names rows) ≡ Some (selected_result picked (without_count names rows))
selected_alone None names rows = refl
selected_alone (Some places) names rows = refl

sorted_whole : (picked : Option (List ℕ)) (items : List Item) (names : List (List ℕ)) (rows all : List (List CellValue)) → option_map (selected_rows picked) (ordered items rows) ≡ Some all
    → nodes_result (sorting items ∷ select_nodes picked) (without_count names rows) ≡ Some (without_count (selected_names picked names) all)
sorted_whole picked items names rows all is =
    let some = mapped_of (selected_rows picked) (ordered items rows) all is in
    rw some.1 (selected_alone picked names some.0 ∙ ap (λ rs. Some (without_count (selected_names picked names) rs)) some.2)

-- and as they stood
unsorted : (picked : Option (List ℕ)) (items : List Item) (names : List (List ℕ)) (rows : List (List CellValue))
    → nodes_result (before_order (sorting items ∷ select_nodes picked)) (without_count names rows) ≡ Some (selected_result picked (without_count names rows))
unsorted None items names rows = refl
unsorted (Some places) items names rows = refl

-- if all are asked for, they are given in order, and as they stood
pub sorted_ends : (s : SortedSink) (given : OrderedOf) → s.most ≡ None → s.slice ≡ None
    → given.stored ≡ shown_of (without_count (kept_names s.kept) s.kept.columns.rows) s.shown → given.taken ≡ 0
    → given.rows.names ≡ (shown_of (without_count (kept_names s.kept) s.kept.columns.rows) s.shown).names → given.rows.count ≡ None
    → option_map (selected_rows (shown_places s.shown)) (ordered (sorted_items s) s.kept.columns.rows) ≡ Some given.rows.rows → SinkEnds (sink.Sorted s) given
sorted_ends s given all whole stored untaken names count rows_are =
    let items = sorted_items s in
    let own = kept_names s.kept in
    let picked = shown_places s.shown in
    let nodes = whole_nodes s all whole in
    record {
      given_is = record {
        gives = λ rows has.
            ap (λ ns. nodes_result (ns ++ select_nodes picked) (without_count own rows)) nodes
            ∙ ap (λ rs. nodes_result (sorting items ∷ select_nodes picked) (without_count own rs)) (sym has.rows_are)
            ∙ sorted_whole picked items own s.kept.columns.rows given.rows.rows rows_are
            ∙ ap Some (rows_made (selected_names picked own) given.rows (names ∙ ap (λ (r : RowsOf). r.names) (shown_is s.kept s.shown rows has.rows_are has.shown_is)) count);
      };
      untaken = untaken;
      stored_is = λ rows has.
          ap (λ ns. nodes_result (before_order (ns ++ select_nodes picked)) (without_count own rows)) nodes ∙ unsorted picked items own rows
          ∙ ap Some (sym (stored ∙ shown_is s.kept s.shown rows has.rows_are has.shown_is));
    }

-- else what is asked for of them
pub piece_ends : NodesInTurn → (s : SortedSink) (all made : RowsOf) → (is_some s.most || is_some s.slice) ≡ true
    → all.names ≡ (shown_of (without_count (kept_names s.kept) s.kept.columns.rows) s.shown).names → all.count ≡ None
    → option_map (selected_rows (shown_places s.shown)) (ordered (sorted_items s) s.kept.columns.rows) ≡ Some all.rows
    → node_result (slicing (slice_view (unwrap_or s.slice all_rows))) (first_result s.most all) ≡ Some made
    → SinkEnds (sink.Sorted s) (record { stored = made; rows = made; taken = 0 })
piece_ends law s all made some names count rows_are piece =
    let items = sorted_items s in
    let own = kept_names s.kept in
    let picked = shown_places s.shown in
    let slice = slice_view (unwrap_or s.slice all_rows) in
    let in_order = mapped_of (selected_rows picked) (ordered items s.kept.columns.rows) all.rows rows_are in
    let makes : (rows : List (List CellValue)) → HasPushed (sink.Sorted s) rows → nodes_result (shown_nodes s) (without_count own rows) ≡ Some made =
    λ rows has.
    let from : without_count (selected_names picked own) (selected_rows picked in_order.0) ≡ all =
    ap (without_count (selected_names picked own)) in_order.2
    ∙ rows_made (selected_names picked own) all (names ∙ ap (λ (r : RowsOf). r.names) (shown_is s.kept s.shown rows has.rows_are has.shown_is)) count in
    let cut = selected_piece picked s.most slice own in_order.0 made (ap (λ r. node_result (slicing slice) (first_result s.most r)) from ∙ piece) in
    then_selected law picked (sorted_nodes items s.most s.slice) (without_count own rows) cut.0
    (nodes_make items s.most s.slice own rows in_order.0 cut.0 (ap (ordered items) (sym has.rows_are) ∙ in_order.1) cut.1)
    ∙ ap Some cut.2 in
    record {
      given_is = record { gives = makes };
      untaken = refl;
      stored_is = λ rows has. ap (λ ns. nodes_result ns (without_count own rows)) (nodes_stay items s.most s.slice picked some) ∙ makes rows has;
    }
