-- Aggregates of rows, or of groups of them.
use Rattle.std.proofs.Common.{◌≡◌, ℕ, ◌<◌, ◌^◌, Option, Some, None, List, [], ◌++◌, length, map, refl, sym, ap, ◌∙◌}
use Rattle.std.specs.Prelude.{IfSome}
use Rattle.std.specs.Borrow.{Bor}
use Rattle.std.specs.List.{All}
use Rattle.std.proofs.lemmas.List.{length-append, length-map}
use Rattle.cell_types.specs.Value.{CellValue}
use Rattle.odata_query.specs.declared.aggregate.Aggregate.{Aggregate}
use Rattle.odata_query.specs.declared.aggregate.Aggregate.TheVariants.{Count}
use Rattle.odata_query.specs.Aggregate.{NamedAggregateOf, aggregates_view}
use Rattle.odata_query.specs.Query.{optional_numbers}
use Rattle.query_meaning.specs.Meaning.{ResultOf}
use Rattle.query_plan.specs.Fitting.{AggregateFits, IsFitNode}
use Rattle.query_plan.specs.Plan.{node_names, node_result}
use Rattle.table_store.specs.Table.{TableOf}
use Rattle.row_columns.specs.Picked.{numbered}
use Rattle.row_selection.specs.Numbers.{numbers_from}
use Rattle.aggregate_rows.specs.declared.aggregator.Aggregator.{Aggregator}
use Rattle.aggregate_rows.specs.Gathered.{gathered_rows, gathered_width, lent_places, Adjoins, Gathers, HasGatheredRows, MayJoin}
use Rattle.aggregate_rows.specs.Tallies.{FitsAll}
use Rattle.block_filter.specs.declared.block.Passed.{Passed}
use Rattle.query_exec.specs.declared.aggregate.AggregateSink.{AggregateSink}
use Rattle.result_rows.specs.declared.kept.Kept.{Kept}
use Rattle.query_exec.specs.declared.sink.Sink.TheVariants as sink
use Rattle.query_exec.specs.Steps.{aggregate_node, without_count}
use Rattle.result_rows.specs.Kept.{kept_names, kept_places, HasKept, HasSameColumns}
use Rattle.result_rows.specs.Selected.{selected_rows}
use Rattle.query_exec.specs.Sink.{MayPush, PushesOn, SinkGives}
use Rattle.result_rows.proofs.SelectedLemmas.{as_many_rows, selected_numbers}
use Rattle.result_rows.proofs.KeptLemmas.{as_many}
use Rattle.row_columns.proofs.NumberedLaws.{all_numbered, all_within}

-- ---- the step

-- a column for each name
pub names_wide : (places : Option (List ℕ)) (aggregates : List NamedAggregateOf) (names : List (List ℕ))
    → length (node_names (aggregate_node places aggregates) names) ≡ gathered_width places aggregates
names_wide None aggregates names = length-map aggregates (λ a. a.alias)
names_wide (Some places) aggregates names = simp (length-append, length-map) refl

pub names_as_wide : {S : Type 0} (view : S → List ℕ) (places : Option (List ℕ)) (aggregates : List NamedAggregateOf) (names : List (List ℕ)) (made : List S)
    → map view made ≡ node_names (aggregate_node places aggregates) names → gathered_width places aggregates ≡ length made
names_as_wide view places aggregates names made is = sym (names_wide places aggregates names) ∙ sym (ap length is) ∙ length-map made view

-- what it makes of a result
pub aggregate_made : (places : Option (List ℕ)) (aggregates : List NamedAggregateOf) (r : ResultOf)
    → node_result (aggregate_node places aggregates) r
    ≡ Some (record r { names = node_names (aggregate_node places aggregates) r.names; rows = gathered_rows places aggregates r.rows })
aggregate_made None aggregates r = refl
aggregate_made (Some places) aggregates r = refl

-- and where it is made
pub aggregate_makes : (places : Option (List ℕ)) (aggregates : List NamedAggregateOf) (r made : ResultOf)
    → made.names ≡ node_names (aggregate_node places aggregates) r.names → made.rows ≡ gathered_rows places aggregates r.rows → made.count ≡ r.count
    → node_result (aggregate_node places aggregates) r ≡ Some made
aggregate_makes places aggregates r made names rows count =
    aggregate_made places aggregates r ∙ rw (← names, ← rows, ← count) refl

-- it fits a result of `width` columns
aggregate_fits : (r : ResultOf) (width : ℕ) → length r.names ≡ width → length r.rows < 2 ^ 64 → (a : Aggregate) → AggregateFits r a → FitsAll width r.rows a
aggregate_fits r width long few Count fit = few
aggregate_fits r width long few a fit = rw long at fit

module _ (r : ResultOf) (width : ℕ) (long : length r.names ≡ width) where
  pub aggregates_fit : (places : Option (List ℕ)) (aggregates : List NamedAggregateOf) → length r.rows < 2 ^ 64 → IsFitNode (aggregate_node places aggregates) r
      → All (λ a. FitsAll width r.rows a.aggregate) aggregates
  aggregates_fit None aggregates few fit = λ k d h. aggregate_fits r width long few _ (fit k d h)
  aggregates_fit (Some places) aggregates few fit = λ k d h. aggregate_fits r width long few _ (fit.1 k d h)

  pub places_fit : (places : Option (List ℕ)) (aggregates : List NamedAggregateOf) → IsFitNode (aggregate_node places aggregates) r
      → IfSome places (All (λ place. place < width))
  places_fit None aggregates fit = tt
  places_fit (Some places) aggregates fit = rw long at fit.0

  pub lent_fit : (places : Option (Bor (List ℕ))) (aggregates : List NamedAggregateOf) → IsFitNode (aggregate_node (lent_places places) aggregates) r
      → IfSome places (λ ps. All (λ place. place < width) ps.now)
  lent_fit None aggregates fit = tt
  lent_fit (Some places) aggregates fit = rw long at fit.0

-- ---- rows that are gathered

-- rows may join those that were, where it fits all of them
pub may_join : (places : Option (List ℕ)) (aggregates : List NamedAggregateOf) (g : Aggregator) (before more : List (List CellValue)) (names : List (List ℕ)) (width : ℕ)
    → Gathers g places aggregates before → length names ≡ width → length (before ++ more) < 2 ^ 64
    → IsFitNode (aggregate_node places aggregates) (without_count names (before ++ more)) → MayJoin g width more
may_join places aggregates g before more names width gathers long few fit = record {
  places = places;
  aggregates = aggregates;
  rows = before;
  gathers = gathers;
  within = places_fit (without_count names (before ++ more)) width long places aggregates fit;
  fits = aggregates_fit (without_count names (before ++ more)) width long places aggregates few fit;
}

-- the rows of a block join them, and none is kept
pub aggregate_pushed : (old new : AggregateSink) (rows more : List (List CellValue)) (found : Passed) → new.places ≡ old.places → new.aggregates ≡ old.aggregates
    → HasSameColumns old.kept new.kept → new.kept.columns.rows ≡ []
    → more ≡ selected_rows (kept_places old.kept) (numbered found.rows rows) → Adjoins old.aggregator new.aggregator more → PushesOn (sink.Aggregate old) (sink.Aggregate new) rows found
aggregate_pushed old new rows more found places aggregates columns none more_is joins = record {
  nodes = rw (places, aggregates) refl;
  columns = columns;
  pushed = λ before passing are has. record {
    gathers = rw (places, aggregates) (rw (more_is, are.first) at (joins (optional_numbers old.places) (aggregates_view old.aggregates) before has.gathers));
    none = none;
  };
}

-- ---- the rows of a block, and the end

pub numbers_within : (numbers : List ℕ) (len : ℕ) → numbers ≡ numbers_from 0 len → All (λ n. n < len) numbers
numbers_within numbers len is = rw is (all_within len)

module _ (old : AggregateSink) (kept : Kept) (block : TableOf) (found : Passed) (numbers : List ℕ) (may : MayPush (sink.Aggregate old) block found)
    (has : HasKept old.kept kept (selected_rows (kept_places old.kept) (numbered numbers block.rows))) (is : numbers ≡ numbers_from 0 (length block.rows)) where
  -- the rows of the block are kept, all of them and no others
  kept_rows : kept.columns.rows ≡ selected_rows (kept_places old.kept) block.rows
  kept_rows = rw (has.rows, may.pushed.none, is, all_numbered block.rows) refl

  pub found_within : All (λ n. n < length kept.columns.rows) found.rows
  found_within = rw (kept_rows, as_many_rows (kept_places old.kept) block.rows) may.are_found.within

  pub block_rows : numbered found.rows kept.columns.rows ≡ selected_rows (kept_places old.kept) (numbered found.rows block.rows)
  block_rows = rw kept_rows (selected_numbers (kept_places old.kept) block.rows found.rows may.are_found.within)

  pub block_may_join : MayJoin old.aggregator (length kept.columns.kinds) (numbered found.rows kept.columns.rows)
  block_may_join =
      let more = selected_rows (kept_places old.kept) may.passing in
      rw (block_rows, may.are_found.first)
      (may_join (optional_numbers old.places) (aggregates_view old.aggregates) old.aggregator may.before more (kept_names old.kept) (length kept.columns.kinds) may.pushed.gathers
      (sym (as_many old.kept block.schema may.columns) ∙ sym (ap length has.same.kinds)) may.few may.fits.0)

-- what is gathered of all rows that joined, under its names
pub gathered_finishes : (s : AggregateSink) (made : ResultOf)
    → made.names ≡ node_names (aggregate_node (optional_numbers s.places) (aggregates_view s.aggregates)) (kept_names s.kept) → HasGatheredRows s.aggregator made.rows
    → made.count ≡ None → SinkGives (sink.Aggregate s) made
gathered_finishes s made names gathered count = record {
  gives = λ all has.
      let places = optional_numbers s.places in
      let aggregates = aggregates_view s.aggregates in
      rw (aggregate_makes places aggregates (without_count (kept_names s.kept) all) made names (gathered places aggregates all has.gathers) count) refl;
}
