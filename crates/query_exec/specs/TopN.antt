-- The rows that a sink keeps of an order.
use Rattle.std.specs.Prelude.{◌≡◌, ◌<◌, ◌++◌, ℕ, List, Some, length}
use Rattle.std.specs.List.{All}
use Rattle.cell_types.specs.Value.{CellValue}
use Rattle.row_columns.specs.Picked.{numbered}
use Rattle.sort_rows.specs.Best.{best_rows}
use Rattle.query_exec.specs.declared.top_n.TopNSink.{TopNSink}
use Rattle.query_exec.specs.Cutoffs.{HasCutoff}
use Rattle.query_exec.specs.Items.{ItemsFit}
use Rattle.result_rows.specs.Kept.{kept_places, HasSameColumns}
use Rattle.result_rows.specs.Selected.{selected_rows}
use Rattle.query_exec.specs.Sink.{sink_items}

-- of the rows of a block by their numbers the new ones are enough after those that are kept
pub record AreTimely (sink : TopNSink) (rows : List (List CellValue)) (old new : List ℕ) : Type 0 where
  pub within : All (λ n. n < length rows) new
  pub first : best_rows (sink_items sink) sink.most (sink.kept.columns.rows ++ selected_rows (kept_places sink.kept) (numbered new rows))
      ≡ best_rows (sink_items sink) sink.most (sink.kept.columns.rows ++ selected_rows (kept_places sink.kept) (numbered old rows))
  pub fit : ItemsFit (sink_items sink) (selected_rows (kept_places sink.kept) (numbered old rows)) → ItemsFit (sink_items sink) (selected_rows (kept_places sink.kept) (numbered new rows))

-- these are the numbers of the first of the rows that are kept
pub record AreBestOf (sink : TopNSink) (numbers : List ℕ) : Type 0 where
  pub within : All (λ n. n < length sink.kept.columns.rows) numbers
  pub rows : best_rows (sink_items sink) sink.most sink.kept.columns.rows ≡ Some (numbered numbers sink.kept.columns.rows)

-- of the rows that are kept some are let go, of which none is among the first
pub record HasCutRows (old new : TopNSink) : Type 0 where
  pub items : new.items ≡ old.items
  pub most : new.most ≡ old.most
  pub columns : HasSameColumns old.kept new.kept
  pub fit : ItemsFit (sink_items old) new.kept.columns.rows
  pub cutoff : HasCutoff new
  pub first : best_rows (sink_items old) old.most new.kept.columns.rows ≡ best_rows (sink_items old) old.most old.kept.columns.rows

-- the rows that are kept are the first of others
pub record AreFirst (sink : TopNSink) : Type 0 where
  pub rows : List (List CellValue)
  pub best : best_rows (sink_items sink) sink.most rows ≡ Some sink.kept.columns.rows
