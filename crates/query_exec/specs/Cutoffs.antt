-- The condition that tells which rows of a block come too late after those that a sink keeps of an order.
use Rattle.std.specs.Prelude.{◌≡◌, ℕ, false, List, Option, Some, None, IfSome, map, slice_get}
use Rattle.cell_types.specs.Value.{CellValue}
use Rattle.typed_trees.specs.TypedTree.{TruthExprOf, truth_view}
use Rattle.odata_query.specs.Query.{order_view}
use Rattle.row_eval.specs.Bounds.{TruthFits}
use Rattle.query_meaning.specs.Filter.{passes}
use Rattle.query_meaning.specs.Order.{Item}
use Rattle.row_columns.specs.Picked.{values_at}
use Rattle.sort_rows.specs.Cutoffs.{first_place, ComesLate, HasCalendarDays}
use Rattle.result_rows.specs.declared.kept.Kept.{Kept}
use Rattle.query_exec.specs.declared.top_n.TopNSink.{TopNSink}
use Rattle.result_rows.specs.Kept.{kept_places}

-- the column of a block that is kept in a place
abbrev pub IsSourceOf : Option (List ℕ) → ℕ → ℕ → Type 0
IsSourceOf None place col = col ≡ place
IsSourceOf (Some places) place col = slice_get places place ≡ Some col

-- the column of a block that the first of items on the kept columns is
pub record IsFirstColumn (items : List Item) (kept : Kept) (col : ℕ) : Type 0 where
  pub place : ℕ
  pub first : first_place items ≡ Some place
  pub source : IsSourceOf (kept_places kept) place col

-- the values of a row of a block that are kept
abbrev pub selected_row : Option (List ℕ) → List CellValue → List CellValue
selected_row None row = row
selected_row (Some places) row = values_at places row

-- a row of a block on which the condition is not true comes late after the rows that are kept; the condition computes no number
pub record CutsOff (items : List Item) (most : ℕ) (kept : Kept) (e : TruthExprOf) : Type 0 where
  pub fits : (row : List CellValue) → TruthFits e row
  pub late : (row : List CellValue) → HasCalendarDays row → passes e row ≡ false → ComesLate items most kept.columns.rows (selected_row (kept_places kept) row)

-- so it is with the condition of a sink, where it has one
abbrev pub HasCutoff : TopNSink → Type 0
HasCutoff sink = IfSome sink.cutoff (λ e. CutsOff (map order_view sink.items.items) sink.most sink.kept (truth_view e))
