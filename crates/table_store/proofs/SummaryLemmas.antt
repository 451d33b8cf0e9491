-- The ranges of the columns of the blocks of a table.
use Rattle.std.proofs.Common.{◌≡◌, inl, inr, ℕ, ◌+◌, ◌*◌, ◌<◌, List, [], ◌∷◌, ◌++◌, get_or, length, take, drop, ap, sym, subst, ◌∙◌, arith}
use Rattle.std.proofs.lemmas.Bool.{cases_order}
use Rattle.std.proofs.lemmas.List.{get_or_push}
use Rattle.std.proofs.Math.ListN.{get_or-append}
use Rattle.block_summary.specs.declared.block.TheConstants.{BLOCK_ROWS}
use Rattle.block_summary.specs.Ranges.{RangeOf, no_range, IsRangeOf}
use Rattle.cell_types.specs.Value.{CellValue}
use Rattle.table_store.specs.Block.{block_count, block_of}
use Rattle.table_store.specs.Summaries.{cells_by_column, AreFirstRanges, AreRangesAt, AreSummariesOf, IsSummaryOf}
use Rattle.table_store.specs.Table.{TableOf}
use Rattle.column_blocks.specs.TypedColumn.{AreTyped, ColumnCells}
use Rattle.table_store.proofs.BlockLemmas.{column_of-part}
use Rattle.table_store.proofs.ColumnLemmas.{cells_by_column-at}

-- what holds of each of a list, and of one more, holds of each of the longer list
pub push_each : {X : Type 0} (P : ℕ → X → Type 0) (xs : List X) (x d : X) (n : ℕ) → length xs ≡ n → ((k : ℕ) → k < n → P k (get_or xs k d)) → P n x
    → (k : ℕ) → k < n + 1 → P k (get_or (xs ++ x ∷ []) k d)
push_each P xs x d n size before here k within =
    elim (cases_order k n) [
      | inl same ↦ subst (P k) (sym (get_or_push xs x d k (size ∙ sym same))) (subst (λ i. P i x) (sym same) here)
      | inr (inl less) ↦ subst (P k) (sym (get_or-append xs (x ∷ []) d k (omega (arith, less, size)))) (before k less)
      | inr (inr more) ↦ absurd (omega (arith, more, within))
    ]

-- the cells of a column in a block
abbrev pub block_cells : List ColumnCells → ℕ → ℕ → List CellValue
block_cells columns number col = take BLOCK_ROWS (drop (number * BLOCK_ROWS) (get_or (cells_by_column columns) col []))

-- the ranges by block of the columns of a table are its summaries
is_summary : (table : TableOf) (typed : List ColumnCells) (number : ℕ) (ranges : List RangeOf) → AreTyped table.schema.columns table.rows typed
    → AreRangesAt number typed ranges → IsSummaryOf (block_of table number) ranges
is_summary table typed number ranges are at = record {
  width = at.width ∙ are.count;
  each = λ col within.
      let first = number * BLOCK_ROWS in
      let inside : col < length typed = omega (arith, within, at.width) in
      let cells = cells_by_column-at table.schema.columns table.rows typed are col (omega (arith, inside, are.count)) in
      subst (IsRangeOf (get_or ranges col no_range))
      (ap (λ (cs : List CellValue). take BLOCK_ROWS (drop first cs)) cells ∙ sym (column_of-part table.rows first BLOCK_ROWS col)) (at.each col inside);
}

pub are_summaries : (table : TableOf) (typed : List ColumnCells) (rows : ℕ) (summaries : List (List RangeOf)) → AreTyped table.schema.columns table.rows typed
    → length table.rows ≡ rows → AreFirstRanges typed summaries → length summaries ≡ block_count rows → AreSummariesOf table summaries
are_summaries table typed rows summaries are size first all = record {
  count = all ∙ ap block_count (sym size);
  each = λ number within. is_summary table typed number (get_or summaries number []) are (first number within);
}
