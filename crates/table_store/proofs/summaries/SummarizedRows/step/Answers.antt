use Rattle.std.proofs.Common.{◌<◌, ◌*◌, ℕ, [], ◌∷◌, List, All, get_or, length, length-append, ap, sym, subst, arith}
use Rattle.block_summary.specs.declared.block.TheConstants.{BLOCK_ROWS}
use Rattle.block_summary.specs.Ranges.{RangeOf}
use Rattle.column_blocks.specs.TypedColumn.{ColumnCells}
use Rattle.table_store.specs.Summaries.{AreRangesAt}
use Rattle.table_store.proofs.SummaryLemmas.{push_each}
use Rattle.table_store.proofs.summaries.SummarizedRows.step.Goals as goal

pub summary_at-requires : goal.summary_at-requires
summary_at-requires c =
    subst (All (λ (column : ColumnCells). c.loop-number.number * BLOCK_ROWS < length column.cells)) (sym c.as_slice.ensures.value)
    (λ k d within. omega (arith, c.requires.columns k d within, c.loop-number-test.true))

pub loop-number-preserved : goal.loop-number-preserved
loop-number-preserved c =
    let number = c.loop-number.number in
    let old : List (List RangeOf) = c.loop-number.summaries.items in
    let summary : List RangeOf = c.in_ok-summary_at.field-0 in
    let At : ℕ → List RangeOf → Type 0 = λ k ranges. AreRangesAt k c.args.self.rows.columns.items ranges in
    let none : List RangeOf = [] in
    let size = c.loop-number.invariant.count in
    let here = subst (λ columns. AreRangesAt number columns summary) c.as_slice.ensures.value c.in_ok-summary_at.ensures in
    let long = length-append old (summary ∷ []) in
    record {
      count = omega (arith, ap length c.in_ok-push.ensures.items, long, size);
      first = subst (λ (ranges : List (List RangeOf)). (k : ℕ) → k < length ranges → At k (get_or ranges k none)) (sym c.in_ok-push.ensures.items)
          (λ k within. push_each At old summary none number size (λ k less. c.loop-number.invariant.first k (omega (arith, less, size))) here k
          (omega (arith, within, long, size)));
    }
