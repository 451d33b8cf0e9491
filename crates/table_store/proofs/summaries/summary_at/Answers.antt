use Rattle.std.proofs.Common.{◌≡◌, ◌<◌, ◌*◌, ℕ, [], ◌∷◌, List, get_or, length, length-append, take, drop, ap, sym, subst, ◌∙◌, arith}
use Rattle.block_summary.specs.declared.block.TheConstants.{BLOCK_ROWS}
use Rattle.block_summary.specs.Ranges.{RangeOf, no_range, IsRangeOf}
use Rattle.cell_types.specs.Value.{CellValue}
use Rattle.column_blocks.specs.TypedColumn.{ColumnCells}
use Rattle.table_store.specs.Summaries.{AreRangesAt}
use Rattle.table_store.proofs.ColumnLemmas.{get_cells}
use Rattle.table_store.proofs.SummaryLemmas.{block_cells, push_each}
use Rattle.table_store.proofs.summaries.summary_at.Goals as goal

pub range-requires : goal.range-requires
range-requires c =
    subst (λ (column : ColumnCells). c.args.number * BLOCK_ROWS < length column.cells) (sym c.column-item.is)
    (c.requires c.loop-column.column-index c.column-item.result c.loop-column-test.true)

pub loop-column-init : goal.loop-column-init
loop-column-init c = record { count = ap length c.in_ok-ranges.ensures.items; each = λ col within. absurd (omega (arith, within)) }

pub loop-column-preserved : goal.loop-column-preserved
loop-column-preserved c =
    let col = c.loop-column.column-index in
    let old : List RangeOf = c.loop-column.ranges.items in
    let range : RangeOf = c.in_ok-range.field-0 in
    let number = c.args.number in
    let Is : ℕ → RangeOf → Type 0 = λ k r. IsRangeOf r (block_cells c.args.columns.now number k) in
    let cells = get_cells c.args.columns.now col c.column-item.result c.loop-column-test.true c.column-item.is in
    let here : Is col range = subst (λ (cs : List CellValue). IsRangeOf range (take BLOCK_ROWS (drop (number * BLOCK_ROWS) cs))) (sym cells) c.in_ok-range.ensures in
    record {
      count = omega (arith, ap length c.in_ok-push.ensures.items, length-append old (range ∷ []), c.loop-column.invariant.count);
      each = λ k within.
          subst (λ (ranges : List RangeOf). Is k (get_or ranges k no_range)) (sym c.in_ok-push.ensures.items)
          (push_each Is old range no_range col c.loop-column.invariant.count c.loop-column.invariant.each here k within);
    }

pub returns : goal.returns
returns c =
    let all : c.loop-column.column-index ≡ length c.args.columns.now = omega arith in
    subst (AreRangesAt c.args.number c.args.columns.now) (sym c.of_ranges.ensures)
    (record { width = c.loop-column.invariant.count ∙ all; each = λ col within. c.loop-column.invariant.each col (omega (arith, within, all)) })
