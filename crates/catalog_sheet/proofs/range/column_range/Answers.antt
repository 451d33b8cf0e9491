-- The range of the blocks so far is joined with that of the next.
use Rattle.std.proofs.Common.{◌*◌, ◌+◌, arith, subst, sym, take}
use Rattle.block_summary.specs.declared.block.TheConstants.{BLOCK_ROWS}
use Rattle.block_summary.specs.Ranges.{RangeOf, column_of, IsRangeOf}
use Rattle.catalog_sheet.proofs.RangeLemmas.{block-joined, nulls-within}
use Rattle.catalog_sheet.proofs.range.column_range.Goals as goal

pub join-requires : goal.join-requires
join-requires c =
    let table = c.args.table.now in
    let next = block-joined c.ranges_join.ensures table c.summary-summary-items.result.now c.loop-summary.summary-index c.args.col c.summary-item.result c.loop-summary.range
    c.range.result.now c.summary-summary-items.ensures c.loop-summary-test.true c.summary-item.is c.requires c.range.ensures c.loop-summary.invariant in
    omega (arith, nulls-within _ table.rows ((c.loop-summary.summary-index + 1) * BLOCK_ROWS) c.args.col next, c.rows-rows.ensures, c.rows-rows.type_inv)

pub loop-summary-preserved : goal.loop-summary-preserved
loop-summary-preserved c =
    let table = c.args.table.now in
    let next = block-joined c.ranges_join.ensures table c.summary-summary-items.result.now c.loop-summary.summary-index c.args.col c.summary-item.result c.loop-summary.range
    c.range.result.now c.summary-summary-items.ensures c.loop-summary-test.true c.summary-item.is c.requires c.range.ensures c.loop-summary.invariant in
    subst (λ (r : RangeOf). IsRangeOf r (column_of (take ((c.loop-summary.summary-index + 1) * BLOCK_ROWS) table.rows) c.args.col)) (sym c.in_ok-join.ensures) next
