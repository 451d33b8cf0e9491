use Rattle.std.proofs.Common.{◌-◌, ◌<◌, length, vec_len, sym, ◌∙◌, arith}
use Rattle.row_columns.specs.Numbers.{numbers_from}
use Rattle.row_selection.proofs.NumberLemmas.{length-from}
use Rattle.row_columns.proofs.PackedLemmas.{from_last, packed_rows}
use Rattle.row_columns.proofs.StoreLemmas.{some_there}
use Rattle.row_columns.proofs.store.Store.packed.Goals as goal

pub returns : goal.returns
returns c =
    let kinds = c.in-Blocks.field-0 in
    let pieces = c.in-Blocks.pieces in
    let first = c.args.run.0 in
    let count = c.args.run.1 in
    let last = c.len-last.result - 1 in
    let inside : last < length pieces.items = omega (arith, c.len-last.ensures, some_there (vec_len pieces) (sym c.is_empty.ensures ∙ c.if-is_empty.false), pieces.ok.0) in
    rw c.in-Blocks.is (packed_rows pieces.items last c.args.col c.index.result.now c.in_ok-cells.cells.now (numbers_from first count) inside c.index.ensures c.in_ok-cells.ensures
    (omega (arith, c.len-2.ensures, c.if-len-count.false, length-from first count)) (omega (arith, c.if-count-gt-BLOCK_ROWS.false, length-from first count))
    (from_last first count last (omega (arith, c.if-first-last.false))))
