use Rattle.std.proofs.Common.{◌-◌, ◌<◌, arith, length, sym, vec_len, ◌∙◌}
use Rattle.row_columns.specs.Numbers.{numbers_from}
use Rattle.row_selection.proofs.NumberLemmas.{length-from}
use Rattle.row_columns.proofs.CodeLemmas.{all_of_last}
use Rattle.row_columns.proofs.PackedLemmas.{from_last}
use Rattle.row_columns.proofs.StoreLemmas.{some_there}
use Rattle.row_columns.proofs.store.Store.codes.Goals as goal

pub returns : goal.returns
returns c =
    let pieces = c.in-Blocks.pieces in
    let first = c.args.run.0 in
    let count = c.args.run.1 in
    let last = c.len-last.result - 1 in
    let inside : last < length pieces.items = omega (arith, c.len-last.ensures, some_there (vec_len pieces) (sym c.is_empty.ensures ∙ c.if-is_empty.false), pieces.ok.0) in
    rw (c.in_ok-all.ensures.items, c.in-Blocks.is)
    (all_of_last pieces.items last c.args.col c.index.result.now c.in-Some.codes.now (numbers_from first count) inside c.index.ensures c.in-Some.ensures
    (omega (arith, c.if-codes-count.false, length-from first count)) (omega (arith, c.if-count-gt-BLOCK_ROWS.false, length-from first count))
    (from_last first count last (omega (arith, c.if-first-last.false))))
