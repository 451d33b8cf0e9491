use Rattle.row_columns.proofs.StoreLemmas.{blocks_picked, values_picked}
use Rattle.row_columns.proofs.store.Store.picked.Goals as goal

pub returns-in_ok-pieces_picked-in-Blocks : goal.returns-in_ok-pieces_picked-in-Blocks
returns-in_ok-pieces_picked-in-Blocks c =
    let places = c.args.places.now in
    let kinds = c.in_ok-kinds-in-Blocks.kinds in
    let pieces = c.in_ok-pieces_picked-in-Blocks.field-0 in
    rw c.in-Blocks.is (blocks_picked places c.in-Blocks.kinds kinds c.in-Blocks.pieces pieces
    (rw c.as_slice.ensures.value at c.in_ok-kinds-in-Blocks.ensures) (rw c.as_slice-in-Blocks.ensures.value at c.in_ok-pieces_picked-in-Blocks.ensures))

pub returns-in_ok-picked-in-Values : goal.returns-in_ok-picked-in-Values
returns-in_ok-picked-in-Values c =
    let places = c.args.places.now in
    let new = c.in_ok-picked-in-Values.field-0 in
    rw c.in-Values.is (values_picked places c.in-Values.rows new c.in_ok-picked-in-Values.ensures.width c.in_ok-picked-in-Values.ensures.rows)
