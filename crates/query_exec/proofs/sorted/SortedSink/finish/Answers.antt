use Rattle.std.proofs.Common.{◌≡◌, ◌||◌, arith, rules, true}
use Rattle.std.specs.Prelude.{is_some}
use Rattle.query_exec.specs.Sink.{sorted_items}
use Rattle.query_exec.proofs.SortedLemmas.{piece_ends, shown_are, sorted_ends}
use Rattle.query_exec.proofs.FaultLemmas.{sorted_faults}
use Rattle.query_exec.proofs.sorted.SortedSink.finish.Goals as goal
use Rattle.query_exec.proofs.sorted.SortedSink.finish.Goals.{else-is_none-via-then-is_none+else-is_none-2, else-is_none-via-else-is_none}

pub finish-requires : goal.finish-requires
finish-requires c = (sorted_items c.args.self, c.requires.pushed.runs_are)

pub returns-in_err-order : goal.returns-in_err-order
returns-in_err-order c =
    let given = sorted_faults c.args.self c.in_err-order.field-0.0 c.in_err-order.ensures in
    search (rules, given)

pub in_order-rows-requires-clause-order : goal.in_order-rows-requires-clause-order
in_order-rows-requires-clause-order c =
    (sorted_items c.args.self, rw c.into_rows.ensures (c.in_ok-order.ensures (sorted_items c.args.self) c.requires.pushed.runs_are))

pub in_order-rows-requires-clause-shown : goal.in_order-rows-requires-clause-shown
in_order-rows-requires-clause-shown c =
    let s = c.args.self in
    rw c.into_rows.ensures (shown_are s.kept s.shown c.requires.rows c.requires.width c.requires.pushed.rows_are c.requires.pushed.shown_is)

pub piece_of-requires : goal.piece_of-requires
piece_of-requires c = c.in_order-rows.ensures.taken

pub returns : goal.returns
returns c =
    let s = c.args.self in
    let given = c.in_order-rows.ensures in
    let some : (is_some s.most || is_some s.slice) ≡ true = elim c.else-is_none.branch [
      | else-is_none-via-then-is_none+else-is_none-2 w ↦ grind (arith, w.is_none-then-is_none.ensures, w.if-is_none-2.false)
      | else-is_none-via-else-is_none w ↦ grind (arith, c.is_none.ensures, w.if-is_none.false)
    ] in
    rw c.stored.ensures (piece_ends c.nodes_in_turn.ensures s c.in_order-rows.result.rows c.in_ok-piece.piece some
    (rw c.into_rows.ensures at given.names) (rw c.into_rows.ensures at given.count)
    (rw c.into_rows.ensures at (given.rows (sorted_items s) (rw c.into_rows.ensures (c.in_ok-order.ensures (sorted_items s) c.requires.pushed.runs_are))))
    (rw c.unwrap_or.ensures at c.in_ok-piece.ensures))

pub returns-then-is_none-2 : goal.returns-then-is_none-2
returns-then-is_none-2 c =
    let s = c.args.self in
    let given = c.in_order-rows.ensures in
    sorted_ends s c.in_order-rows.result (grind (arith, c.is_none.ensures, c.if-is_none.true)) (grind (arith, c.is_none-then-is_none.ensures, c.if-is_none-2.true))
    (rw c.into_rows.ensures at given.stored) given.taken (rw c.into_rows.ensures at given.names) (rw c.into_rows.ensures at given.count)
    (rw c.into_rows.ensures at (given.rows (sorted_items s) (rw c.into_rows.ensures (c.in_ok-order.ensures (sorted_items s) c.requires.pushed.runs_are))))
