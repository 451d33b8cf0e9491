use Rattle.std.proofs.Common.{◌+◌, subst, sym}
use Rattle.result_rows.proofs.PieceLemmas.{goes_on, TakesRows}
use Rattle.result_rows.proofs.cut.next_numbers.Goals as goal

pub loop-preserved : goal.loop-preserved
loop-preserved c =
    let rows = c.args.columns.now.rows in
    subst (TakesRows rows c.args.order c.args.most (c.loop.counter + 1) c.next.new.self) (sym c.in_ok-push.ensures.items)
    (goes_on rows c.args.order c.args.most c.loop.counter c.loop.order c.next.new.self c.loop.numbers.items c.in-Some.number c.loop.invariant c.loop-test.true c.in-Some.ensures)
