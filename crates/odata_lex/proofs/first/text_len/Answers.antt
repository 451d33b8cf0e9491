use Rattle.std.proofs.Common.{◌≡◌, sym, length, arith}
use Rattle.odata_lex.proofs.Texts.{quote_at, other_at, closed_at, end_at}
use Rattle.odata_lex.proofs.first.text_len.Goals as goal
use Rattle.odata_lex.proofs.first.text_len.Goals.{then-b-eq39, else-b-eq39+else-closed}

pub returns-then-closed-clause-value : goal.returns-then-closed-clause-value
returns-then-closed-clause-value c = closed_at _ _ _ c.loop-i-test.true c.if-b-eq39.false (rw c.if-closed.true at c.loop-i.invariant)

pub loop-i-preserved : goal.loop-i-preserved
loop-i-preserved c = elim c.if-b-eq39.branch [
  | then-b-eq39 w ↦ rw w.closed-is (quote_at _ _ _ _ c.loop-i-test.true w.if-b-eq39.true c.loop-i.invariant)
  | else-b-eq39+else-closed w ↦ rw (w.closed-is, w.if-closed.false) (other_at _ _ _ c.loop-i-test.true w.if-b-eq39.false (rw w.if-closed.false at c.loop-i.invariant))
]

pub returns-then-closed-2-clause-value : goal.returns-then-closed-2-clause-value
returns-then-closed-2-clause-value c =
    let all : c.loop-i.i ≡ length c.args.text.now = omega arith in
    let so_far = rw all at c.loop-i.invariant in let found = end_at _ c.args.text.now c.loop-i.closed so_far in sym (rw c.if-closed-2.true at found)

pub returns-else-closed-2-clause-value : goal.returns-else-closed-2-clause-value
returns-else-closed-2-clause-value c =
    let all : c.loop-i.i ≡ length c.args.text.now = omega arith in
    let so_far = rw all at c.loop-i.invariant in let found = end_at _ c.args.text.now c.loop-i.closed so_far in sym (rw c.if-closed-2.false at found)
