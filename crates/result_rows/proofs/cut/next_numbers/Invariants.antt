use Rattle.result_rows.proofs.PieceLemmas.{TakesRows}
use Rattle.result_rows.proofs.cut.next_numbers.Given as goal

-- the numbers so far
abbrev pub invariant-loop : goal.invariant-loop
invariant-loop l = TakesRows l.columns.rows l.initial.order l.most l.counter l.order l.numbers.items
