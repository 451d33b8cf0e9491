use Rattle.query_exec.proofs.steps.apply.Goals as goal

pub returns-in_ok-into_rows-in-Sort : goal.returns-in_ok-into_rows-in-Sort
returns-in_ok-into_rows-in-Sort c = rw c.in-Sort.is (rw (c.deref-in-Sort.ensures.value, c.in_ok-into_rows-in-Sort.ensures) at c.sort.ensures)

pub returns-in_ok-into_rows-in-Best : goal.returns-in_ok-into_rows-in-Best
returns-in_ok-into_rows-in-Best c = rw c.in-Best.is (rw (c.deref-in-Best.ensures.value, c.in_ok-into_rows-in-Best.ensures) at c.best.ensures)
