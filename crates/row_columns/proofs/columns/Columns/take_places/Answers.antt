use Rattle.row_columns.proofs.RowLemmas.{rows_with, within_with}
use Rattle.row_columns.proofs.columns.Columns.take_places.Goals as goal

pub invariant_of-self-2 : goal.invariant_of-self-2
invariant_of-self-2 c =
    let taken = rw c.replace-store.ensures.value at c.in_ok-start.ensures.taken in
    record {
      wide = taken.wide;
      within = rw (c.in_ok-append.ensures, c.replace-kept.ensures.value) (within_with _ _ c.self.inside.numbers _ _ taken c.self.invariant.within);
    }

pub returns-clause-rows : goal.returns-clause-rows
returns-clause-rows c =
    let taken = rw c.replace-store.ensures.value at c.in_ok-start.ensures.taken in
    rw (c.in_ok-append.ensures, c.replace-kept.ensures.value, ← c.self.view_is) (rows_with _ _ c.self.inside.numbers _ _ taken c.self.invariant.within)
