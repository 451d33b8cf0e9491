-- The first constraint that is there, or none.
use Rattle.std.proofs.Common.{refl, ◌∙◌}
use Rattle.std.proofs.lemmas.Result.{err_from_is_err_and}
use Rattle.csvw_meta.specs.Datatype.{constraint_conditions}
use Rattle.csvw_meta.proofs.RefusalLemmas.{first_cause-one}
use Rattle.csvw_meta.proofs.datatype.check_constraints.Goals as goal

pub returns-in_err-absent : goal.returns-in_err-absent
unfolding constraint_conditions
returns-in_err-absent c =
    let p = err_from_is_err_and c.from_residual.result c.from_residual.ensures.1 in
    rw (p.1, p.2) (rw (← c.in_err-absent.ensures) refl)

pub returns-in_err-absent-2 : goal.returns-in_err-absent-2
unfolding constraint_conditions
returns-in_err-absent-2 c =
    let p = err_from_is_err_and c.from_residual-in_err-absent-2.result c.from_residual-in_err-absent-2.ensures.1 in
    rw (p.1, p.2) (rw (← c.in_ok-absent.ensures, ← c.in_err-absent-2.ensures) refl)

pub returns-in_err-absent-3 : goal.returns-in_err-absent-3
unfolding constraint_conditions
returns-in_err-absent-3 c =
    let p = err_from_is_err_and c.from_residual-in_err-absent-3.result c.from_residual-in_err-absent-3.ensures.1 in
    rw (p.1, p.2) (rw (← c.in_ok-absent.ensures, ← c.in_ok-absent-2.ensures, ← c.in_err-absent-3.ensures) refl)

pub returns-in_err-absent-4 : goal.returns-in_err-absent-4
unfolding constraint_conditions
returns-in_err-absent-4 c =
    let p = err_from_is_err_and c.from_residual-in_err-absent-4.result c.from_residual-in_err-absent-4.ensures.1 in
    rw (p.1, p.2) (rw (← c.in_ok-absent.ensures, ← c.in_ok-absent-2.ensures, ← c.in_ok-absent-3.ensures, ← c.in_err-absent-4.ensures) refl)

pub returns-in_err-absent-5 : goal.returns-in_err-absent-5
unfolding constraint_conditions
returns-in_err-absent-5 c =
    let p = err_from_is_err_and c.from_residual-in_err-absent-5.result c.from_residual-in_err-absent-5.ensures.1 in
    rw (p.1, p.2) (rw (← c.in_ok-absent.ensures, ← c.in_ok-absent-2.ensures, ← c.in_ok-absent-3.ensures, ← c.in_ok-absent-4.ensures, ← c.in_err-absent-5.ensures) refl)

pub returns-in_err-absent-6 : goal.returns-in_err-absent-6
unfolding constraint_conditions
returns-in_err-absent-6 c =
    let p = err_from_is_err_and c.from_residual-in_err-absent-6.result c.from_residual-in_err-absent-6.ensures.1 in
    rw (p.1, p.2) (rw (← c.in_ok-absent.ensures, ← c.in_ok-absent-2.ensures, ← c.in_ok-absent-3.ensures, ← c.in_ok-absent-4.ensures, ← c.in_ok-absent-5.ensures, ← c.in_err-absent-6.ensures) refl)

pub returns-in_err-absent-7 : goal.returns-in_err-absent-7
unfolding constraint_conditions
returns-in_err-absent-7 c =
    let p = err_from_is_err_and c.from_residual-in_err-absent-7.result c.from_residual-in_err-absent-7.ensures.1 in
    rw (p.1, p.2) (rw (← c.in_ok-absent.ensures, ← c.in_ok-absent-2.ensures, ← c.in_ok-absent-3.ensures, ← c.in_ok-absent-4.ensures, ← c.in_ok-absent-5.ensures, ← c.in_ok-absent-6.ensures, ← c.in_err-absent-7.ensures) refl)

pub returns-in_err-absent-8 : goal.returns-in_err-absent-8
unfolding constraint_conditions
returns-in_err-absent-8 c =
    let p = err_from_is_err_and c.from_residual-in_err-absent-8.result c.from_residual-in_err-absent-8.ensures.1 in
    rw (p.1, p.2) (rw (← c.in_ok-absent.ensures, ← c.in_ok-absent-2.ensures, ← c.in_ok-absent-3.ensures, ← c.in_ok-absent-4.ensures, ← c.in_ok-absent-5.ensures, ← c.in_ok-absent-6.ensures, ← c.in_ok-absent-7.ensures, ← c.in_err-absent-8.ensures) refl)

pub returns : goal.returns
unfolding constraint_conditions
returns c =
    rw (← c.in_ok-absent.ensures, ← c.in_ok-absent-2.ensures, ← c.in_ok-absent-3.ensures, ← c.in_ok-absent-4.ensures, ← c.in_ok-absent-5.ensures, ← c.in_ok-absent-6.ensures, ← c.in_ok-absent-7.ensures, ← c.in_ok-absent-8.ensures)
    (c.absent-9.ensures ∙ first_cause-one _)
