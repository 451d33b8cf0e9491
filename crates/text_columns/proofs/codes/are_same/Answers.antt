use Rattle.std.proofs.Common.{Some, sym, ap, ◌∙◌}
use Rattle.std.proofs.lemmas.Slice.Eq.{bytes_eq-Decides}
use Rattle.text_columns.proofs.codes.are_same.Goals as goal

pub returns-in-Some-Some : goal.returns-in-Some-Some
returns-in-Some-Some c same =
    rw (c.in-Some-Some.is-0, c.in-Some-Some.is-1) (ap Some ((bytes_eq-Decides c.in-Some-Some.left.now c.in-Some-Some.right.now).0 (sym c.eq.ensures ∙ same)))
