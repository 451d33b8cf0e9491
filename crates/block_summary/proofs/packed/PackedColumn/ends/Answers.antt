use Rattle.std.proofs.Common.{sym, subst, rules, w64}
use Rattle.std.specs.Prelude.{FitsSigned}
use Rattle.std.proofs.lemmas.Int.{to_z-of_z}
use Rattle.block_summary.specs.Ranges.{AreAllNull, IsGreatest, IsLeast}
use Rattle.block_summary.proofs.RangeLemmas.{greatest-cell, least-cell, null-cells}
use Rattle.block_summary.proofs.packed.PackedColumn.ends.Goals as goal

pub returns-in-Some-clause-least : goal.returns-in-Some-clause-least
returns-in-Some-clause-least c =
    let fits : FitsSigned w64 c.in-Some.bounds.least = search rules in
    subst (λ v. IsLeast v c.args.self.now) (sym (simp to_z-of_z at c.typed_value.ensures))
    (subst (IsLeast _) c.self.view_is (least-cell c.numbers_stand_for_cells.ensures c.self.inside.kind c.self.inside.numbers c.in-Some.bounds.least c.in-Some.bounds.greatest c.self.invariant c.in-Some.ensures))

pub returns-in-Some-clause-greatest : goal.returns-in-Some-clause-greatest
returns-in-Some-clause-greatest c =
    let fits : FitsSigned w64 c.in-Some.bounds.greatest = search rules in
    subst (λ v. IsGreatest v c.args.self.now) (sym (simp to_z-of_z at c.typed_value-in-Some.ensures))
    (subst (IsGreatest _) c.self.view_is (greatest-cell c.numbers_stand_for_cells.ensures c.self.inside.kind c.self.inside.numbers c.in-Some.bounds.least c.in-Some.bounds.greatest c.self.invariant c.in-Some.ensures))

pub returns-in-None-clause-least : goal.returns-in-None-clause-least
returns-in-None-clause-least c = subst AreAllNull c.self.view_is (null-cells c.self.inside.kind c.self.inside.numbers c.in-None.ensures)

pub returns-in-None-clause-greatest : goal.returns-in-None-clause-greatest
returns-in-None-clause-greatest c = returns-in-None-clause-least c
