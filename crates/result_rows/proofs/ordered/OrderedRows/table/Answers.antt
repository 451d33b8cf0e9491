use Rattle.std.proofs.Common.{subst}
use Rattle.result_rows.specs.Rows.{AreReordered, OrderedOf}
use Rattle.result_rows.proofs.OrderedLemmas.{shown_moved}
use Rattle.result_rows.proofs.ordered.OrderedRows.table.Goals as goal

pub returns-in-Some-clause-moved : goal.returns-in-Some-clause-moved
returns-in-Some-clause-moved c = subst (λ (o : OrderedOf). AreReordered o.stored o.rows) c.self.view_is (shown_moved c.self.inside c.self.invariant)
