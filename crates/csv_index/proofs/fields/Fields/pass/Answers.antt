-- The fields after the next one are left.
use Rattle.std.proofs.Common.{subst}
use Rattle.csv_index.specs.Fields.{AreLeft}
use Rattle.csv_index.proofs.Boundaries.{left_behind}
use Rattle.csv_index.proofs.fields.Fields.pass.Goals as goal

pub invariant_of-self : goal.invariant_of-self
invariant_of-self c =
    left_behind c.self.inside.start c.in-Some.end c.next.new.self c.self.inside.bytes.now
    (subst (λ ends. AreLeft c.self.inside.start ends c.self.inside.bytes.now) c.in-Some.ensures c.self.invariant)
