use Rattle.std.proofs.Common.{refl, ap, inl, length, ◌∙◌}
use Rattle.odata_hub.specs.Connections.{Gave, Take}
use Rattle.odata_hub.proofs.StepLemmas.{steps_on}
use Rattle.odata_hub.proofs.TakeLemmas.{taken}
use Rattle.odata_hub.proofs.connection.Connection.take.Goals as goal

pub returns-clause-step : goal.returns-clause-step
returns-clause-step c =
    let bytes = taken c.args.self.now.output c.args.out.now c.take.new.buf c.take.result c.take.ensures.count c.take.ensures.bytes in
    steps_on c.args.self.now _ (Take (length c.args.out.now)) _ (λ f x. (f, inl (ap Gave bytes.0, rw (c.take.ensures.left ∙ bytes.2) refl), x))

pub returns-clause-others : goal.returns-clause-others
returns-clause-others c =
    (taken c.args.self.now.output c.args.out.now c.take.new.buf c.take.result c.take.ensures.count c.take.ensures.bytes).1
