use Rattle.std.proofs.Common.{◌∙◌, ap, length}
use Rattle.result_rows.specs.Rows.{OrderedOf}
use Rattle.result_rows.proofs.OrderedLemmas.{as_many_shown}
use Rattle.result_rows.proofs.ordered.OrderedRows.len.Goals as goal

pub returns : goal.returns
returns c = c.len.ensures ∙ as_many_shown c.self.inside c.self.invariant ∙ ap (λ (o : OrderedOf). length o.rows.rows) c.self.view_is
