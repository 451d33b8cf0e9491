use Rattle.std.proofs.Common.{length, sym, ap, ◌∙◌}
use Rattle.value_rows.specs.ValueRows.{ValueRowsOf}
use Rattle.value_rows.proofs.RowLaws.{rows-long}
use Rattle.value_rows.proofs.rows.ValueRows.len.Goals as goal

pub returns : goal.returns
returns c = sym (rows-long c.self.inside.width c.self.inside.count c.self.inside.values) ∙ ap (λ (v : ValueRowsOf). length v.rows) c.self.view_is
