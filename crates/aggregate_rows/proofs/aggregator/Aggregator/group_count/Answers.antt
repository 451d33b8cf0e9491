use Rattle.std.proofs.Common.{◌∙◌}
use Rattle.aggregate_rows.proofs.GatheredLemmas.{as_many}
use Rattle.aggregate_rows.proofs.aggregator.Aggregator.group_count.Goals as goal

pub returns : goal.returns
returns c = λ places aggregates rows g. c.len.ensures ∙ as_many places c.args.self.now.aggregates.items c.args.self.now.groups rows g.groups_are
