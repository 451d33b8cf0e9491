use Rattle.text_kernels.proofs.TextLemmas.{of-lanes}
use Rattle.text_kernels.proofs.pairs.relation_at.Goals as goal

pub returns : goal.returns
returns c is_wanted = of-lanes c.args.relation c.relation_of.result c.relation_of.ensures c.at.ensures c.at-2.ensures
