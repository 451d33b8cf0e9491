use Rattle.std.proofs.Common.{◌∙◌}
use Rattle.aggregate_rows.proofs.TableLemmas.{whole_yet}
use Rattle.aggregate_rows.proofs.groups.Groups.whole.Goals as goal

pub returns : goal.returns
returns c = whole_yet c.args.aggregates.now c.push.new.self (c.push.ensures.shape ∙ c.none-groups.ensures.shape) (rw c.none-groups.ensures.groups at c.in_ok-push.ensures.groups)
