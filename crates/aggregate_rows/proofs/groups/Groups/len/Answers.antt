use Rattle.std.proofs.Common.{length, sym, ap, ◌∙◌}
use Rattle.aggregate_rows.specs.Table.{GroupsOf}
use Rattle.aggregate_rows.proofs.InsideLemmas.{many}
use Rattle.aggregate_rows.proofs.groups.Groups.len.Goals as goal

pub returns : goal.returns
returns c =
    c.len.ensures c.self.invariant.places.hashes c.self.invariant.places.are ∙ c.self.invariant.places.are.linked.long
    ∙ sym (many _ c.self.inside c.self.invariant) ∙ ap (λ (g : GroupsOf). length g.groups) c.self.view_is
