use Rattle.std.proofs.Common.{◌≡◌, ◌+◌, ◌-◌, length, refl, arith}
use Rattle.aggregate_rows.proofs.InsideLemmas.{none-are, none-held}
use Rattle.aggregate_rows.proofs.groups.Groups.none.Goals as goal

pub invariant_of-result : goal.invariant_of-result
invariant_of-result c = none-are _ _ c.new.ensures (omega arith) (omega (arith, c.requires))

pub returns-clause-shape : goal.returns-clause-shape
returns-clause-shape c =
    let results : c.args.key_width + length c.args.aggregates.now - c.args.key_width ≡ length c.args.aggregates.now = omega arith in
    rw (results, c.distinct_count.ensures) refl

pub returns-clause-groups : goal.returns-clause-groups
returns-clause-groups c =
    none-held c.args.key_width (c.args.key_width + length c.args.aggregates.now) c.distinct_count.result c.new.result c.new-2.result c.new-3.result.items c.new.ensures
