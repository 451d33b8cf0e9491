use Rattle.std.proofs.Common.{length, ap, arith}
use Rattle.std.proofs.lemmas.Result.{on_ok_weaker}
use Rattle.aggregate_rows.proofs.PushLemmas.{has-room, may-tally, put-are, put-joined}
use Rattle.aggregate_rows.proofs.groups.Groups.join_group.Goals as goal

pub overflow_mul-from : goal.overflow_mul-from
overflow_mul-from c = let room = has-room _ c.self.inside c.self.invariant c.args.place c.args.self.now c.self.view_is _ _ _ c.requires.joins in omega (arith, c.self.invariant.wide, c.are_few.ensures)

pub overflow_add-from : goal.overflow_add-from
overflow_add-from c = let room = has-room _ c.self.inside c.self.invariant c.args.place c.args.self.now c.self.view_is _ _ _ c.requires.joins in omega (arith, c.self.invariant.wide, c.are_few.ensures)

pub overflow_mul-set : goal.overflow_mul-set
overflow_mul-set c = let room = has-room _ c.self.inside c.self.invariant c.args.place c.args.self.now c.self.view_is _ _ _ c.requires.joins in omega (arith, c.self.invariant.wide, c.self.inside.sets.ok.0, c.self.inside.sets.small)

pub overflow_add-sets : goal.overflow_add-sets
overflow_add-sets c = let room = has-room _ c.self.inside c.self.invariant c.args.place c.args.self.now c.self.view_is _ _ _ c.requires.joins in omega (arith, c.self.invariant.wide, c.self.inside.sets.ok.0, c.self.inside.sets.small)

pub offset_bounds-as_mut_slice-set : goal.offset_bounds-as_mut_slice-set
offset_bounds-as_mut_slice-set c = let room = has-room _ c.self.inside c.self.invariant c.args.place c.args.self.now c.self.view_is _ _ _ c.requires.joins in omega (arith, c.self.invariant.wide, c.self.inside.sets.ok.0, c.self.inside.sets.small)

pub slice_bounds-sets-end : goal.slice_bounds-sets-end
slice_bounds-sets-end c = let room = has-room _ c.self.inside c.self.invariant c.args.place c.args.self.now c.self.view_is _ _ _ c.requires.joins in omega (arith, ap length c.as_mut_slice.ensures.value)

pub join_each-requires-clause-room : goal.join_each-requires-clause-room
join_each-requires-clause-room c = let room = has-room _ c.self.inside c.self.invariant c.args.place c.args.self.now c.self.view_is _ _ _ c.requires.joins in omega (arith, c.self.invariant.wide)

pub join_each-requires-clause-joins : goal.join_each-requires-clause-joins
join_each-requires-clause-joins c =
    may-tally _ c.self.inside c.self.invariant c.args.place c.args.self.now c.self.view_is _ _ _ c.requires.joins
    c.as_mut_slice.result.now c.as_mut_slice.ensures.value

pub invariant_of-self : goal.invariant_of-self
invariant_of-self c =
    put-are _ c.self.inside c.self.invariant c.args.place c.args.self.now c.self.view_is _ _ _ c.requires.joins
    c.as_mut_slice.result.now c.as_mut_slice.ensures.value c.join_each.new.values c.join_each.ensures.values c.join_each.new.sets c.join_each.ensures.sets

pub returns : goal.returns
returns c =
    on_ok_weaker c.join_each.result
    (put-joined _ c.self.inside c.self.invariant c.args.place c.args.self.now c.self.view_is _ _ _ c.requires.joins
    c.as_mut_slice.result.now c.as_mut_slice.ensures.value c.join_each.new.values c.join_each.ensures.values c.join_each.new.sets c.join_each.ensures.sets) c.join_each.ensures.joins
