use Rattle.std.proofs.Common.{[], get_or, map, sym, ap, ◌∙◌, arith}
use Rattle.cell_types.specs.Value.{value_view}
use Rattle.query_meaning.specs.Apply.{same_values}
use Rattle.aggregate_rows.specs.Gathered.{keys_held}
use Rattle.aggregate_rows.specs.Table.{GroupsOf}
use Rattle.aggregate_rows.proofs.InsideLemmas.{key-here, key-inside, place-held}
use Rattle.aggregate_rows.proofs.groups.Groups.has_key.Goals as goal

pub overflow_mul-place : goal.overflow_mul-place
overflow_mul-place c =
    let less = place-held _ c.self.inside c.self.invariant c.args.self.now c.self.view_is c.args.place c.requires in
    omega (arith, key-inside _ c.self.inside c.self.invariant c.args.place less, c.are_few.ensures)

pub are_at-requires : goal.are_at-requires
are_at-requires c =
    let less = place-held _ c.self.inside c.self.invariant c.args.self.now c.self.view_is c.args.place c.requires in
    omega (arith, key-inside _ c.self.inside c.self.invariant c.args.place less, c.are_few.ensures)

pub returns : goal.returns
returns c =
    let less = place-held _ c.self.inside c.self.invariant c.args.self.now c.self.view_is c.args.place c.requires in
    c.are_at.ensures ∙ ap (λ k. same_values k (map value_view c.args.key.now))
    (sym (key-here _ c.self.inside c.self.invariant c.args.place less) ∙ ap (λ (g : GroupsOf). get_or (keys_held g) c.args.place []) c.self.view_is)
