use Rattle.std.proofs.Common.{◌≡◌, [], length, map, subst, sym, ap, ◌∙◌}
use Rattle.std.specs.Prelude.{IfOk, OnOk, slice_index_or}
use Rattle.std.proofs.lemmas.List.{length-map}
use Rattle.cell_types.specs.Value.{value_view}
use Rattle.query_meaning.specs.Apply.{values_at}
use Rattle.aggregate_rows.specs.Table.{shape_of}
use Rattle.aggregate_rows.specs.Gathered.{HasGroupMore, IsGroupOf}
use Rattle.aggregate_rows.proofs.groups.Groups.group_of_values.Goals as goal

pub group_of-requires : goal.group_of-requires
group_of-requires c =
    let places = c.args.grouping.places.now in
    let key = c.read_key.new.key.items in
    let long : length places ≡ length c.deref.result.now = sym (length-map places _) ∙ sym (ap length c.in_ok-read_key.ensures) ∙ length-map key value_view ∙ sym (ap length c.deref.ensures.value) in
    c.requires.shape ∙ ap (λ n. shape_of n c.args.grouping.aggregates.now) long

pub returns : goal.returns
returns c =
    let values = values_at c.args.grouping.places.now (slice_index_or c.args.columns.now.rows c.args.number []) in
    let key : map value_view c.deref.result.now ≡ values = ap (map value_view) c.deref.ensures.value ∙ c.in_ok-read_key.ensures in
    record {
      group = subst (λ k. IfOk c.group_of.result (IsGroupOf c.group_of.new.self k)) key c.group_of.ensures.group;
      more = subst (λ k. OnOk c.group_of.result (HasGroupMore c.args.grouping.aggregates.now c.args.self.now c.group_of.new.self k)) key c.group_of.ensures.more;
    }
