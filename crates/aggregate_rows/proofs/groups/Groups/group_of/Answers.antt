use Rattle.std.proofs.Common.{◌≡◌, false, map}
use Rattle.std.specs.List.{list_any}
use Rattle.cell_types.specs.Value.{value_view}
use Rattle.query_meaning.specs.Apply.{same_values}
use Rattle.aggregate_rows.specs.Gathered.{keys_held, IsGroupOf}
use Rattle.aggregate_rows.proofs.BegunLemmas.{is_among}
use Rattle.aggregate_rows.proofs.JoinLemmas.{key_new, new_place}
use Rattle.aggregate_rows.proofs.groups.Groups.group_of.Goals as goal

pub returns-in-Some : goal.returns-in-Some
returns-in-Some c =
    let old = c.args.self.now in
    let key = map value_view c.args.key.now in
    let is : IsGroupOf old key c.in-Some.place = rw c.in-Some.is at c.place_of.ensures.some in
    record { group = is; more = is_among c.values_are_ordered.ensures.equal c.args.aggregates.now old key c.in-Some.place is }

pub returns-in_ok-push-in-None : goal.returns-in_ok-push-in-None
returns-in_ok-push-in-None c =
    let old = c.args.self.now in
    let new = c.push.new.self in
    let key = map value_view c.args.key.now in
    let lacks : list_any (same_values key) (keys_held old) ≡ false = c.place_of.ensures.none c.in-None.is in
    let pushed = c.in_ok-push-in-None.ensures.groups in
    record {
      group = new_place old new pushed.made key pushed.key_is pushed.groups c.len-place.result c.len-place.ensures;
      more = key_new old new pushed.made key pushed.key_is pushed.groups c.args.aggregates.now c.push.ensures.shape lacks pushed.begins;
    }
