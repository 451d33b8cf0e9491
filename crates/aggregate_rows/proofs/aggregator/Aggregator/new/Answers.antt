use Rattle.std.proofs.Common.{length, refl, ap, ◌∙◌}
use Rattle.aggregate_rows.specs.Table.{shape_of}
use Rattle.aggregate_rows.proofs.TableLemmas.{none_yet}
use Rattle.aggregate_rows.proofs.aggregator.Aggregator.new.Goals as goal

pub returns-in_ok-from_slice-in-Some : goal.returns-in_ok-from_slice-in-Some
returns-in_ok-from_slice-in-Some c = record {
  places_are = rw (c.in-Some.is, c.in_ok-from_slice-in-Some.ensures.items) refl;
  aggregates_are = c.in_ok-aggregates.ensures;
  groups_are = rw c.in-Some.is (none_yet c.in-Some.places.now _ c.none-groups.result
      (c.none-groups.ensures.shape ∙ ap (shape_of (length c.in-Some.places.now)) c.deref-in-Some.ensures.value) c.none-groups.ensures.groups);
}
