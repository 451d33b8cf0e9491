use Rattle.std.proofs.Common.{ap}
use Rattle.odata_types.specs.Columns.{input_view, inputs_view}
use Rattle.odata_query.proofs.ColumnLemmas.{known_column, none_more, one_more, unknown_column}
use Rattle.odata_query.proofs.group.columns_of.Goals as goal
use Rattle.odata_query.proofs.group.columns_of.Goals.{in-Some+in_ok-push, in_default}

pub loop-place-preserved : goal.loop-place-preserved
loop-place-preserved c =
    elim c.match-column_at.branch [
      | in-Some+in_ok-push w ↦
          rw w.made-is (one_more _ c.loop-place.made.items w.push.new.self.items w.in-Some.column _ _ c.loop-place.invariant
          (known_column (inputs_view c.args.columns.now) c.args.places.now c.loop-place.place-index (input_view w.in-Some.column) c.loop-place-test.true w.in-Some.ensures)
          w.in_ok-push.ensures.items)
      | in_default w ↦
          none_more _ c.loop-place.made.items _ _ _ c.loop-place.invariant
          (unknown_column (inputs_view c.args.columns.now) c.args.places.now c.loop-place.place-index c.loop-place-test.true w.in_default.ensures)
          (ap (λ m. m.items) w.made-is)
    ]
