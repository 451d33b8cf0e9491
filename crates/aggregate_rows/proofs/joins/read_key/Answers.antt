use Rattle.aggregate_rows.proofs.RowLemmas.{key_more}
use Rattle.aggregate_rows.proofs.joins.read_key.Goals as goal

pub loop-place-preserved : goal.loop-place-preserved
loop-place-preserved c =
    key_more c.args.columns.now.rows c.args.number c.args.places.now c.loop-place.place-index c.loop-place.key.items c.value.result c.loop-place-test.true c.value.ensures c.in_ok-push.ensures.items
    c.loop-place.invariant
