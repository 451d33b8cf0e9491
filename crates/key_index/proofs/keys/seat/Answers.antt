use Rattle.std.proofs.Common.{map, arith}
use Rattle.cell_types.specs.Value.{value_view}
use Rattle.key_index.proofs.RowLemmas.{key_at}
use Rattle.key_index.proofs.SlotLemmas.{none_free, none_has, seated_more}
use Rattle.key_index.proofs.keys.seat.Goals as goal

pub unreachable-requires : goal.unreachable-requires
unreachable-requires c =
    let met = rw c.in-Nothing.is at c.walk.ensures in
    omega (arith, none_free c.args.slots.now met.0, c.requires.room, c.requires.some)

pub returns-in-Free-clause-seated : goal.returns-in-Free-clause-seated
returns-in-Free-clause-seated c _ =
    let met = rw (c.in-Free.is, c.requires.key) at c.walk.ensures in
    rw (c.raise.ensures.raise, c.hash_of.ensures, c.requires.key)
    (seated_more (key_at c.args.places.now c.args.columns.now) c.args.slots.now c.args.row c.in-Free.at c.requires.seated met.0 (omega (arith, c.requires.few)) c.requires.some)

pub returns-in-Free-clause-new : goal.returns-in-Free-clause-new
returns-in-Free-clause-new c _ =
    let met = rw c.in-Free.is at c.walk.ensures in
    none_has (key_at c.args.places.now c.args.columns.now) c.args.slots.now c.args.row (map value_view c.args.key.now) c.requires.seated met.1
