use Rattle.std.proofs.Common.{[], None, Some, get_or, length, map, arith}
use Rattle.cell_types.specs.Value.{value_view}
use Rattle.key_index.specs.Keys.{typed_keys}
use Rattle.key_index.proofs.RisingLemmas.{rising_same}
use Rattle.key_index.proofs.RowLemmas.{found_is, key_at, typed_key}
use Rattle.key_index.proofs.SlotLemmas.{none_has, none_met, seated_same}
use Rattle.key_index.proofs.keys.Keys.find.Goals as goal

pub row_among-requires-clause-rising : goal.row_among-requires-clause-rising
row_among-requires-clause-rising c =
    let places = c.args.places.now in
    let columns = c.args.columns.now in
    let keys = typed_keys places columns c.requires.keys.0 in
    let found = rw c.in-Rising.is at c.requires.keys.1.found in
    rw found.0 (rising_same (λ row. get_or keys row []) (key_at places columns) (length keys) (typed_key places columns c.requires.keys.0) found.1)

pub returns-in-Rising : goal.returns-in-Rising
returns-in-Rising c rows of =
    let places = c.args.places.now in
    let columns = c.args.columns.now in
    let found = rw c.in-Rising.is at of.found in
    found_is c.values_are_ordered.ensures.equal (typed_keys places columns rows) (map value_view c.args.key.now) (key_at places columns) c.row_among.result of.whole of.distinct
    (typed_key places columns rows) (rw found.0 at c.row_among.ensures)

pub returns-in-Row : goal.returns-in-Row
returns-in-Row c rows of =
    let places = c.args.places.now in
    let columns = c.args.columns.now in
    let found = rw c.in-Slots.is at of.found in
    let met = rw c.in-Row.is at c.walk.ensures in
    found_is c.values_are_ordered.ensures.equal (typed_keys places columns rows) (map value_view c.args.key.now) (key_at places columns) (Some c.in-Row.row) of.whole of.distinct
    (typed_key places columns rows) (omega (arith, met.0, found.count), met.1)

pub returns-in_default : goal.returns-in_default
returns-in_default c rows of =
    let places = c.args.places.now in
    let columns = c.args.columns.now in
    let keys = typed_keys places columns rows in
    let key = map value_view c.args.key.now in
    let found = rw c.in-Slots.is at of.found in
    let none = none_met c.as_slice.result.now c.in-Slots.rows (key_at places columns) key c.walk.result c.walk.ensures c.in_default.not-Row in
    let seated = seated_same (λ row. get_or keys row []) (key_at places columns) c.in-Slots.slots.items (length keys) (typed_key places columns rows) found.seated in
    found_is c.values_are_ordered.ensures.equal keys key (key_at places columns) None of.whole of.distinct (typed_key places columns rows)
    (none_has (key_at places columns) c.in-Slots.slots.items (length keys) key seated (rw (c.as_slice.ensures.value, found.count) at none))
