use Rattle.std.proofs.Common.{get_or, take, refl}
use Rattle.cell_types.specs.Rows.{values_at}
use Rattle.row_columns.specs.Picked.{numbered}
use Rattle.row_codes.specs.Codes.{value_alone}
use Rattle.row_codes.proofs.CodeLemmas.{one-more, zero-codes}
use Rattle.row_codes.proofs.codes.key_codes.Goals as goal

pub loop-place-init : goal.loop-place-init
loop-place-init c =
    let zeros = c.in_ok-from_elem.ensures.items_if_clones_equal (λ y e. e) in
    zero-codes c.args.numbers.now c.args.columns.now.rows _ refl (rw c.len.ensures at zeros)

pub loop-place-preserved : goal.loop-place-preserved
loop-place-preserved c =
    let places = c.args.places.now in
    let i = c.loop-place.place-index in
    let rows = numbered c.args.numbers.now c.args.columns.now.rows in
    let more = rw c.in-Some.is at c.in_ok-more.ensures in
    let made = rw c.in-Some-2.is at c.in_ok-made.ensures in
    one-more places i rows c.in-Some-2.made c.loop-place-test.true (made (values_at (take i places)) (value_alone (get_or places i 0)) rows c.loop-place.invariant more)
