use Rattle.std.proofs.Common.{◌≡◌, ◌<◌, ◌+◌, ◌%◌, get_or, length, arith, rules, w64}
use Rattle.std.specs.Prelude.{FitsSigned, pos}
use Rattle.std.proofs.lemmas.Int.{to_z-of_z}
use Rattle.std.proofs.lemmas.List.{length-set}
use Rattle.block_eval.specs.Items.{slot_of}
use Rattle.block_eval.proofs.ListLemmas.{slot-entered}
use Rattle.block_eval.proofs.items.slots_of.Goals as goal

pub loop-place-preserved : goal.loop-place-preserved
loop-place-preserved c =
    let slots = c.loop-place.slots.items in
    let place = c.loop-place.place in
    let numbers = c.args.numbers.now in
    let fits : FitsSigned w64 (get_or numbers place (pos 0)) = search rules in
    let is : c.slot_of.result ≡ slot_of (get_or numbers place (pos 0)) = simp to_z-of_z at c.slot_of.ensures.value in
    let within : c.slot_of.result < length slots = omega (arith, c.slot_of.ensures.within, c.loop-place.invariant.long) in
    record {
      each = slot-entered numbers slots place c.slot_of.result _ c.loop-place.invariant.each is within (λ e. omega (arith, e));
      long = omega (arith, length-set slots c.slot_of.result (place % 65535 + 1), c.loop-place.invariant.long);
    }
