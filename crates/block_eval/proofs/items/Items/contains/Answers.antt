use Rattle.std.proofs.Common.{◌≡◌, ◌<◌, get_or, length, sym, ap, ◌∙◌, arith, rules, w64}
use Rattle.std.specs.Prelude.{FitsSigned}
use Rattle.std.proofs.lemmas.Int.{to_z-of_z}
use Rattle.std.proofs.lemmas.List.{get_or_read}
use Rattle.block_eval.specs.Items.{slot_of}
use Rattle.block_eval.proofs.ListLemmas.{slot-empty}
use Rattle.block_eval.proofs.items.Items.contains.Goals as goal

pub returns-then-place-eq0 : goal.returns-then-place-eq0
returns-then-place-eq0 c =
    let slots = c.args.self.now.slots.items in
    let slot = c.slot_of.result in
    let fits : FitsSigned w64 c.args.number = search rules in
    let is : slot ≡ slot_of c.args.number = simp to_z-of_z at c.slot_of.ensures.value in
    let inside : slot < length slots = omega (arith, c.slot_of.ensures.within, c.requires.long) in
    let read : c.index.result.now ≡ get_or slots slot 0 = get_or_read slots slot c.index.result.now inside c.index.ensures 0 in
    let empty : get_or slots slot 0 ≡ 0 = omega (arith, read, c.from-place.ensures, c.if-place-eq0.true) in
    sym (slot-empty c.args.self.now.numbers.items slots c.args.number c.requires (ap (λ k. get_or slots k 0) (sym is) ∙ empty))
