-- What follows is what the masks have after the place.
use Rattle.std.proofs.Common.{◌≡◌, ◌+◌, ◌*◌, ◌-◌, ◌%◌, ◌^◌, bit_and, w64, ◌<◌, ◌≤◌, length, length-drop, take, drop, arith, refl, sym, ap, ◌∙◌}
use Rattle.std.proofs.lemmas.List.{take_all}
use Rattle.std.proofs.lemmas.Option.{get_or_from_slice_get}
use Rattle.std.specs.Int.{bit_not}
use Rattle.csv_index.specs.Blocks.{block_places, Stands}
use Rattle.csv_index.specs.Structure.{ends_of}
use Rattle.csv_index.proofs.FindLemmas.{found_behind, last_place, none_behind}
use Rattle.csv_index.proofs.index.Index.ends_behind.Goals as goal

pub returns-in-Some : goal.returns-in-Some
returns-in-Some c =
    let s : Stands c.self.inside.blocks.masks.items c.args.n c.in-Some.number c.in-Some.bit = c.in-Some.ensures in
    let block : c.index.result.now ≡ s.mask = c.index.ensures ∙ get_or_from_slice_get c.self.inside.blocks.masks.items c.in-Some.number s.mask c.index.result.now s.is in
    let rest = take_all (length c.self.inside.blocks.masks.items - (c.in-Some.number + 1)) (drop (c.in-Some.number + 1) c.self.inside.blocks.masks.items)
    (omega (arith, length-drop (c.in-Some.number + 1) c.self.inside.blocks.masks.items)) in
    rw (← c.self.view_is)
    (found_behind c.self.inside.start c.args.n c.in-Some.number c.in-Some.bit _ _ c.self.inside.blocks.masks.items _ c.self.inside.last s refl
    (ap (λ w. bit_and (bit_and w ((2 ^ 64 - 1) * 2 ^ c.in-Some.bit % 2 ^ 64)) (bit_not w64 (1 * 2 ^ c.in-Some.bit % 2 ^ 64))) block)
    (ap (λ bs. take (length bs - (c.in-Some.number + 1)) (drop (c.in-Some.number + 1) bs)) c.deref.ensures.value ∙ rest))

pub returns-in-None : goal.returns-in-None
returns-in-None c =
    let past : length (block_places 0 c.self.inside.blocks.masks.items) ≤ c.args.n = c.in-None.ensures in
    let within : c.args.n < length (ends_of c.self.inside.start c.self.inside.blocks.masks.items c.self.inside.last) = rw (← c.self.view_is) at c.requires.n in
    rw (← c.self.view_is) (none_behind c.self.inside.start ∙ sym (last_place c.self.inside.start c.args.n c.self.inside.blocks.masks.items c.self.inside.last past within).1)
