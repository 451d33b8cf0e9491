use Rattle.std.proofs.Common.{◌≡◌, ◌<◌, ◌≤◌, ◌^◌, ◌++◌, ◌∷◌, [], ℕ, ap, get_or, length, ◌∙◌, arith}
use Rattle.std.proofs.lemmas.List.{length-set, take_all}
use Rattle.aggregate_rows.proofs.PartLemmas.{part_more, parts_none}
use Rattle.aggregate_rows.proofs.parts.parts_of.Goals as goal

pub loop-i-init : goal.loop-i-init
loop-i-init c = record { long = c.in_ok-parts.ensures.long; parts = parts_none 0 c.in_ok-parts.parts.items c.in_ok-parts.ensures.none }

pub loop-i-preserved : goal.loop-i-preserved
loop-i-preserved c =
    let numbers = c.args.numbers.now in
    let groups = c.args.groups.now in
    let i = c.loop-i.i in
    let parts = c.loop-i.parts.items in
    let g = get_or groups i 0 in
    let here : i < length numbers = omega (arith, c.loop-i-test.true, c.len-i-end.ensures) in
    let inside : i < length groups = omega (arith, here, c.requires.long) in
    let within : g < length parts = omega (arith, c.requires.within i 0 inside, c.loop-i.invariant.long) in
    let small : get_or numbers i 0 < 2 ^ 16 = c.requires.few i 0 here in
    let pushed : c.push.new.self.items ≡ c.index_mut.result.now.items ++ get_or numbers i 0 ∷ [] =
    c.in_ok-push.ensures.items ∙ ap (λ (n : ℕ). c.index_mut.result.now.items ++ n ∷ []) (omega (arith, c.at.ensures, small)) in
    record {
      long = length-set parts g c.push.new.self ∙ c.loop-i.invariant.long;
      parts = part_more numbers groups i parts c.index_mut.result.now c.push.new.self c.requires.long here within c.index_mut.ensures.value pushed
          c.loop-i.invariant.parts;
    }

pub returns-clause-parts : goal.returns-clause-parts
returns-clause-parts c =
    let i = c.loop-i.i in
    let all : length c.args.numbers.now ≤ i = omega (arith, c.loop-i-test.false, c.len-i-end.ensures) in
    rw (take_all i c.args.numbers.now all, take_all i c.args.groups.now (omega (arith, all, c.requires.long))) at c.loop-i.invariant.parts
