use Rattle.std.proofs.Common.{◌≡◌, ◌<ℤ◌, ℤ, FitsSigned, to_z, of_z, rules, [], ◌∷◌, length, sym, ap, ◌∙◌, arith}
use Rattle.std.specs.Int.{w128}
use Rattle.std.proofs.lemmas.Int.{ints}
use Rattle.cell_types.specs.Value.{integer, value_view}
use Rattle.key_index.proofs.RisingLemmas.{below_more, one_cell, rising_more}
use Rattle.key_index.proofs.RowLemmas.{key_at}
use Rattle.key_index.proofs.rising.rises_on.Goals as goal

pub loop-row-preserved : goal.loop-row-preserved
loop-row-preserved c =
    let columns = c.args.columns.now in
    let places = c.args.places.now in
    let row = c.loop-row.row in
    let one : length places ≡ 1 = omega (arith, c.if-places-ne1.false) in
    let last : ℤ = to_z w128 c.loop-row.last-bits in
    let number : ℤ = c.in-Int.number in
    let fits : FitsSigned w128 number = search rules in
    let read : to_z w128 (of_z w128 number) ≡ number = omega (arith, ints) in
    let more : last <ℤ number = first_of (omega (arith, ints, read, c.if-number-last.false), grind (arith, ints, read, c.if-number-last.false)) in
    let key_is : key_at places columns row ≡ integer number ∷ [] =
    one_cell columns places row c.index-columns-places.result one (c.requires.places 0 0 (omega (arith, one))) c.index-columns-places.is
    ∙ ap (λ v. v ∷ []) (sym c.value.ensures ∙ ap value_view c.in-Int.is) in record {
      rising = rising_more (key_at places columns) row last number c.loop-row.invariant.rising c.loop-row.invariant.below key_is more;
      below = rw read (below_more (key_at places columns) row last number c.loop-row.invariant.rising c.loop-row.invariant.below key_is more);
    }

pub returns-clause-rises : goal.returns-clause-rises
returns-clause-rises c = record {
  rising = record {
    are = λ row within. c.loop-row.invariant.rising.are row (omega (arith, within, c.loop-row-test.false));
    rise = λ a b less within. c.loop-row.invariant.rising.rise a b less (omega (arith, within, c.loop-row-test.false));
  };
  below = λ k within. c.loop-row.invariant.below k (omega (arith, within, c.loop-row-test.false));
}
