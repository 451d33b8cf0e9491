use Rattle.std.proofs.Common.{◌≡◌, ◌+◌, ◌-◌, ◌/◌, ◌<◌, ◌<ℤ◌, ℤ, [], ◌∷◌, FitsSigned, rules, get_or, length, map, sym, ap, ◌∙◌, arith}
use Rattle.std.specs.Int.{w128}
use Rattle.std.proofs.lemmas.Int.{ints}
use Rattle.std.proofs.lemmas.List.{get_or-map, length-map}
use Rattle.cell_types.specs.Value.{null, value_view}
use Rattle.key_index.specs.Rising.{key_number}
use Rattle.key_index.proofs.RisingLemmas.{above_middle, below_middle, int_view, none_between, one_cell, one_item}
use Rattle.key_index.proofs.RowLemmas.{key_at}
use Rattle.key_index.proofs.rising.row_among.Goals as goal

pub returns-in_default : goal.returns-in_default
returns-in_default c row within same =
    let number : ℤ = key_number (key_at c.args.places.now c.args.columns.now row) in
    let first = get_or-map value_view c.args.key.now 0 c.index-key-0.result null (omega (arith, c.if-key-ne1.false)) ∙ ap value_view (sym c.index-key-0.is) in
    c.in_default.not-Int number (int_view c.index-key-0.result number (sym first ∙ ap (λ k. get_or k 0 null) (same ∙ c.requires.rising.are row within)))

pub unreachable-requires : goal.unreachable-requires
unreachable-requires c =
    let columns = c.args.columns.now in
    let places = c.args.places.now in
    let middle = c.loop-low.low + (c.loop-low.high - c.loop-low.low) / 2 in
    let inside : middle < c.args.rows = omega (arith, c.loop-low.invariant.within, c.loop-low-test.true) in
    let one : length places ≡ 1 = omega (arith, c.if-places-ne1.false) in
    let cell = one_cell columns places middle c.index-columns-places.result one (c.requires.places 0 0 (omega (arith, one))) c.index-columns-places.is in
    let number : ℤ = key_number (key_at places columns middle) in
    c.in_default-value.not-Int number (int_view c.value.result number (c.value.ensures ∙ ap (λ k. get_or k 0 null) (sym cell ∙ c.requires.rising.are middle inside)))

pub loop-low-preserved-then-found-number-2 : goal.loop-low-preserved-then-found-number-2
loop-low-preserved-then-found-number-2 c =
    let columns = c.args.columns.now in
    let places = c.args.places.now in
    let middle = c.loop-low.low + (c.loop-low.high - c.loop-low.low) / 2 in
    let inside : middle < c.args.rows = omega (arith, c.loop-low.invariant.within, c.loop-low-test.true) in
    let one : length places ≡ 1 = omega (arith, c.if-places-ne1.false) in
    let cell = one_cell columns places middle c.index-columns-places.result one (c.requires.places 0 0 (omega (arith, one))) c.index-columns-places.is in
    let here : key_number (key_at places columns middle) ≡ c.in-Int-value.found = ap key_number (cell ∙ ap (λ v. v ∷ []) (sym c.value.ensures ∙ ap value_view c.in-Int-value.is)) in
    let found_fits : FitsSigned w128 c.in-Int-value.found = search rules in
    let number_fits : FitsSigned w128 c.in-Int.number = search rules in
    let under : key_number (key_at places columns middle) <ℤ c.in-Int.number =
    first_of (omega (arith, ints, here, c.if-found-number-2.true), grind (arith, ints, here, c.if-found-number-2.true)) in record {
      apart = omega (arith, c.loop-low-test.true);
      within = c.loop-low.invariant.within;
      below = below_middle (key_at places columns) c.args.rows c.requires.rising c.in-Int.number middle inside under;
      above = c.loop-low.invariant.above;
    }

pub loop-low-preserved : goal.loop-low-preserved
loop-low-preserved c =
    let columns = c.args.columns.now in
    let places = c.args.places.now in
    let middle = c.loop-low.low + (c.loop-low.high - c.loop-low.low) / 2 in
    let inside : middle < c.args.rows = omega (arith, c.loop-low.invariant.within, c.loop-low-test.true) in
    let one : length places ≡ 1 = omega (arith, c.if-places-ne1.false) in
    let cell = one_cell columns places middle c.index-columns-places.result one (c.requires.places 0 0 (omega (arith, one))) c.index-columns-places.is in
    let here : key_number (key_at places columns middle) ≡ c.in-Int-value.found = ap key_number (cell ∙ ap (λ v. v ∷ []) (sym c.value.ensures ∙ ap value_view c.in-Int-value.is)) in
    let found_fits : FitsSigned w128 c.in-Int-value.found = search rules in
    let number_fits : FitsSigned w128 c.in-Int.number = search rules in
    let over : c.in-Int.number <ℤ key_number (key_at places columns middle) =
    first_of (omega (arith, ints, here, c.if-found-number.false, c.if-found-number-2.false), grind (arith, ints, here, c.if-found-number.false, c.if-found-number-2.false)) in record {
      apart = omega (arith, c.loop-low-test.true);
      within = omega (arith, inside);
      below = c.loop-low.invariant.below;
      above = above_middle (key_at places columns) c.args.rows c.requires.rising c.in-Int.number middle over;
    }

pub returns : goal.returns
returns c row within same =
    let key = c.args.key.now in
    let one : length key ≡ 1 = omega (arith, c.if-key-ne1.false) in
    let key_is = one_item (map value_view key) null (length-map key value_view ∙ one)
    ∙ ap (λ v. v ∷ []) (get_or-map value_view key 0 c.index-key-0.result null (omega (arith, one)) ∙ ap value_view (sym c.index-key-0.is ∙ c.in-Int.is)) in
    none_between (key_at c.args.places.now c.args.columns.now) c.args.rows c.requires.rising c.in-Int.number c.loop-low.low c.loop-low.invariant.below
    (λ row from within. c.loop-low.invariant.above row (omega (arith, from, c.loop-low-test.false)) within) row within (sym key_is ∙ same)
