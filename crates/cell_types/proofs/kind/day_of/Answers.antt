use Rattle.std.proofs.Common.{◌≡◌, ◌+◌, ◌*◌, ◌/◌, ◌%◌, ◌∙◌, ap, arith, of_z, rules, to_z, w64}
use Rattle.std.specs.Int.{w16}
use Rattle.std.specs.Prelude.{FitsSigned, unsigned_abs}
use Rattle.std.proofs.lemmas.Int.{ints, to_z-of_z}
use Rattle.cell_types.proofs.KindLemmas.{date-place, day-fits, month-fits, number-parts, number-same, year-fits}
use Rattle.cell_types.proofs.kind.day_of.Goals as goal

pub invariant_of-result : goal.invariant_of-result
invariant_of-result c =
    let p = c.requires in
    let place = date-place p.0 p.1 p.2 p.3 in
    let parts = number-parts c.args.number p.0 p.1 p.2 place p.4 in
    let fits : FitsSigned w64 c.args.number = c.ranges.number in
    let year : c.div_euclid.result ≡ p.0 = simp to_z-of_z at c.div_euclid.ensures ∙ parts.year_is in
    let rest : unsigned_abs c.rem_euclid-place.result ≡ 32 * p.1 + p.2 = ap unsigned_abs (simp to_z-of_z at c.rem_euclid-place.ensures.value) ∙ parts.place_is in
    let rest_fits : FitsSigned w64 c.rem_euclid-place.result = search rules in
    let y = to_z w16 (of_z w16 (to_z w64 (of_z w64 c.div_euclid.result))) in
    let n = unsigned_abs (to_z w64 (of_z w64 c.rem_euclid-place.result)) in
    record {
      year_in = year-fits p.0 p.1 p.2 y (omega (arith, ints, p.3.0.0, p.3.0.1)) p.3;
      month_in = month-fits p.0 p.1 p.2 (n / 32) (omega (arith, ints, place.month_below, place.day_below)) p.3;
      day_in = day-fits p.0 p.1 p.2 y (n / 32) (n % 32) (omega (arith, ints, p.3.0.0, p.3.0.1)) (omega (arith, ints, place.month_below, place.day_below)) (omega (arith, ints, place.month_below, place.day_below)) p.3;
    }

pub returns : goal.returns
returns c =
    let p = c.requires in
    let place = date-place p.0 p.1 p.2 p.3 in
    let parts = number-parts c.args.number p.0 p.1 p.2 place p.4 in
    let fits : FitsSigned w64 c.args.number = c.ranges.number in
    let year : c.div_euclid.result ≡ p.0 = simp to_z-of_z at c.div_euclid.ensures ∙ parts.year_is in
    let rest : unsigned_abs c.rem_euclid-place.result ≡ 32 * p.1 + p.2 = ap unsigned_abs (simp to_z-of_z at c.rem_euclid-place.ensures.value) ∙ parts.place_is in
    let rest_fits : FitsSigned w64 c.rem_euclid-place.result = search rules in
    let y = to_z w16 (of_z w16 (to_z w64 (of_z w64 c.div_euclid.result))) in
    let n = unsigned_abs (to_z w64 (of_z w64 c.rem_euclid-place.result)) in
    number-same c.args.number p.0 p.1 p.2 y (n / 32) (n % 32) (omega (arith, ints, p.3.0.0, p.3.0.1)) (omega (arith, ints, place.month_below, place.day_below))
    (omega (arith, ints, place.month_below, place.day_below)) p.4
