use Rattle.std.proofs.Common.{◌≡◌, ◌+◌, ◌*◌, ◌^◌, ℕ, List, length, take, drop, sym, ap, ap₂, ◌∙◌, arith}
use Rattle.std.proofs.lemmas.List.{length-drop}
use Rattle.std.specs.Str.Parse.{digits_value}
use Rattle.value_forms.specs.Rounding.{nearest_even}
use Rattle.value_forms.proofs.RoundingLemmas.{digits_drop, fine_parts, six_fit, value_cut, whole_fit}
use Rattle.value_forms.proofs.rounding.nearest.Goals as goal

pub number_of-requires-clause-digits : goal.number_of-requires-clause-digits
number_of-requires-clause-digits c = (fine_parts c.args.whole.now c.args.places.now c.requires).whole_digits

pub number_of-requires-clause-fits : goal.number_of-requires-clause-fits
number_of-requires-clause-fits c =
    let fine = fine_parts c.args.whole.now c.args.places.now c.requires in
    omega (arith, whole_fit c.args.whole.now c.args.places.now fine)

pub overflow_mul-cut : goal.overflow_mul-cut
overflow_mul-cut c =
    let fine = fine_parts c.args.whole.now c.args.places.now c.requires in
    omega (arith, whole_fit c.args.whole.now c.args.places.now fine, c.number_of.ensures)

pub overflow_add-cut : goal.overflow_add-cut
overflow_add-cut c =
    let fine = fine_parts c.args.whole.now c.args.places.now c.requires in
    let whole = whole_fit c.args.whole.now c.args.places.now fine in
    omega (arith, whole, c.number_of.ensures, six_fit c.args.whole.now c.args.places.now fine, c.number_of-2.ensures, ap (digits_value 10) c.split_at.ensures.front)

pub goes_up-up-requires : goal.goes_up-up-requires
goes_up-up-requires c =
    let fine = fine_parts c.args.whole.now c.args.places.now c.requires in rw c.split_at.ensures.back (digits_drop 6 c.args.places.now fine.place_digits)

pub next_if-requires : goal.next_if-requires
next_if-requires c =
    let fine = fine_parts c.args.whole.now c.args.places.now c.requires in
    let whole = whole_fit c.args.whole.now c.args.places.now fine in
    omega (arith, whole, c.number_of.ensures, six_fit c.args.whole.now c.args.places.now fine, c.number_of-2.ensures, ap (digits_value 10) c.split_at.ensures.front)

pub billionths-requires : goal.billionths-requires
billionths-requires c =
    let fine = fine_parts c.args.whole.now c.args.places.now c.requires in rw c.split_at.ensures.back (digits_drop 6 c.args.places.now fine.place_digits)

pub returns : goal.returns
returns c =
    let whole = c.args.whole.now in
    let places = c.args.places.now in
    let fine = fine_parts whole places c.requires in
    let tail = c.split_at.ensures.back in
    let back = drop 6 places in
    let cut : c.number_of.result * 1_000_000 + c.number_of-2.result ≡ digits_value 10 whole * 1_000_000 + digits_value 10 (take 6 places) =
    omega (arith, c.number_of.ensures, c.number_of-2.ensures, ap (digits_value 10) c.split_at.ensures.front) in
    let parts =
    ap (λ ds. (c.number_of.result * 1_000_000 + c.number_of-2.result) * 10 ^ length ds + digits_value 10 ds) tail
    ∙ ap (λ n. n * 10 ^ length back + digits_value 10 back) cut ∙ sym (value_cut whole places (omega (arith, fine.more))) in
    let one = ap (λ (ds : List ℕ). 10 ^ length ds) tail ∙ ap (λ n. 10 ^ n) (length-drop 6 places) in
    c.next_if.ensures ∙ c.goes_up-up.ensures ∙ ap₂ nearest_even parts one
