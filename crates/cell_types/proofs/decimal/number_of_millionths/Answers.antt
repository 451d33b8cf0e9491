-- The parts one after the other.
use Rattle.std.proofs.Common.{ℕ, ◌-◌, ◌<◌, ◌^◌, take, length, rules, ap, subst, ◌∙◌}
use Rattle.std.specs.Prelude.{codes}
use Rattle.std.specs.Option.{SomeIff}
use Rattle.std.specs.Str.Parse.{digits_value_after}
use Rattle.cell_types.proofs.DigitLaws.{AllDigits-take}
use Rattle.cell_types.proofs.DecimalLemmas.{grows, millionths-parts}
use Rattle.cell_types.proofs.decimal.number_of_millionths.Goals as goal

pub returns-in_err-number : goal.returns-in_err-number
returns-in_err-number c =
    let whole = c.args.whole.now in
    let places = c.args.places.now in
    rw (c.from_residual.ensures, millionths-parts whole places c.requires.short)
    (grows _ (take (6 - length places) (codes "000000")) (grows _ places c.in_err-number.ensures))

pub returns-in_err-number-2 : goal.returns-in_err-number-2
returns-in_err-number-2 c =
    let whole = c.args.whole.now in
    let places = c.args.places.now in
    rw (c.from_residual-in_err-number-2.ensures, millionths-parts whole places c.requires.short)
    (grows _ (take (6 - length places) (codes "000000")) (rw c.in_ok-number.ensures.1 at c.in_err-number-2.ensures))

pub number_after-requires-3 : goal.number_after-requires-3
number_after-requires-3 c = AllDigits-take (6 - length c.args.places.now) (codes "000000") (search rules)

pub returns : goal.returns
returns c =
    let whole = c.args.whole.now in
    let places = c.args.places.now in
    let Is : ℕ → Type 0 = λ n. SomeIff c.number_after-3.result (digits_value_after 10 n (take (6 - length places) (codes "000000")) < 2 ^ 64) (digits_value_after 10 n (take (6 - length places) (codes "000000"))) in
    let before = c.in_ok-number-2.ensures.1 ∙ ap (λ n. digits_value_after 10 n places) c.in_ok-number.ensures.1 in
    rw (millionths-parts whole places c.requires.short) (subst Is before c.number_after-3.ensures)
