-- `jiff_core` makes a date of the numbers just where the calendar has them.
use Rattle.std.proofs.Common.{◌≡◌, ◌<◌, ◌∙◌, sym, pos, arith, to_z}
use Rattle.std.specs.Int.{w8, w16}
use Rattle.std.proofs.lemmas.Int.{ints}
use Rattle.cell_types.specs.Date.{HasDateNumbers}
use Rattle.cell_types.proofs.DateLemmas.{made_date}
use Rattle.cell_types.proofs.date.date_in.Goals as goal

pub returns : goal.returns
returns c =
    let n = c.in_ok-year.ensures in
    let year : to_z w16 c.in_ok-year.year ≡ pos c.in_ok-year.year = omega (arith, ints, n.0) in
    let month : to_z w8 c.in_ok-year.month ≡ pos c.in_ok-year.month = omega (arith, ints, n.1) in
    let day : to_z w8 c.in_ok-year.day ≡ pos c.in_ok-year.day = omega (arith, ints, n.2) in
    let some : 0 < c.in_ok-year.year = omega (arith, c.if-year-eq0.false) in
    let has : HasDateNumbers c.args.form c.args.text.now c.in_ok-year.year c.in_ok-year.month c.in_ok-year.day = (n.0, n.1, n.2, sym c.as_bytes.ensures.value ∙ n.3) in
    let ok = rw (year, month, day) at c.new.ensures.succeeds in
    let is = rw (year, month, day) at c.new.ensures.value in
    rw (c.ok.ensures.value) (made_date (λ x. x.year) (λ x. x.month) (λ x. x.day) c.args.form c.args.text.now c.in_ok-year.year c.in_ok-year.month c.in_ok-year.day c.new.result has some ok is)
