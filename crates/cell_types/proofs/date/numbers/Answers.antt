-- A part that is no number of its digits.
use Rattle.cell_types.proofs.DateLemmas.{no_year, no_month, no_day}
use Rattle.cell_types.proofs.date.numbers.Goals as goal

pub returns-in_err-year-2 : goal.returns-in_err-year-2
returns-in_err-year-2 c = rw c.from_residual-in_err-year-2.ensures (no_year c.args.form c.args.text.now c.in_ok-year.year c.in_ok-year.month c.in_ok-year.day c.in_ok-year.ensures c.in_err-year-2.ensures)

pub returns-in_err-month : goal.returns-in_err-month
returns-in_err-month c = rw c.from_residual-in_err-month.ensures (no_month c.args.form c.args.text.now c.in_ok-year.year c.in_ok-year.month c.in_ok-year.day c.in_ok-year.ensures c.in_err-month.ensures)

pub returns-in_err-day : goal.returns-in_err-day
returns-in_err-day c = rw c.from_residual-in_err-day.ensures (no_day c.args.form c.args.text.now c.in_ok-year.year c.in_ok-year.month c.in_ok-year.day c.in_ok-year.ensures c.in_err-day.ensures)
