use Rattle.std.proofs.Common.{arith}
use Rattle.odata_lex.specs.Token.{IsDateForm}
use Rattle.odata_lex.proofs.Dates.{Decides-date_form, year_small, month_small, day_small, date_or_none}
use Rattle.odata_lex.proofs.date.date_in.Goals as goal

pub returns-then-not-is_date_form : goal.returns-then-not-is_date_form
returns-then-not-is_date_form c = λ date. let yes = (Decides-date_form c.args.text.now).1 date.form in cc (yes, c.is_date_form.ensures, c.if-not-is_date_form.true)

pub number-year-requires-clause-digits : goal.number-year-requires-clause-digits
number-year-requires-clause-digits c = ((Decides-date_form c.args.text.now).0 (cc (c.is_date_form.ensures, c.if-not-is_date_form.false))).year

pub number-month-requires-clause-digits : goal.number-month-requires-clause-digits
number-month-requires-clause-digits c = ((Decides-date_form c.args.text.now).0 (cc (c.is_date_form.ensures, c.if-not-is_date_form.false))).month

pub number-day-requires-clause-digits : goal.number-day-requires-clause-digits
number-day-requires-clause-digits c = ((Decides-date_form c.args.text.now).0 (cc (c.is_date_form.ensures, c.if-not-is_date_form.false))).day

pub calendar_day-requires-clause-year : goal.calendar_day-requires-clause-year
calendar_day-requires-clause-year c =
    let form : IsDateForm c.args.text.now = (Decides-date_form c.args.text.now).0 (cc (c.is_date_form.ensures, c.if-not-is_date_form.false)) in
    omega (arith, year_small c.args.text.now form, c.number-year.ensures)

pub calendar_day-requires-clause-month : goal.calendar_day-requires-clause-month
calendar_day-requires-clause-month c =
    let form : IsDateForm c.args.text.now = (Decides-date_form c.args.text.now).0 (cc (c.is_date_form.ensures, c.if-not-is_date_form.false)) in
    omega (arith, month_small c.args.text.now form, c.number-month.ensures)

pub calendar_day-requires-clause-day : goal.calendar_day-requires-clause-day
calendar_day-requires-clause-day c =
    let form : IsDateForm c.args.text.now = (Decides-date_form c.args.text.now).0 (cc (c.is_date_form.ensures, c.if-not-is_date_form.false)) in
    omega (arith, day_small c.args.text.now form, c.number-day.ensures)

pub returns : goal.returns
returns c =
    let form : IsDateForm c.args.text.now = (Decides-date_form c.args.text.now).0 (cc (c.is_date_form.ensures, c.if-not-is_date_form.false)) in
    date_or_none c.args.text.now _ _ _ c.calendar_day.result form c.number-year.ensures c.number-month.ensures c.number-day.ensures c.calendar_day.ensures
