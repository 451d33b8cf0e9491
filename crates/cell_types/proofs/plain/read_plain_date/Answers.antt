use Rattle.std.proofs.Common.{sym, ◌∙◌}
use Rattle.cell_types.specs.Column.{column_view}
use Rattle.cell_types.specs.Value.{date}
use Rattle.cell_types.proofs.PlainLemmas.{date-plain, no_date-plain, plain-value}
use Rattle.cell_types.proofs.plain.read_plain_date.Goals as goal

pub returns-in_err-date-clause-plain : goal.returns-in_err-date-clause-plain
returns-in_err-date-clause-plain c =
    rw c.from_residual.ensures (λ v. no_date-plain (column_view c.args.column.now) c.args.form c.args.text.now v c.requires c.in_err-date.ensures)

pub returns-clause-plain : goal.returns-clause-plain
returns-clause-plain c =
    let d = c.in_ok-date.date in
    date-plain (column_view c.args.column.now) c.args.form c.args.text.now d.year d.month d.day c.requires c.in_ok-date.ensures (sym c.is_null_text.ensures ∙ c.if-is_null_text.false)

pub returns-clause-value : goal.returns-clause-value
returns-clause-value c =
    let d = c.in_ok-date.date in
    plain-value (column_view c.args.column.now) c.args.text.now (date d.year d.month d.day)
    (date-plain (column_view c.args.column.now) c.args.form c.args.text.now d.year d.month d.day c.requires c.in_ok-date.ensures (sym c.is_null_text.ensures ∙ c.if-is_null_text.false))
