use Rattle.std.proofs.Common.{sym, ◌∙◌, w64}
use Rattle.std.proofs.lemmas.Int.{to_z-of_z}
use Rattle.cell_types.specs.Column.{column_view}
use Rattle.cell_types.specs.Value.{decimal}
use Rattle.cell_types.proofs.PlainLemmas.{decimal-fits, decimal-plain, plain-value}
use Rattle.cell_types.proofs.plain.read_plain_decimal.Goals as goal

pub returns-clause-plain : goal.returns-clause-plain
returns-clause-plain c =
    let is = sym c.in-Ok.ensures in
    rw (to_z-of_z w64 c.in-Ok.number (decimal-fits c.args.text.now c.in-Ok.number is))
    (decimal-plain (column_view c.args.column.now) c.args.text.now c.in-Ok.number c.requires is (sym c.is_null_text.ensures ∙ c.if-is_null_text.false))

pub returns-clause-value : goal.returns-clause-value
returns-clause-value c =
    let is = sym c.in-Ok.ensures in
    rw (to_z-of_z w64 c.in-Ok.number (decimal-fits c.args.text.now c.in-Ok.number is))
    (plain-value (column_view c.args.column.now) c.args.text.now (decimal c.in-Ok.number)
    (decimal-plain (column_view c.args.column.now) c.args.text.now c.in-Ok.number c.requires is (sym c.is_null_text.ensures ∙ c.if-is_null_text.false)))
