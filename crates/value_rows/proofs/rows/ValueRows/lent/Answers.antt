use Rattle.std.proofs.Common.{◌<◌, [], get_or, length, sym, ap, ◌∙◌, arith}
use Rattle.cell_types.specs.Value.{null}
use Rattle.value_rows.specs.ValueRows.{ValueRowsOf}
use Rattle.value_rows.proofs.RowLaws.{item-at, row-inside, rows-long}
use Rattle.value_rows.proofs.rows.ValueRows.lent.Goals as goal

pub overflow_mul-row : goal.overflow_mul-row
overflow_mul-row c =
    let less : c.args.row < c.self.inside.count = omega (arith, c.requires.row, ap (λ (v : ValueRowsOf). length v.rows) c.self.view_is, rows-long c.self.inside.width c.self.inside.count c.self.inside.values) in
    let within : c.args.col < c.self.inside.width = omega (arith, c.requires.col, ap (λ (v : ValueRowsOf). v.width) c.self.view_is) in
    omega (arith, row-inside c.self.inside.width c.self.inside.count c.args.row less, within, c.self.invariant, c.are_few.ensures)

pub overflow_add-row : goal.overflow_add-row
overflow_add-row c =
    let less : c.args.row < c.self.inside.count = omega (arith, c.requires.row, ap (λ (v : ValueRowsOf). length v.rows) c.self.view_is, rows-long c.self.inside.width c.self.inside.count c.self.inside.values) in
    let within : c.args.col < c.self.inside.width = omega (arith, c.requires.col, ap (λ (v : ValueRowsOf). v.width) c.self.view_is) in
    omega (arith, row-inside c.self.inside.width c.self.inside.count c.args.row less, within, c.self.invariant, c.are_few.ensures)

pub lent-requires : goal.lent-requires
lent-requires c =
    let less : c.args.row < c.self.inside.count = omega (arith, c.requires.row, ap (λ (v : ValueRowsOf). length v.rows) c.self.view_is, rows-long c.self.inside.width c.self.inside.count c.self.inside.values) in
    let within : c.args.col < c.self.inside.width = omega (arith, c.requires.col, ap (λ (v : ValueRowsOf). v.width) c.self.view_is) in
    omega (arith, row-inside c.self.inside.width c.self.inside.count c.args.row less, within, c.self.invariant, c.are_few.ensures)

pub returns : goal.returns
returns c =
    let less : c.args.row < c.self.inside.count = omega (arith, c.requires.row, ap (λ (v : ValueRowsOf). length v.rows) c.self.view_is, rows-long c.self.inside.width c.self.inside.count c.self.inside.values) in
    let within : c.args.col < c.self.inside.width = omega (arith, c.requires.col, ap (λ (v : ValueRowsOf). v.width) c.self.view_is) in
    c.lent.ensures ∙ sym (item-at c.self.inside.width c.self.inside.count c.self.inside.values c.args.row c.args.col null less within)
    ∙ ap (λ (v : ValueRowsOf). get_or (get_or v.rows c.args.row []) c.args.col null) c.self.view_is
