use Rattle.std.proofs.Common.{◌+◌, ◌<◌, ◌≢◌, List, get_or, length, sym, refl, ◌∙◌, arith, ap, below_more, get_or-set_other, get_or-set_same, length-set}
use Rattle.cell_types.specs.Value.{CellValue, null}
use Rattle.reply_values.specs.Printed.{printed_value}
use Rattle.row_columns.specs.Cell.{cell_view}
use Rattle.cell_texts.proofs.SizeLemmas.{row_lent, value_lent}
use Rattle.cell_texts.specs.contracts.row_sizes.add_far_cells.{JSON-type}
use denote.Param.{number}
use Rattle.cell_texts.proofs.row_sizes.add_far_cells.Goals as goal

pub loop-i-init : goal.loop-i-init
loop-i-init g c = (refl, λ k h. absurd (omega (arith, h)))

pub loop-i-preserved : goal.loop-i-preserved
loop-i-preserved g c =
    let rows = c.args.columns.now.rows in
    let row = c.args.first + c.loop-i.i in
    let within : row < length rows = omega (arith, c.loop-i-test.true, c.min-i-end.ensures, c.requires.rows) in
    let lt : c.loop-i.i < length c.loop-i.cells = omega (arith, c.loop-i.invariant.0, c.loop-i-test.true, c.min-i-end.ensures) in (
      length-set c.loop-i.cells c.loop-i.i c.cell.result ∙ c.loop-i.invariant.0,
      below_more _ _
          (λ k h. let ne : k ≢ c.loop-i.i = omega arith in rw get_or-set_other (c.loop-i.invariant.1 k h))
          (rw get_or-set_same (sym (value_lent rows row c.args.col c.row_ref.result (cell_view c.cell.result) within c.row_ref.ensures.row c.cell.ensures))),
    )

pub cell_at-cell-requires-clause-read : goal.cell_at-cell-requires-clause-read
cell_at-cell-requires-clause-read g c = λ less.
    let rows = c.args.columns.now.rows in
    let row = c.args.first + c.loop-i-2.i in
    let within : row < length rows = omega (arith, c.loop-i-2-test.true, c.requires.rows) in
    c.loop-i.invariant.1 c.loop-i-2.i (omega (arith, less, c.loop-i.invariant.0, c.loop-i-2-test.true, c.loop-i-test.false, c.min-i-end.ensures))
    ∙ ap (λ (values : List CellValue). get_or values c.args.col null) (row_lent rows row c.row_ref-values.result within c.row_ref-values.ensures.row)

pub loop-i-2-preserved : goal.loop-i-2-preserved
loop-i-2-preserved g c =
    let rows = c.args.columns.now.rows in
    let row = c.args.first + c.loop-i-2.i in
    let within : row < length rows = omega (arith, c.loop-i-2-test.true, c.requires.rows) in
    let is = ap (λ (values : List CellValue). get_or values c.args.col null) (row_lent rows row c.row_ref-values.result within c.row_ref-values.ensures.row) ∙ sym c.cell_at-cell.ensures in (
      below_more _ _
          (λ k h. let ne : k ≢ c.loop-i-2.i = omega arith in rw get_or-set_other (c.loop-i-2.invariant.0 k h))
          (let lt : c.loop-i-2.i < length c.loop-i-2.sizes = omega arith in
          rw get_or-set_same (omega (arith, c.saturating_add.ensures, c.known_size.ensures, ap (λ v. length (printed_value (JSON-type (number g.row.JSON)) v)) is, c.loop-i-2.invariant.1 c.loop-i-2.i (omega arith)))),
      λ k h. let ne : k ≢ c.loop-i-2.i = omega arith in rw get_or-set_other (c.loop-i-2.invariant.1 k (omega arith)),
    )
