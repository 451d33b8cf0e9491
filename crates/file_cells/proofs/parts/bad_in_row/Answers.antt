use Rattle.std.proofs.Common.{[], get_or, inl, inr, sym, ap, ◌∙◌}
use Rattle.std.specs.Result.{result_err}
use Rattle.csv_fields.specs.Raw.{raw_view}
use Rattle.file_cells.proofs.PartLemmas.{cell_field}
use Rattle.file_cells.proofs.PlaceLemmas.{slice_get-from_read}
use Rattle.file_cells.proofs.RowLemmas.{wrong_from-end, wrong_from-here, wrong_from-past}
use Rattle.file_cells.proofs.parts.bad_in_row.Goals as goal

pub returns-in-Err : goal.returns-in-Err
returns-in-Err c =
    let col = c.loop-col.col in
    let columns = c.args.columns.now in
    let part = c.args.part.now.rows in
    let at = slice_get-from_read columns col c.index-columns-col.result c.loop-col-test.true c.index-columns-col.is in
    let here = cell_field part c.args.row col (raw_view c.field.result) c.field.ensures in
    elim c.in-Err.ensures.fault [
      | inl memory ↦ inl memory
      | inr e ↦
          inr (sym c.loop-col.invariant
          ∙ wrong_from-here columns (get_or part c.args.row []) col c.index-columns-col.result (raw_view c.field.result) c.in-Err.fault at here e)
    ]

pub loop-col-preserved : goal.loop-col-preserved
loop-col-preserved c =
    let col = c.loop-col.col in
    let columns = c.args.columns.now in
    let part = c.args.part.now.rows in
    let at = slice_get-from_read columns col c.index-columns-col.result c.loop-col-test.true c.index-columns-col.is in
    let here = cell_field part c.args.row col (raw_view c.field.result) c.field.ensures in
    sym (wrong_from-past columns (get_or part c.args.row []) col c.index-columns-col.result (raw_view c.field.result) at here (ap result_err c.in-Ok.ensures.value))
    ∙ c.loop-col.invariant

pub returns : goal.returns
returns c =
    sym c.loop-col.invariant ∙ wrong_from-end c.args.columns.now (get_or c.args.part.now.rows c.args.row []) c.loop-col.col c.loop-col-test.false
