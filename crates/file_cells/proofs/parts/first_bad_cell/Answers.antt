use Rattle.std.proofs.Common.{◌≡◌, ◌+◌, ◌≤◌, None, length, map, inl, inr, sym, ap, ◌∙◌, arith}
use Rattle.std.proofs.lemmas.List.{drop_all}
use Rattle.cell_types.specs.Column.{column_view}
use Rattle.file_cells.specs.Rows.{wrong_of}
use Rattle.file_cells.proofs.PartLemmas.{values_by_column, wrong_of-here, wrong_of-past}
use Rattle.file_cells.proofs.RowLemmas.{rows_from-none}
use Rattle.file_cells.proofs.parts.first_bad_cell.Goals as goal

pub returns-in-Some : goal.returns-in-Some
returns-in-Some c =
    let columns = map column_view c.args.columns.now in
    let part = c.args.part.now.rows in
    elim c.in-Some.ensures [
      | inl memory ↦ inl memory
      | inr e ↦ inr (sym c.loop-row.invariant ∙ wrong_of-here c.args.first c.loop-row.row columns part c.in-Some.col c.in-Some.fault (omega arith) e)
    ]

pub loop-row-preserved : goal.loop-row-preserved
loop-row-preserved c =
    sym (wrong_of-past c.args.first c.loop-row.row (map column_view c.args.columns.now) c.args.part.now.rows (omega arith) c.in_default.ensures)
    ∙ c.loop-row.invariant

pub unreachable-requires : goal.unreachable-requires
unreachable-requires c =
    let columns = map column_view c.args.columns.now in
    let part = c.args.part.now.rows in
    let past : length part ≤ c.loop-row.row = omega arith in
    let none : wrong_of c.args.first columns part ≡ None =
    sym c.loop-row.invariant ∙ ap (wrong_of (c.args.first + c.loop-row.row) columns) (drop_all c.loop-row.row part past) in
    c.requires.bad (values_by_column columns part (rows_from-none c.args.first columns part none).0)
