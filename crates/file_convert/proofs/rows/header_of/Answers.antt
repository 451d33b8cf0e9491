use Rattle.std.proofs.Common.{◌∙◌, ◌++◌, ℕ, ◌<◌, List, length, map, subst, sym, ap, arith}
use Rattle.file_convert.specs.Rows.{AreTitled, no_title, plan_of, title_cells}
use Rattle.file_convert.proofs.RowLemmas.{one_more_title, plan_there, said_cells}
use Rattle.file_convert.proofs.rows.header_of.Goals as goal

pub loop-place-init : goal.loop-place-init
loop-place-init c =
    let P : List (List ℕ) → Type 0 = AreTitled (map plan_of c.args.reports.now) (said_cells c.args.titles.now) 0 in
    subst P (ap said_cells (sym c.new-row.ensures.items)) no_title

pub loop-place-preserved : goal.loop-place-preserved
loop-place-preserved c =
    let report = c.index-reports-place.result in
    let reports = c.args.reports.now in
    let within : c.loop-place.place < length reports = omega arith in
    one_more_title (map plan_of reports) (said_cells c.args.titles.now) c.loop-place.place (plan_of report) (said_cells c.loop-place.row.items)
    (said_cells c.push_titles.new.row.items) c.loop-place.invariant
    (plan_there plan_of reports c.loop-place.place report within c.index-reports-place.is)
    (c.in_ok-push_titles.ensures ∙ ap (λ (l : List ℕ). said_cells c.loop-place.row.items ++ title_cells report.kind l) c.cell_at.ensures)
