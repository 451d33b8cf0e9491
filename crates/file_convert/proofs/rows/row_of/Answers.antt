use Rattle.std.proofs.Common.{◌≡◌, ◌∙◌, ℕ, ◌<◌, List, length, map, subst, sym, ap, refl, arith, slice_get, get_or, Some}
use Rattle.file_convert.specs.Rows.{AppendsCells, AreWritten, Plan, no_column, plan_of}
use Rattle.file_convert.proofs.RowLemmas.{map_set_same, one_more_column, said_cells, slice_get-map, when_ok}
use Rattle.file_convert.proofs.rows.row_of.Goals as goal

pub loop-place-init : goal.loop-place-init
loop-place-init c =
    let P : List (List ℕ) → Type 0 = AreWritten (map plan_of c.args.reports.now) (said_cells c.args.cells.now) 0 in
    record { plans = refl; row = subst P (ap said_cells (sym c.new-row.ensures.items)) no_column }

pub returns-in_err-write-clause-plans : goal.returns-in_err-write-clause-plans
returns-in_err-write-clause-plans c =
    map_set_same plan_of c.loop-place.reports c.loop-place.place c.write.new.self c.index-reports-place.result c.write.ensures.plan ∙ c.loop-place.invariant.plans

pub loop-place-preserved : goal.loop-place-preserved
loop-place-preserved c =
    let reports = c.loop-place.reports in
    let place = c.loop-place.place in
    let report = get_or reports place c.index-reports-place.result in
    let plans = map plan_of c.args.reports.now in
    let within : place < length reports = omega arith in
    let there : slice_get plans place ≡ Some (plan_of report) =
    ap (λ (l : List Plan). slice_get l place) (sym c.loop-place.invariant.plans) ∙ slice_get-map plan_of reports place c.index-reports-place.result within in
    let P : List ℕ → Type 0 = λ l. AppendsCells (plan_of report) l (said_cells c.loop-place.row.items) (said_cells c.write.new.row.items) in
    let wrote : AppendsCells (plan_of report) c.cell_at.result.now (said_cells c.loop-place.row.items) (said_cells c.write.new.row.items) =
    when_ok c.write.result c.in_ok-write.field-0 c.in_ok-write.was c.write.ensures.cells in
    record {
      plans = map_set_same plan_of reports place c.write.new.self c.index-reports-place.result c.write.ensures.plan ∙ c.loop-place.invariant.plans;
      row = one_more_column plans (said_cells c.args.cells.now) place (plan_of report) (said_cells c.loop-place.row.items) (said_cells c.write.new.row.items)
          c.loop-place.invariant.row there (subst P c.cell_at.ensures wrote);
    }
