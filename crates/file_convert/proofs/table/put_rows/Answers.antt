use Rattle.std.proofs.Common.{◌≡◌, ◌∙◌, ℕ, ◌<◌, List, [], length, map, ap, subst, sym, refl, Global, arith}
use Rattle.std.specs.declared.borrow.CowSlice.{CowSlice}
use Rattle.std.proofs.lemmas.List.{length-map}
use Rattle.csv_records.specs.Exchange.{exchanged}
use Rattle.file_convert.specs.Conversion.{PutsRow}
use Rattle.file_convert.specs.Rows.{Plan, plan_of}
use Rattle.file_convert.proofs.RecordLemmas.{shorter}
use Rattle.file_convert.proofs.RowLemmas.{no_items, said_cells, some_mapped, when_ok}
use Rattle.file_convert.proofs.TableLemmas.{RowsSoFar, no_row_so_far, row_more, rows_done}
use Rattle.file_convert.proofs.table.put_rows.Goals as goal

pub loop-left-init : goal.loop-left-init
loop-left-init c = record {
  plans = refl;
  rows = no_row_so_far (map plan_of c.args.reports.now) c.args.how (map (exchanged c.args.how.separator) c.args.text.now) c.args.out.now.items;
}

pub loop-left-preserved : goal.loop-left-preserved
loop-left-preserved c =
    let E : List ℕ → List ℕ = λ l. map (exchanged c.args.how.separator) l in
    let read = c.in_ok-read.read in
    let left = c.loop-left.left.now in
    let now = c.loop-left.out.items in
    let after = c.put_row.new.out.items in
    let long : 0 < length (E left) =
    some_mapped (exchanged c.args.how.separator) left (sym c.is_empty.ensures ∙ c.loop-left-test.true) in
    let put : PutsRow (map plan_of c.loop-left.reports) c.args.how (said_cells c.as_slice.result.now) now after =
    when_ok c.put_row.result c.in_ok-put_row.field-0 c.in_ok-put_row.was c.put_row.ensures.row in
    let C : List (CowSlice ℕ Global) → Type 0 = λ l. PutsRow (map plan_of c.loop-left.reports) c.args.how (said_cells l) now after in
    let P : List Plan → Type 0 = λ l. PutsRow l c.args.how (said_cells read.cells.items) now after in
    record {
      plans = c.put_row.ensures.plans ∙ c.loop-left.invariant.plans;
      rows = row_more (map plan_of c.args.reports.now) c.args.how (E c.args.text.now) (E left) c.args.out.now.items now after (said_cells read.cells.items)
          (E read.rest.now) c.loop-left.invariant.rows long c.in_ok-read.ensures (subst P c.loop-left.invariant.plans (subst C c.as_slice.ensures.value put));
    }

pub loop-left-smaller : goal.loop-left-smaller
loop-left-smaller c =
    let E : List ℕ → List ℕ = λ l. map (exchanged c.args.how.separator) l in
    let left = c.loop-left.left.now in
    let rest = c.in_ok-read.read.rest.now in
    let long : 0 < length (E left) =
    some_mapped (exchanged c.args.how.separator) left (sym c.is_empty.ensures ∙ c.loop-left-test.true) in
    omega (
      arith,
      shorter c.args.how.separator (E left) (said_cells c.in_ok-read.read.cells.items) (E rest) c.in_ok-read.ensures long,
      length-map left (exchanged c.args.how.separator),
      length-map rest (exchanged c.args.how.separator),
    )

pub returns-clause-rows : goal.returns-clause-rows
returns-clause-rows c =
    let E : List ℕ → List ℕ = λ l. map (exchanged c.args.how.separator) l in
    let left = c.loop-left.left.now in
    let none : E left ≡ [] =
    ap E (no_items left (sym c.is_empty.ensures ∙ c.loop-left-test.false)) in
    let R : List ℕ → Type 0 =
    λ l. RowsSoFar (map plan_of c.args.reports.now) c.args.how (E c.args.text.now) l c.args.out.now.items c.loop-left.out.items in
    rows_done (map plan_of c.args.reports.now) c.args.how (E c.args.text.now) c.args.out.now.items c.loop-left.out.items
    (subst R none c.loop-left.invariant.rows)
