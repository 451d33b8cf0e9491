-- The line of each column after those before it.
use Rattle.std.proofs.Common.{◌≡◌, ◌≤◌, ◌∙◌, ◌++◌, ℕ, List, ap, append_assoc, arith, length, map}
use Rattle.std.proofs.lemmas.List.{length-map}
use Rattle.cell_types.specs.Column.{column_view}
use Rattle.csvw_meta.specs.Schema.{SchemaOf}
use Rattle.catalog_sheet.specs.Show.{column_lines, shown_table}
use Rattle.catalog_sheet.proofs.ShowLemmas.{lines-end, lines-step}
use Rattle.catalog_sheet.proofs.show.push_table.Goals as goal

pub loop-col-init : goal.loop-col-init
loop-col-init c whole =
    let table = c.args.table.now in
    let lines = column_lines table 0 table.schema.columns in
    let front = c.push_line.ensures whole in
    (front.0, ap (λ (ns : List ℕ). ns ++ lines) front.1 ∙ append_assoc c.args.sheet.now.bytes.items (shown_table table) lines)

pub bounds-columns-col : goal.bounds-columns-col
bounds-columns-col c = c.loop-col-test.true

pub push_column-requires : goal.push_column-requires
push_column-requires c =
    let columns = c.as_slice-columns.result.now in
    let same : map column_view columns ≡ c.args.table.now.schema.columns = ap (map column_view) c.as_slice-columns.ensures.value ∙ ap (λ (s : SchemaOf). s.columns) c.schema.ensures in
    rw (← same, length-map columns column_view) c.loop-col-test.true

pub loop-col-preserved : goal.loop-col-preserved
loop-col-preserved c whole =
    let same : map column_view c.as_slice-columns.result.now ≡ c.args.table.now.schema.columns =
    ap (map column_view) c.as_slice-columns.ensures.value ∙ ap (λ (s : SchemaOf). s.columns) c.schema.ensures in
    let line = c.push_column.ensures whole in
    let before = c.loop-col.invariant line.0 in (
      before.0,
      lines-step c.args.table.now c.as_slice-columns.result.now c.loop-col.col c.index-columns-col.result _ _ _ same c.loop-col-test.true
          c.index-columns-col.is line.1 before.1,
    )

pub returns : goal.returns
returns c whole =
    let same : map column_view c.as_slice-columns.result.now ≡ c.args.table.now.schema.columns =
    ap (map column_view) c.as_slice-columns.ensures.value ∙ ap (λ (s : SchemaOf). s.columns) c.schema.ensures in
    let end : length c.as_slice-columns.result.now ≤ c.loop-col.col = omega arith in
    let before = c.loop-col.invariant whole in (
      before.0,
      lines-end c.args.table.now c.as_slice-columns.result.now c.loop-col.col _ _ same end before.1,
    )
