use Rattle.std.proofs.Common.{◌≡◌, ◌+◌, length, length-append, take, arith, sym, subst, ap, ◌∙◌}
use Rattle.std.proofs.lemmas.List.{length-take, take_all}
use Rattle.cell_types.specs.declared.kind.ColumnKind.TheVariants.{Number}
use Rattle.cell_types.specs.Column.{column_view}
use Rattle.csv_fields.specs.Raw.{raw_view}
use Rattle.csv_fields.specs.Values.{value_in, value_or_null}
use Rattle.column_blocks.specs.Parts.{part_cells, PartHasValues}
use Rattle.column_blocks.specs.Readers.{NumberReaderOf, numbers_with, numbers_with_cells}
use Rattle.column_blocks.proofs.PartLemmas.{cells_more, length-part_cells, one_more, told, values_more}
use Rattle.column_blocks.proofs.number_reader.NumberReader.read_part.Goals as goal

pub read-requires-clause-room : goal.read-requires-clause-room
read-requires-clause-room c =
    let column = column_view c.args.column.now in
    let rows = take c.loop-row.row c.args.part.now.rows in
    let cells = part_cells column c.args.col rows in
    let size : length c.loop-row.self.cells ≡ length c.args.self.now.cells + length cells =
    ap (λ (r : NumberReaderOf). length r.cells) c.loop-row.invariant.cells ∙ length-append c.args.self.now.cells cells in
    let total : c.loop-row.self.rows ≡ c.args.self.now.rows = ap (λ (r : NumberReaderOf). r.rows) c.loop-row.invariant.cells in
    omega (arith, size, total, length-part_cells column c.args.col rows, length-take c.loop-row.row c.args.part.now.rows, c.requires.room, c.loop-row-test.true, c.rows-row-end.ensures)

pub read-requires-clause-column : goal.read-requires-clause-column
read-requires-clause-column c =
    c.requires.column ∙ ap Number (sym (ap (λ (r : NumberReaderOf). r.kind) c.loop-row.invariant.cells))

pub returns-in-Err-clause-fault : goal.returns-in-Err-clause-fault
returns-in-Err-clause-fault c =
    told (column_view c.args.column.now) c.args.col c.loop-row.row c.args.part.now.rows (raw_view c.field.result) c.in-Err.fault c.field.ensures c.in-Err.ensures.fault

pub loop-row-preserved : goal.loop-row-preserved
loop-row-preserved c =
    let column = column_view c.args.column.now in
    let part = c.args.part.now.rows in
    let raw = raw_view c.field.result in
    let old = c.args.self.now in
    let value = value_or_null (value_in (column, raw)) in
    let more = cells_more column c.args.col c.loop-row.row part raw c.field.ensures in
    record {
      cells = c.in-Ok.ensures.cells ∙ ap (λ r. numbers_with r value) c.loop-row.invariant.cells
          ∙ ap (λ cells. record { kind = old.kind; rows = old.rows; cells = cells })
          (one_more old.cells (part_cells column c.args.col (take c.loop-row.row part)) (part_cells column c.args.col (take (c.loop-row.row + 1) part)) value more);
      values = values_more column c.args.col c.loop-row.row part raw c.field.ensures c.in-Ok.ensures.value c.loop-row.invariant.values;
    }

pub returns-clause-values : goal.returns-clause-values
returns-clause-values c =
    let part = c.args.part.now.rows in
    let whole : take c.loop-row.row part ≡ part = take_all c.loop-row.row part (omega (arith, c.loop-row-test.false, c.rows-row-end.ensures)) in
    subst (PartHasValues (column_view c.args.column.now) c.args.col) whole c.loop-row.invariant.values

pub returns-clause-cells : goal.returns-clause-cells
returns-clause-cells c =
    let part = c.args.part.now.rows in
    let whole : take c.loop-row.row part ≡ part = take_all c.loop-row.row part (omega (arith, c.loop-row-test.false, c.rows-row-end.ensures)) in
    c.loop-row.invariant.cells ∙ ap (λ rows. numbers_with_cells c.args.self.now (part_cells (column_view c.args.column.now) c.args.col rows)) whole
