use Rattle.std.proofs.Common.{◌≡◌, ◌+◌, length, length-append, take, arith, subst, ap, ◌∙◌}
use Rattle.std.proofs.lemmas.List.{length-take, take_all}
use Rattle.cell_types.specs.Column.{column_view}
use Rattle.csv_fields.specs.Raw.{raw_view}
use Rattle.csv_fields.specs.Values.{value_in, value_or_null}
use Rattle.column_blocks.specs.Parts.{part_cells, PartHasValues}
use Rattle.column_blocks.specs.Readers.{TextReaderOf, texts_with, texts_with_cells}
use Rattle.column_blocks.proofs.PartLemmas.{cells_more, length-part_cells, one_more, values_more}
use Rattle.column_blocks.proofs.text_reader.TextReader.read_plain_part.Goals as goal

pub read_plain-requires-clause-room : goal.read_plain-requires-clause-room
read_plain-requires-clause-room c =
    let column = column_view c.args.column.now in
    let rows = take c.loop-row.row c.args.part.now.rows in
    let cells = part_cells column c.args.col rows in
    let size : length c.loop-row.self.cells ≡ length c.args.self.now.cells + length cells =
    ap (λ (r : TextReaderOf). length r.cells) c.loop-row.invariant.cells ∙ length-append c.args.self.now.cells cells in
    let total : c.loop-row.self.rows ≡ c.args.self.now.rows = ap (λ (r : TextReaderOf). r.rows) c.loop-row.invariant.cells in
    omega (arith, size, total, length-part_cells column c.args.col rows, length-take c.loop-row.row c.args.part.now.rows, c.requires.room, c.loop-row-test.true, c.rows-row-end.ensures)

pub loop-row-preserved : goal.loop-row-preserved
loop-row-preserved c =
    let column = column_view c.args.column.now in
    let part = c.args.part.now.rows in
    let raw = raw_view c.field_and_rest.result.0 in
    let old = c.args.self.now in
    let value = value_or_null (value_in (column, raw)) in
    let more = cells_more column c.args.col c.loop-row.row part raw c.field_and_rest.ensures.field in
    record {
      cells = c.in_ok-read_plain.ensures.cells ∙ ap (λ r. texts_with r value) c.loop-row.invariant.cells
          ∙ ap (λ cells. record { rows = old.rows; cells = cells })
          (one_more old.cells (part_cells column c.args.col (take c.loop-row.row part)) (part_cells column c.args.col (take (c.loop-row.row + 1) part)) value more);
      values = values_more column c.args.col c.loop-row.row part raw c.field_and_rest.ensures.field c.in_ok-read_plain.ensures.value c.loop-row.invariant.values;
    }

pub returns-clause-values : goal.returns-clause-values
returns-clause-values c =
    let part = c.args.part.now.rows in
    let whole : take c.loop-row.row part ≡ part = take_all c.loop-row.row part (omega (arith, c.loop-row-test.false, c.rows-row-end.ensures)) in
    subst (PartHasValues (column_view c.args.column.now) c.args.col) whole c.loop-row.invariant.values

pub returns-clause-cells : goal.returns-clause-cells
returns-clause-cells c =
    let part = c.args.part.now.rows in
    let whole : take c.loop-row.row part ≡ part = take_all c.loop-row.row part (omega (arith, c.loop-row-test.false, c.rows-row-end.ensures)) in
    c.loop-row.invariant.cells ∙ ap (λ rows. texts_with_cells c.args.self.now (part_cells (column_view c.args.column.now) c.args.col rows)) whole
