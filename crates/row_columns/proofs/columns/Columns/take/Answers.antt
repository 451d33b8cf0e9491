use Rattle.std.proofs.Common.{◌≡◌, length, sym, ap, ◌∙◌, arith}
use Rattle.std.proofs.lemmas.List.{length-map}
use Rattle.cell_types.specs.Column.{column_view, ColumnOf}
use Rattle.cell_types.specs.Kind.{kind_of}
use Rattle.table_store.specs.Schema.{SchemaOf}
use Rattle.row_columns.specs.Kinds.{kinds_of, of_kind}
use Rattle.row_columns.specs.Numbers.{numbers_from}
use Rattle.row_columns.specs.Picked.{numbered}
use Rattle.row_columns.proofs.NumberedLaws.{all_within, kinds_whole}
use Rattle.row_columns.proofs.RowLemmas.{numbered_wide, table_rows_picked}
use Rattle.row_columns.proofs.columns.Columns.take.Goals as goal
use Rattle.row_columns.proofs.columns.Columns.take.Goals.{After-as_slice}

places : (c : After-as_slice) → c.as_slice.result.now ≡ numbers_from 0 (length c.args.block.now.schema.columns)
places c =
    let own = c.schema.result.now.columns in
    rw (c.as_slice.ensures.value, c.in-Ok.ensures, c.all.ensures)
    (ap (numbers_from 0) (omega (arith, c.len.ensures, length-map own.items column_view, ap (λ (s : SchemaOf). length s.columns) c.schema.ensures, own.ok.0)))

pub take_places-requires-clause-kinds : goal.take_places-requires-clause-kinds
take_places-requires-clause-kinds c =
    let columns = c.args.block.now.schema.columns in
    let whole = kinds_whole (kinds_of columns) in
    rw (places (goal.at.take_places-requires-clause-kinds c).After-as_slice)
    (c.requires.kinds ∙ sym (rw (length-map columns (λ (column : ColumnOf). of_kind (kind_of column.datatype))) at whole))

pub take_places-requires-clause-places : goal.take_places-requires-clause-places
take_places-requires-clause-places c = rw (places (goal.at.take_places-requires-clause-places c).After-as_slice) (all_within (length c.args.block.now.schema.columns))

pub returns-in-Ok-clause-rows : goal.returns-in-Ok-clause-rows
returns-in-Ok-clause-rows c =
    let columns = c.args.block.now.schema.columns in
    let wide = numbered_wide columns c.args.block.now.rows c.args.rows c.values_fit.ensures.each c.requires.within in
    rw (places (goal.at.returns-in-Ok-clause-rows c).After-as_slice, table_rows_picked (numbered c.args.rows c.args.block.now.rows) (length columns) wide) at c.take_places.ensures.rows
