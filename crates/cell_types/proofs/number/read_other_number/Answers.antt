use Rattle.cell_types.specs.Column.{column_view}
use Rattle.cell_types.specs.Value.{value_view}
use Rattle.cell_types.proofs.ReadingLemmas.{fits-column}
use Rattle.cell_types.proofs.number.read_other_number.Goals as goal

pub number_of_value-requires : goal.number_of_value-requires
number_of_value-requires c =
    fits-column c.dates_read_back.ensures (column_view c.args.column.now) c.args.kind (value_view c.in-Ok.value) c.requires
    (c.values_fit_columns.ensures (column_view c.args.column.now) c.args.text.now (value_view c.in-Ok.value) c.in-Ok.ensures.value)
