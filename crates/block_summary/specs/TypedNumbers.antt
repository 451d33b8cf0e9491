-- Numbers with their kinds, and the cells that they stand for.
use Rattle.std.specs.Prelude.{Option, None, Some}
use Rattle.cell_types.specs.Kind.{typed_cell}
use Rattle.cell_types.specs.Value.{CellValue, null}
use Rattle.block_summary.specs.declared.typed_number.TypedNumber.{TypedNumber}

abbrev pub typed_number_cell : TypedNumber → CellValue
typed_number_cell n = typed_cell n.kind n.number

abbrev pub typed_number_or_null : Option TypedNumber → CellValue
typed_number_or_null None = null
typed_number_or_null (Some n) = typed_number_cell n
