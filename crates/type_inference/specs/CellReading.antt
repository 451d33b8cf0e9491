-- What a cell is in a column.
use Rattle.std.specs.Prelude.{Result, Ok, Err}
use Rattle.cell_types.specs.declared.fault.CellFault.{CellFault}
use Rattle.cell_types.specs.Value.{CellValue, null}
use Rattle.type_inference.specs.declared.reading.CellReading.{CellReading}
use Rattle.type_inference.specs.declared.reading.CellReading.TheVariants.{IsNull, HasValue, HasNone}

-- what a reading says of a cell
abbrev pub reading_of : Result CellValue CellFault → CellReading
reading_of (Ok null) = IsNull
reading_of (Ok value) = HasValue
reading_of (Err fault) = HasNone
