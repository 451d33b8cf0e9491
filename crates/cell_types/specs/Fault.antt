-- What a message calls the cause why a text has no value in a column.
use Rattle.std.specs.Prelude.{ℕ, List, codes}
use Rattle.cell_types.specs.declared.fault.CellFault.{CellFault}
use Rattle.cell_types.specs.declared.fault.CellFault.TheVariants.{NotInteger, OutOfRange, NotBoolean, NotDate, Missing, NotDecimal, TooFine, NoMemory}

-- the name of a fault in a message
abbrev pub cell_fault_name : CellFault → List ℕ
cell_fault_name NotInteger = codes "NotInteger"
cell_fault_name OutOfRange = codes "OutOfRange"
cell_fault_name NotBoolean = codes "NotBoolean"
cell_fault_name NotDate = codes "NotDate"
cell_fault_name Missing = codes "Missing"
cell_fault_name NotDecimal = codes "NotDecimal"
cell_fault_name TooFine = codes "TooFine"
cell_fault_name NoMemory = codes "NoMemory"
