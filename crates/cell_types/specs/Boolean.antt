-- Booleans (Metadata Vocabulary for Tabular Data, section 5.11.2; Model for Tabular Data and Metadata on the Web, section 6.4.3).
use Rattle.std.specs.Prelude.{ℕ, Bool, List, Option, Some, None, true, false, if◌then◌else◌, Result, Ok, Err}
use Rattle.std.specs.List.{list_any}
use Rattle.std.specs.Str.{bytes_eq}
use Rattle.cell_types.specs.declared.fault.CellFault.{CellFault}
use Rattle.cell_types.specs.declared.fault.CellFault.TheVariants.{NotBoolean}
use Rattle.cell_types.specs.Value.{CellValue, boolean}

-- true where the text is among those of true, false where it is among those of false
abbrev pub boolean_of : List (List ℕ) → List (List ℕ) → List ℕ → Result CellValue CellFault
boolean_of of_true of_false bytes =
    if list_any (λ other. bytes_eq other bytes) of_true then Ok (boolean true)
    else (if list_any (λ other. bytes_eq other bytes) of_false then Ok (boolean false) else Err NotBoolean)

-- the value that a boolean is, and the fault that none is
abbrev pub truth_reading : Option Bool → Result CellValue CellFault
truth_reading (Some truth) = Ok (boolean truth)
truth_reading None = Err NotBoolean
