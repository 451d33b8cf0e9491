-- What metadata is refused for, and the text of it.
use Rattle.std.specs.Prelude.{ℕ, List, ◌++◌, codes, Option, None, Some, string_bytes}
use Rattle.text_escapes.specs.Escapes.{escaped}
use Rattle.csvw_meta.specs.declared.fault.MetaFault.{MetaFault}
use Rattle.csvw_meta.specs.declared.fault.MetaFault.TheVariants as meta

-- the name of a fault
abbrev pub meta_fault_name : MetaFault → List ℕ
meta_fault_name meta.NotJson = codes "NotJson"
meta_fault_name meta.NotObject = codes "NotObject"
meta_fault_name meta.NoTables = codes "NoTables"
meta_fault_name meta.TooManyTables = codes "TooManyTables"
meta_fault_name meta.BadUrl = codes "BadUrl"
meta_fault_name meta.DuplicateUrl = codes "DuplicateUrl"
meta_fault_name (meta.Unsupported key) = codes "Unsupported"
meta_fault_name meta.NoColumns = codes "NoColumns"
meta_fault_name meta.TooManyColumns = codes "TooManyColumns"
meta_fault_name meta.BadName = codes "BadName"
meta_fault_name meta.DuplicateName = codes "DuplicateName"
meta_fault_name meta.BadDatatype = codes "BadDatatype"
meta_fault_name meta.BadFormat = codes "BadFormat"
meta_fault_name meta.BadNull = codes "BadNull"
meta_fault_name meta.BadDefault = codes "BadDefault"
meta_fault_name meta.BadRequired = codes "BadRequired"
meta_fault_name meta.BadTitles = codes "BadTitles"
meta_fault_name meta.BadKey = codes "BadKey"
meta_fault_name meta.NoMemory = codes "NoMemory"

-- what metadata is refused for: the name of its fault, and after Unsupported a space and the key as it stands in the metadata
abbrev pub MetaCause : Type 0
MetaCause = List ℕ

-- a member or a datatype that is not served, by its name
abbrev pub unsupported : List ℕ → MetaCause
unsupported key = codes "Unsupported " ++ key

-- what a fault says
abbrev pub fault_cause : MetaFault → MetaCause
fault_cause (meta.Unsupported key) = unsupported (string_bytes key)
fault_cause fault = meta_fault_name fault

-- the text of a fault: what it says, where each control character of the key is written as `\u` and four hexadecimal digits
abbrev pub meta_fault_text : MetaFault → List ℕ
meta_fault_text (meta.Unsupported key) = unsupported (escaped (string_bytes key))
meta_fault_text fault = meta_fault_name fault

-- the cause that a fault is; out of memory is none
abbrev pub meta_cause : MetaFault → Option MetaCause
meta_cause meta.NoMemory = None
meta_cause fault = Some (fault_cause fault)
