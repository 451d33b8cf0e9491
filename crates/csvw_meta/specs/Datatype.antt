-- Datatypes and their formats (Metadata Vocabulary for Tabular Data, section 5.11; Model for Tabular Data and Metadata on the Web, section 6.4).
use Rattle.std.specs.Prelude.{ℕ, Bool, false, not, ◌||◌, List, [], ◌∷◌, ◌++◌, codes, Option, None, Some, option_map, option_and_then, is_some, unwrap_or, if◌then◌else◌}
use Rattle.serde_json.specs.Data.{Data, string, object}
use Rattle.serde_json.specs.Find.{as_str}
use Rattle.cell_types.specs.Datatype as cell
use Rattle.cell_types.specs.Datatype.{DatatypeOf, boolean_view, pattern_of}
use Rattle.datatype_texts.specs.Names.{datatype_named, has_formats, with_format}
use Rattle.csvw_meta.specs.Fault.{unsupported}
use Rattle.csvw_meta.specs.Refusal.{Condition, ensure}
use Rattle.csvw_meta.specs.Members.{member, has, absent}

-- the name of a datatype: a text, or what an object has for `base`, which is `string` where it has none
abbrev pub datatype_name : Data → Option (List ℕ)
datatype_name (string name) = Some name
datatype_name (object ms) = as_str (unwrap_or (member (codes "base") (object ms)) (string (codes "string")))
datatype_name d = None

-- the datatype of that name, as it is without a format
abbrev pub base_in : Data → Option DatatypeOf
base_in d = option_and_then datatype_named (datatype_name d)

-- it has no format, or is a datatype whose texts have one
abbrev pub may_have_format : Data → Bool
may_have_format d = not (has (codes "format") d) || unwrap_or (option_map has_formats (base_in d)) false

-- a datatype with a format: of a boolean the texts of true and of false, of a date its form
abbrev pub datatype_with : DatatypeOf → Option Data → Option DatatypeOf
datatype_with base None = Some base
datatype_with base (Some d) = if has_formats base then option_and_then (with_format base) (as_str d) else Some base

-- the datatype that a value is, where it is one that is served
abbrev pub datatype_in : Data → Option DatatypeOf
datatype_in d = option_and_then (λ base. datatype_with base (member (codes "format") d)) (base_in d)

-- the constraints of section 5.11.2, which are not served
unfoldable pub constraint_conditions : Data → List Condition
constraint_conditions d =
    absent (codes "length") d
    ∷ absent (codes "minLength") d
    ∷ absent (codes "maxLength") d
    ∷ absent (codes "minimum") d
    ∷ absent (codes "maximum") d
    ∷ absent (codes "minInclusive") d
    ∷ absent (codes "maxInclusive") d
    ∷ absent (codes "minExclusive") d
    ∷ absent (codes "maxExclusive") d
    ∷ []

-- the conditions on what a level has for `datatype`
unfoldable pub datatype_conditions : Data → List Condition
datatype_conditions d =
    ensure (is_some (datatype_name d)) (codes "BadDatatype")
    ∷ ensure (is_some (base_in d)) (unsupported (unwrap_or (datatype_name d) []))
    ∷ constraint_conditions d
    ++ ensure (may_have_format d) (unsupported (codes "format"))
    ∷ ensure (is_some (datatype_in d)) (codes "BadFormat")
    ∷ []

-- the conditions on it, none where it is absent
unfoldable pub datatype_member_conditions : Option Data → List Condition
datatype_member_conditions None = []
datatype_member_conditions (Some d) = datatype_conditions d

-- the datatype of a column, from the nearest level that says one; texts where none does
abbrev pub datatype_of : Option Data → DatatypeOf
datatype_of d = unwrap_or (option_and_then datatype_in d) cell.text
