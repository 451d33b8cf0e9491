-- Columns (Metadata Vocabulary for Tabular Data, section 5.6).
use Rattle.std.specs.Prelude.{ℕ, Bool, true, false, not, List, [], ◌∷◌, map, codes, Option, None, Some, is_some, if◌then◌else◌}
use Rattle.std.specs.List.{list_any}
use Rattle.std.specs.Str.{bytes_eq}
use Rattle.serde_json.specs.Data.{Data, boolean}
use Rattle.serde_json.specs.Find.{as_object}
use Rattle.cell_types.specs.Column.{ColumnOf}
use Rattle.csvw_meta.specs.Fault.{unsupported}
use Rattle.csvw_meta.specs.Refusal.{Condition, ensure}
use Rattle.csvw_meta.specs.Members.{member, has, absent, fits, text_member, nearest}
use Rattle.csvw_meta.specs.Forms.{is_column_name}
use Rattle.csvw_meta.specs.Texts.{is_titles, titles_of}
use Rattle.csvw_meta.specs.Datatype.{datatype_of}
use Rattle.csvw_meta.specs.Inherited.{inherited_conditions, nulls_of, default_of, required_of}

-- `virtual` is absent or false
abbrev pub is_real : Option Data → Bool
is_real None = true
is_real (Some (boolean b)) = not b
is_real (Some d) = false

-- the name of a column
abbrev pub name_of : Data → List ℕ
name_of d = text_member (codes "name") d

-- one of the columns has the name
abbrev pub names_a_column : List Data → List ℕ → Bool
names_a_column columns name = list_any (bytes_eq name) (map name_of columns)

unfoldable pub object_column_conditions : List Data → Data → List Condition
object_column_conditions earlier d =
    ensure (is_real (member (codes "virtual") d)) (unsupported (codes "virtual"))
    ∷ absent (codes "separator") d
    ∷ ensure (has (codes "name") d) (unsupported (codes "name"))
    ∷ ensure (is_column_name (name_of d)) (codes "BadName")
    ∷ ensure (not (names_a_column earlier (name_of d))) (codes "DuplicateName")
    ∷ ensure (fits is_titles (member (codes "titles") d)) (codes "BadTitles")
    ∷ inherited_conditions d

-- the conditions on a column after the earlier ones
unfoldable pub column_conditions : List Data → Data → List Condition
column_conditions earlier d = if is_some (as_object d) then object_column_conditions earlier d else Some (codes "NotObject") ∷ []

-- what a column says, where those levels are around it
abbrev pub said_column : List Data → Data → ColumnOf
said_column around d = let levels = d ∷ around in record {
  name = name_of d;
  titles = titles_of (member (codes "titles") d);
  datatype = datatype_of (nearest (codes "datatype") levels);
  nulls = nulls_of (nearest (codes "null") levels);
  default = default_of (nearest (codes "default") levels);
  required = required_of (nearest (codes "required") levels);
}
