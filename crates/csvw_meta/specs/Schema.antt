-- The schemas of tables (Metadata Vocabulary for Tabular Data, section 5.5).
use Rattle.std.specs.Prelude.{ℕ, List, [], ◌∷◌, ◌++◌, map, codes, Option, None, Some, is_some, if◌then◌else◌, string_bytes}
use Rattle.serde_json.specs.Data.{Data, string}
use Rattle.serde_json.specs.Find.{as_object}
use Rattle.cell_types.specs.Column.{ColumnOf, column_view}
use Rattle.csvw_meta.specs.declared.schema.Schema.{Schema}
use Rattle.csvw_meta.specs.Fault.{unsupported}
use Rattle.csvw_meta.specs.Limits.{LimitsOf}
use Rattle.csvw_meta.specs.Refusal.{Condition, ensure, each_conditions}
use Rattle.csvw_meta.specs.Members.{member, absent, fits, array_member, count_conditions}
use Rattle.csvw_meta.specs.Key.{is_key}
use Rattle.csvw_meta.specs.Inherited.{inherited_conditions}
use Rattle.csvw_meta.specs.Column.{column_conditions}

-- a table's schema; the key is the places of its columns, none where there is no key
pub record SchemaOf : Type 0 where
  pub url : List ℕ
  pub name : List ℕ
  pub columns : List ColumnOf
  pub key : List ℕ

abbrev pub schema_view : Schema → SchemaOf
schema_view schema = record {
  url = string_bytes schema.url;
  name = string_bytes schema.name;
  columns = map column_view schema.columns.items;
  key = schema.key.items;
}

-- the columns of a schema, none where it has none
abbrev pub columns_in : Data → List Data
columns_in d = array_member (codes "columns") d

unfoldable pub object_schema_conditions : LimitsOf → Data → List Condition
object_schema_conditions limits d =
    absent (codes "separator") d
    ∷ inherited_conditions d
    ++ count_conditions limits.columns (codes "NoColumns") (codes "TooManyColumns") (columns_in d)
    ++ each_conditions column_conditions [] (columns_in d)
    ++ ensure (fits (is_key (columns_in d)) (member (codes "primaryKey") d)) (codes "BadKey")
    ∷ []

-- the conditions on what a table, or its group, has as `tableSchema`
unfoldable pub schema_conditions : LimitsOf → Option Data → List Condition
schema_conditions limits None = Some (codes "NoColumns") ∷ []
schema_conditions limits (Some (string s)) = Some (unsupported (codes "tableSchema")) ∷ []
schema_conditions limits (Some d) = if is_some (as_object d) then object_schema_conditions limits d else Some (codes "NoColumns") ∷ []
