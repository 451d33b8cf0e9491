-- Tables (Metadata Vocabulary for Tabular Data, section 5.4).
use Rattle.std.specs.Prelude.{ℕ, Bool, not, List, [], ◌∷◌, ◌++◌, map, codes, Option, Some, is_some, unwrap_or, if◌then◌else◌}
use Rattle.std.specs.List.{list_any}
use Rattle.std.specs.Str.{bytes_eq}
use Rattle.serde_json.specs.Data.{Data, null}
use Rattle.serde_json.specs.Find.{as_object}
use Rattle.csvw_meta.specs.Limits.{LimitsOf}
use Rattle.csvw_meta.specs.Refusal.{Condition, ensure}
use Rattle.csvw_meta.specs.Members.{member, absent, text_member, nearest}
use Rattle.csvw_meta.specs.Forms.{is_table_url, table_name}
use Rattle.csvw_meta.specs.Inherited.{inherited_conditions}
use Rattle.csvw_meta.specs.Column.{said_column}
use Rattle.csvw_meta.specs.Key.{key_of}
use Rattle.csvw_meta.specs.Schema.{SchemaOf, columns_in, schema_conditions}

-- the url of a table
abbrev pub url_of : Data → List ℕ
url_of d = text_member (codes "url") d

-- one of the tables has the url
abbrev pub has_url : List Data → List ℕ → Bool
has_url tables url = list_any (bytes_eq url) (map url_of tables)

-- the schema of a table: its own, else that of its group
abbrev pub schema_in : Data → Data → Option Data
schema_in group d = nearest (codes "tableSchema") (d ∷ group ∷ [])

-- what is not served at a table or a group, and what its columns inherit
unfoldable pub level_conditions : Data → List Condition
level_conditions d =
    absent (codes "dialect") d
    ∷ absent (codes "transformations") d
    ∷ absent (codes "separator") d
    ∷ inherited_conditions d

unfoldable pub object_table_conditions : LimitsOf → Data → List Data → Data → List Condition
object_table_conditions limits group earlier d =
    ensure (is_table_url (url_of d)) (codes "BadUrl")
    ∷ ensure (not (has_url earlier (url_of d))) (codes "DuplicateUrl")
    ∷ level_conditions d
    ++ schema_conditions limits (schema_in group d)

-- the conditions on a table of that group after the earlier ones; a table without a group is in one that is null
unfoldable pub table_conditions : LimitsOf → Data → List Data → Data → List Condition
table_conditions limits group earlier d = if is_some (as_object d) then object_table_conditions limits group earlier d else Some (codes "NotObject") ∷ []

-- the schema of a table; null, which has no columns, where it has none
abbrev pub schema_or_null : Data → Data → Data
schema_or_null group d = unwrap_or (schema_in group d) null

-- the columns of a table
abbrev pub table_columns : Data → Data → List Data
table_columns group d = columns_in (schema_or_null group d)

-- what a table of that group says
abbrev pub table_schema : Data → Data → SchemaOf
table_schema group d = let schema = schema_or_null group d in record {
  url = url_of d;
  name = table_name (url_of d);
  columns = map (said_column (schema ∷ d ∷ group ∷ [])) (table_columns group d);
  key = key_of (table_columns group d) (member (codes "primaryKey") schema);
}
