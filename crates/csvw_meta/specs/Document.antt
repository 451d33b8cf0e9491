-- The schemas of a metadata text (Metadata Vocabulary for Tabular Data, section 5): the conditions on it in order, and what it says
-- where all are met.
use Rattle.std.specs.Prelude.{ℕ, Bool, ◌&&◌, List, [], ◌∷◌, map, length, codes, nat_le, Option, None, Some, is_some, if◌then◌else◌, Result, Ok, Err}
use Rattle.std.specs.Str.{is_utf8}
use Rattle.serde_json.specs.Data.{Data, null}
use Rattle.serde_json.specs.Read.{read}
use Rattle.serde_json.specs.Find.{as_object}
use Rattle.csv_grammar.specs.Files.{text_of}
use Rattle.csvw_meta.specs.declared.document.Schemas.{Schemas}
use Rattle.csvw_meta.specs.declared.limits.TheConstants.{MOST_METADATA_BYTES}
use Rattle.csvw_meta.specs.Fault.{MetaCause}
use Rattle.csvw_meta.specs.Limits.{LimitsOf}
use Rattle.csvw_meta.specs.Refusal.{Condition, ensure, first_cause}
use Rattle.csvw_meta.specs.Members.{has}
use Rattle.csvw_meta.specs.Schema.{SchemaOf, schema_view}
use Rattle.csvw_meta.specs.Table.{table_conditions, table_schema}
use Rattle.csvw_meta.specs.Group.{group_conditions, group_schemas}

abbrev pub schemas_view : Schemas → List SchemaOf
schemas_view schemas = map schema_view schemas.tables.items

-- the value that the bytes are, after a byte order mark: not too many bytes, of UTF-8 and of JSON
unfoldable pub document : List ℕ → Option Data
document bytes = if nat_le (length bytes) MOST_METADATA_BYTES && is_utf8 (text_of bytes) then read (text_of bytes) else None

-- the metadata is of a group of tables
abbrev pub is_group : Data → Bool
is_group d = has (codes "tables") d

-- the conditions on a table that stands alone
unfoldable pub lone_table_conditions : LimitsOf → Data → List Condition
lone_table_conditions limits d = ensure (has (codes "url") d) (codes "NoTables") ∷ table_conditions limits null [] d

unfoldable pub object_conditions : LimitsOf → Data → List Condition
object_conditions limits d = if is_group d then group_conditions limits d else lone_table_conditions limits d

-- the conditions on metadata
abbrev pub metadata_conditions : LimitsOf → Data → List Condition
metadata_conditions limits d = if is_some (as_object d) then object_conditions limits d else Some (codes "NotObject") ∷ []

-- what metadata says, table by table
abbrev pub metadata_schemas : Data → List SchemaOf
metadata_schemas d = if is_group d then group_schemas d else table_schema null d ∷ []

-- nothing where a condition failed
abbrev pub unless_cause : Option MetaCause → List SchemaOf → Result (List SchemaOf) MetaCause
unless_cause None schemas = Ok schemas
unless_cause (Some cause) schemas = Err cause

-- what a value says, or the first cause against it
unfoldable pub schemas_of_value : LimitsOf → Option Data → Result (List SchemaOf) MetaCause
schemas_of_value limits None = Err (codes "NotJson")
schemas_of_value limits (Some d) = unless_cause (first_cause (metadata_conditions limits d)) (metadata_schemas d)

-- the schemas of a metadata text, or the cause of the first condition that fails
abbrev pub schemas_of : LimitsOf → List ℕ → Result (List SchemaOf) MetaCause
schemas_of limits bytes = schemas_of_value limits (document bytes)
