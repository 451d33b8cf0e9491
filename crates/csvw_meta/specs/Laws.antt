-- What holds of every metadata text.
use Rattle.std.specs.Prelude.{◌≡◌, ◌≢◌, ℕ, ◌+◌, ◌^◌, ◌<◌, ◌≤◌, nat_eq, List, ◌∷◌, ◌++◌, map, length, true, false, ◌⊎◌, None, Some, Ok, Err, ⊤, if◌then◌else◌, string_bytes}
use Rattle.std.specs.List.{All, IsDistinct, flat_map, starts_with}
use Rattle.std.specs.Str.{bytes_eq}
use Rattle.serde_json.specs.Data.{Data, null}
use Rattle.text_escapes.specs.Escapes.{escaped}
use Rattle.text_escapes.specs.Laws.{HasNoBackslash, IsOneLine}
use Rattle.csv_grammar.specs.Bytes.{byte_order_mark}
use Rattle.cell_types.specs.Column.{ColumnOf}
use Rattle.csvw_meta.specs.declared.fault.MetaFault.{MetaFault}
use Rattle.csvw_meta.specs.declared.fault.MetaFault.TheVariants.{Unsupported}
use Rattle.csvw_meta.specs.declared.forms.TheConstants.{MOST_NAME_BYTES, MOST_URL_BYTES}
use Rattle.csvw_meta.specs.declared.limits.TheConstants.{MOST_FILE_BYTES, MOST_METADATA_BYTES, MOST_TABLES, MOST_COLUMNS, MOST_TRANSFORMATIONS}
use Rattle.csvw_meta.specs.Fault.{MetaCause, fault_cause, meta_fault_text}
use Rattle.csvw_meta.specs.Limits.{LimitsOf}
use Rattle.csvw_meta.specs.Refusal.{first_cause}
use Rattle.csvw_meta.specs.Members.{member, nearest}
use Rattle.csvw_meta.specs.Inherited.{inherited_conditions}
use Rattle.csvw_meta.specs.Forms.{is_table_url, is_column_name, url_end}
use Rattle.csvw_meta.specs.Schema.{SchemaOf}
use Rattle.csvw_meta.specs.Table.{schema_or_null, table_columns}
use Rattle.csvw_meta.specs.Group.{tables_in}
use Rattle.csvw_meta.specs.Document.{document, is_group, schemas_of}

-- the schema has a url of its form, which is its name and `.csv`, at least one column, not too many, with different names of their form,
-- and a key of places of columns, each once
pub record IsAccepted (limits : LimitsOf) (schema : SchemaOf) : Type 0 where
  pub url : is_table_url schema.url ≡ true
  pub name : schema.url ≡ schema.name ++ url_end
  pub some : 1 ≤ length schema.columns
  pub few : length schema.columns ≤ limits.columns
  pub names : All (λ (column : ColumnOf). is_column_name column.name ≡ true) schema.columns
  pub distinct : IsDistinct bytes_eq (map (λ (column : ColumnOf). column.name) schema.columns)
  pub places : All (λ place. place < length schema.columns) schema.key
  pub once : IsDistinct nat_eq schema.key

-- there is at least one schema, there are not too many, and their urls are different, and so their names
pub record AreAccepted (limits : LimitsOf) (schemas : List SchemaOf) : Type 0 where
  pub some : 1 ≤ length schemas
  pub few : length schemas ≤ limits.tables
  pub each : All (IsAccepted limits) schemas
  pub distinct : IsDistinct bytes_eq (map (λ (schema : SchemaOf). schema.url) schemas)
  pub named : IsDistinct bytes_eq (map (λ (schema : SchemaOf). schema.name) schemas)

-- so are the schemas of a text that is accepted, where a table may be
abbrev pub AcceptedSchemas : Type 0
AcceptedSchemas = (limits : LimitsOf) (bytes : List ℕ) (schemas : List SchemaOf) → 1 ≤ limits.tables → schemas_of limits bytes ≡ Ok schemas → AreAccepted limits schemas

-- a metadata text has schemas or a cause, and not both
pub record SchemasOrCause : Type 0 where
  pub one : (limits : LimitsOf) (bytes : List ℕ)
      → ((schemas : List SchemaOf) × (schemas_of limits bytes ≡ Ok schemas)) ⊎ ((cause : MetaCause) × (schemas_of limits bytes ≡ Err cause))
  pub only : (limits : LimitsOf) (bytes : List ℕ) (schemas : List SchemaOf) (cause : MetaCause)
      → schemas_of limits bytes ≡ Ok schemas → schemas_of limits bytes ≢ Err cause

-- the same fault, wherever the name of what is not served lies
abbrev pub IsSameFault : MetaFault → MetaFault → Type 0
IsSameFault (Unsupported key) (Unsupported other) = string_bytes key ≡ string_bytes other
IsSameFault a b = a ≡ b

-- the same fault, but that what stands in one key for a control character of the other may be that character's escape
abbrev pub IsWrittenAlike : MetaFault → MetaFault → Type 0
IsWrittenAlike (Unsupported key) (Unsupported other) = escaped (string_bytes key) ≡ escaped (string_bytes other)
IsWrittenAlike a b = a ≡ b

-- no backslash stands in the key of a fault that has one
abbrev pub HasPlainKey : MetaFault → Type 0
HasPlainKey (Unsupported key) = HasNoBackslash (string_bytes key)
HasPlainKey fault = ⊤

-- two faults that say the same are the same, so a cause tells which; two with the same text are the same but for how their keys are written, and the
-- same where no backslash stands in these; and the text of each is one line
pub record TextsTellFaultsApart : Type 0 where
  pub causes : (a b : MetaFault) → fault_cause a ≡ fault_cause b → IsSameFault a b
  pub alike : (a b : MetaFault) → meta_fault_text a ≡ meta_fault_text b → IsWrittenAlike a b
  pub same : (a b : MetaFault) → HasPlainKey a → HasPlainKey b → meta_fault_text a ≡ meta_fault_text b → IsSameFault a b
  pub lines : (fault : MetaFault) → IsOneLine (meta_fault_text fault)

-- one byte order mark in front of a text changes nothing, where there is room for it
abbrev pub MarkIsDropped : Type 0
MarkIsDropped = (limits : LimitsOf) (bytes : List ℕ) → starts_with nat_eq bytes byte_order_mark ≡ false → length byte_order_mark + length bytes ≤ MOST_METADATA_BYTES
    → schemas_of limits (byte_order_mark ++ bytes) ≡ schemas_of limits bytes

-- what columns inherit is what the nearest level says: no level after the first that says anything counts
pub record NearestLevel : Type 0 where
  pub first : (name : List ℕ) (before : List Data) (level : Data) (behind : List Data) (value : Data) → All (λ d. member name d ≡ None) before
      → member name level ≡ Some value → nearest name (before ++ level ∷ behind) ≡ Some value
  pub none : (name : List ℕ) (levels : List Data) → All (λ d. member name d ≡ None) levels → nearest name levels ≡ None

-- what a level says for the columns in it is of its form
abbrev pub IsOfForm : Data → Type 0
IsOfForm level = first_cause (inherited_conditions level) ≡ None

-- a table of that group, its schema and its columns
abbrev pub levels_in : Data → Data → List Data
levels_in group d = d ∷ schema_or_null group d ∷ table_columns group d

-- the levels of metadata: the group with those of each table, or those of the table that stands alone
abbrev pub levels_of : Data → List Data
levels_of d = if is_group d then d ∷ flat_map (levels_in d) (tables_in d) else levels_in null d

-- each level of a text that is accepted is of its form, also where a nearer level says another
abbrev pub LevelsAreOfForm : Type 0
LevelsAreOfForm = (limits : LimitsOf) (bytes : List ℕ) (d : Data) (schemas : List SchemaOf) → document bytes ≡ Some d → schemas_of limits bytes ≡ Ok schemas
    → All IsOfForm (levels_of d)

-- the default of each column has at most 2 to the 30 bytes
abbrev pub HasShortDefaults : SchemaOf → Type 0
HasShortDefaults schema = All (λ (column : ColumnOf). length column.default ≤ 2 ^ 30) schema.columns

-- so are those of the schemas of a text that is accepted
abbrev pub DefaultsAreShort : Type 0
DefaultsAreShort = (limits : LimitsOf) (bytes : List ℕ) (schemas : List SchemaOf) → schemas_of limits bytes ≡ Ok schemas → All HasShortDefaults schemas

-- the numbers of the profile
pub record ProfileSizes : Type 0 where
  pub file : MOST_FILE_BYTES ≡ 2 ^ 30
  pub metadata : MOST_METADATA_BYTES ≡ 2 ^ 30
  pub tables : MOST_TABLES ≡ 256
  pub columns : MOST_COLUMNS ≡ 256
  pub transformations : MOST_TRANSFORMATIONS ≡ 8
  pub name : MOST_NAME_BYTES ≡ 128
  pub url : MOST_URL_BYTES ≡ 132
