-- Groups of tables (Metadata Vocabulary for Tabular Data, section 5.3).
use Rattle.std.specs.Prelude.{List, [], ◌++◌, map, codes}
use Rattle.serde_json.specs.Data.{Data}
use Rattle.csvw_meta.specs.Limits.{LimitsOf}
use Rattle.csvw_meta.specs.Refusal.{Condition, each_conditions}
use Rattle.csvw_meta.specs.Members.{array_member, count_conditions}
use Rattle.csvw_meta.specs.Schema.{SchemaOf}
use Rattle.csvw_meta.specs.Table.{level_conditions, table_conditions, table_schema}

-- the tables of a group
abbrev pub tables_in : Data → List Data
tables_in d = array_member (codes "tables") d

-- the conditions on a group
unfoldable pub group_conditions : LimitsOf → Data → List Condition
group_conditions limits d =
    count_conditions limits.tables (codes "NoTables") (codes "TooManyTables") (tables_in d)
    ++ level_conditions d
    ++ each_conditions (table_conditions limits d) [] (tables_in d)

-- what a group says, table by table
abbrev pub group_schemas : Data → List SchemaOf
group_schemas d = map (table_schema d) (tables_in d)
