use Rattle.std.proofs.Common.{refl}
use Rattle.std.specs.Str.{chars, is_utf8}
use Rattle.serde_json.proofs.OnLiterals.{serde_json_on_literals}
use Rattle.csvw_meta.specs.Column.{object_column_conditions, column_conditions}
use Rattle.csvw_meta.specs.Datatype.{constraint_conditions, datatype_conditions, datatype_member_conditions}
use Rattle.csvw_meta.specs.Document.{document, lone_table_conditions, object_conditions, schemas_of_value}
use Rattle.csvw_meta.specs.Group.{group_conditions}
use Rattle.csvw_meta.specs.Inherited.{inherited_conditions}
use Rattle.csvw_meta.specs.Key.{are_key_names}
use Rattle.csvw_meta.specs.Members.{count_conditions}
use Rattle.csvw_meta.specs.Schema.{object_schema_conditions, schema_conditions}
use Rattle.csvw_meta.specs.Table.{level_conditions, object_table_conditions, table_conditions}
use Rattle.csvw_meta.proofs.laws.worked_metadata.Goals as goal

pub returns : goal.returns
unfolding serde_json_on_literals chars is_utf8 lib.Utf8.encode object_column_conditions column_conditions constraint_conditions datatype_conditions datatype_member_conditions document lone_table_conditions object_conditions schemas_of_value group_conditions inherited_conditions are_key_names count_conditions object_schema_conditions schema_conditions level_conditions object_table_conditions table_conditions
returns c = record {
  plain = refl;
  absent = refl;
  numbers = refl;
  booleans = refl;
  dates = refl;
  strings = refl;
  cells = refl;
  title = refl;
  titles = refl;
  column_and_schema = refl;
  table_level = refl;
  group_level = refl;
  group_schema = refl;
  key = refl;
  keys = refl;
  documents = refl;
  groups = refl;
  tables = refl;
  schemas = refl;
  columns = refl;
  datatypes = refl;
  inherited = refl;
}
