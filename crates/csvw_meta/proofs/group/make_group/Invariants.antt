-- The schemas made so far, and those that are left.
use Rattle.std.proofs.Common.{◌≡◌, ◌++◌, map, drop}
use Rattle.serde_json.specs.View.{view}
use Rattle.csvw_meta.specs.Schema.{schema_view}
use Rattle.csvw_meta.specs.Table.{table_schema}
use Rattle.csvw_meta.proofs.group.make_group.Given as goal

abbrev pub invariant-loop-table : goal.invariant-loop-table
invariant-loop-table l = map schema_view l.made.items ++ map (table_schema (view l.group)) (map view (drop l.table-index l.tables)) ≡ map (table_schema (view l.group)) (map view l.tables)
