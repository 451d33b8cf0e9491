use Rattle.std.proofs.Common.{◌≡◌, map, take}
use Rattle.std.specs.Prelude.{string_bytes}
use Rattle.csvw_meta.specs.Schema.{schema_view}
use Rattle.served_folders.specs.Names.{urls}
use Rattle.served_folders.proofs.names.urls_of.Given as goal

-- the urls of the first tables are there
abbrev pub invariant-loop-table : goal.invariant-loop-table
invariant-loop-table l = map string_bytes l.names.items ≡ urls (map schema_view (take l.table-index l.tables))
