use Rattle.std.proofs.Common.{◌≡◌, take, false}
use Rattle.catalog_sheet.specs.Show.{tables_text}
use Rattle.catalog_sheet.proofs.show.catalog_text.Given as goal

-- the first tables are there
abbrev pub invariant-loop-table : goal.invariant-loop-table
invariant-loop-table l = l.sheet.is_short ≡ false → l.sheet.bytes.items ≡ tables_text (take l.table-index l.fn.catalog.tables)
