use Rattle.std.proofs.Common.{◌≡◌, ◌++◌, drop, false}
use Rattle.catalog_sheet.specs.Show.{column_lines, table_text}
use Rattle.catalog_sheet.proofs.show.push_table.Given as goal

-- the lines of the columns that are left end the text of the table
abbrev pub invariant-loop-col : goal.invariant-loop-col
invariant-loop-col l =
    l.sheet.is_short ≡ false → (l.fn.sheet.is_short ≡ false)
    × (l.sheet.bytes.items ++ column_lines l.fn.table l.col (drop l.col l.fn.table.schema.columns) ≡ l.fn.sheet.bytes.items ++ table_text l.fn.table)
