-- The texts of values in a line.
use Rattle.std.specs.Prelude.{ℕ, false, List, codes}
use Rattle.cell_types.specs.Value.{CellValue, null, text}
use Rattle.reply_values.specs.Printed.{printed_value}
use Rattle.diagnostics.specs.Text.{quoted_text}

-- a value as it is in CSV, but null by its name, and a text in double quotes
abbrev pub shown_value : CellValue → List ℕ
shown_value null = codes "null"
shown_value (text bytes) = quoted_text bytes
shown_value value = printed_value false value
