use Rattle.std.proofs.Common.{◌+◌, ◌<◌, ◌≤◌, List, get_or, length, ap, ◌∙◌, arith}
use Rattle.cell_types.specs.Value.{CellValue, null}
use Rattle.reply_values.specs.Printed.{printed_value}
use Rattle.reply_values.specs.Size.{told}
use Rattle.cell_texts.specs.contracts.row_sizes.add_column.{JSON-type}
use denote.Param.{number}
use Rattle.cell_texts.proofs.row_sizes.add_column.Goals as goal

pub add_values-requires-clause-rows : goal.add_values-requires-clause-rows
add_values-requires-clause-rows g c = omega (arith, c.in-Some.ensures.long, c.requires.rows)

pub add_values-requires-clause-col : goal.add_values-requires-clause-col
add_values-requires-clause-col g c = omega (arith, c.in-Some.ensures.wide, c.requires.col)

pub returns-in-Some : goal.returns-in-Some
returns-in-Some g c = record {
  long = c.add_values.ensures.long;
  each = λ i h.
      c.add_values.ensures.each i h
      ∙ ap (λ (row : List CellValue). told (get_or c.args.sizes.now i 0 + length (printed_value (JSON-type (number g.row.JSON)) (get_or row c.args.col null))))
      (c.in-Some.ensures.same i (omega (arith, h, c.requires.rows)));
}
