use Rattle.std.proofs.Common.{◌≡◌, List, [], length, replicate, sym, ap, ◌∙◌, arith}
use Rattle.cell_types.specs.Value.{CellValue}
use Rattle.row_columns.specs.Columns.{ColumnsOf}
use Rattle.row_columns.specs.Kinds.{any}
use Rattle.row_columns.specs.Numbers.{numbers_from}
use Rattle.value_rows.specs.ValueRows.{rows_of}
use Rattle.row_columns.proofs.NumberLemmas.{all_from}
use Rattle.value_rows.proofs.RowLaws.{rows-long, rows-wide}
use Rattle.row_columns.proofs.RowLemmas.{map_from}
use Rattle.row_columns.proofs.columns.Columns.of_values.Goals as goal

pub invariant_of-result : goal.invariant_of-result
invariant_of-result c =
    let count = c.args.count in
    let width = c.args.width in
    let many = rows-long width count c.args.values in
    record {
      wide = rw c.of.ensures (rows-wide width count c.args.values c.requires);
      within = rw (c.of.ensures, c.in_ok-numbers.ensures) (all_from 0 count (length (rows_of width count c.args.values)) (omega (arith, many)));
    }

pub returns : goal.returns
returns c =
    let rows = rows_of c.args.width c.args.count c.args.values in
    let none : List (List CellValue) = [] in
    let made : c.in_ok-numbers.numbers ≡ numbers_from 0 (length rows) = c.in_ok-numbers.ensures ∙ ap (numbers_from 0) (sym (rows-long c.args.width c.args.count c.args.values)) in
    let under : List (List CellValue) → ColumnsOf = λ rs. record { kinds = replicate c.args.width any; rows = rs } in
    rw (c.of.ensures, made) (ap under (map_from none rows []))
