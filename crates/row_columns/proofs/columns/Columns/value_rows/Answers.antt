use Rattle.std.proofs.Common.{◌<◌, ℕ, List, [], get_or, length, subst, ap, arith}
use Rattle.std.proofs.lemmas.List.{length-map}
use Rattle.std.specs.List.{AllByRecursion}
use Rattle.row_columns.specs.Columns.{ColumnsOf}
use Rattle.row_columns.specs.Part.{AreRowsFrom}
use Rattle.row_columns.specs.Store.{end_of, stored_row}
use Rattle.row_columns.proofs.ValueLemmas.{rows_of_values}
use Rattle.row_columns.proofs.columns.Columns.value_rows.Goals as goal

pub returns : goal.returns
returns c =
    let numbers = c.self.inside.numbers in
    let store = c.self.inside.store in
    let inside : c.args.row < length numbers = omega (arith, c.requires, ap (λ (s : ColumnsOf). length s.rows) c.self.view_is, length-map numbers (stored_row store)) in
    let within = subst (λ s. AllByRecursion (λ (number : ℕ). number < end_of s) numbers) c.in-Values.is c.self.invariant.within in
    subst (λ (s : ColumnsOf). AreRowsFrom c.args.row s c.in-Values.rows c.at.result) (rw c.in-Values.is at c.self.view_is)
    (rows_of_values c.in-Values.rows numbers _ _ c.args.row c.at.result c.in_ok-run.ensures within inside c.at.ensures)
