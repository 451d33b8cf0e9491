use Rattle.std.proofs.Common.{◌≡◌, List, length, map, subst}
use Rattle.std.specs.List.{All}
use Rattle.std.proofs.lemmas.List.Elements.{All-from_recursion}
use Rattle.cell_types.specs.Value.{CellValue}
use Rattle.row_columns.specs.Columns.{ColumnsOf}
use Rattle.row_columns.specs.Store.{stored_kinds, stored_row}
use Rattle.row_columns.proofs.RowLemmas.{row_wide}
use Rattle.row_columns.proofs.columns.Columns.rows_are_wide.Goals as goal

pub returns : goal.returns
returns c =
    let store = c.self.inside.store in
    let numbers = c.self.inside.numbers in
    subst (λ (s : ColumnsOf). All (λ (row : List CellValue). length row ≡ length s.kinds) s.rows) c.self.view_is
    (All-from_recursion (λ (row : List CellValue). length row ≡ length (stored_kinds store)) (map (stored_row store) numbers) (row_wide store numbers c.self.invariant.wide c.self.invariant.within))
