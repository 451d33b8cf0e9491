use Rattle.std.proofs.Common.{◌<◌, length, sym, subst, arith, string_bytes}
use Rattle.csv_grammar.specs.Raw.{RawTable}
use Rattle.csv_index.specs.Index.{table_in}
use Rattle.csv_index.proofs.RowLemmas.{width-table_in, rows-table_in}
use Rattle.csv_index.proofs.indexed_text.IndexedText.cell.Goals as goal

pub cell-requires-clause-row : goal.cell-requires-clause-row
cell-requires-clause-row c =
    let high = rows-table_in c.self.inside.index (string_bytes c.self.inside.text) in
    let row : c.args.row < length (table_in c.self.inside.index (string_bytes c.self.inside.text)).rows = subst (λ (table : RawTable). c.args.row < length table.rows) (sym c.self.view_is) c.requires.row in
    omega (arith, high, row)

pub cell-requires-clause-col : goal.cell-requires-clause-col
cell-requires-clause-col c =
    let wide = width-table_in c.self.inside.index (string_bytes c.self.inside.text) c.self.invariant in
    let col : c.args.col < length (table_in c.self.inside.index (string_bytes c.self.inside.text)).header = subst (λ (table : RawTable). c.args.col < length table.header) (sym c.self.view_is) c.requires.col in
    omega (arith, wide, col)
