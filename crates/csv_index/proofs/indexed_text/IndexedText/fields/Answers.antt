use Rattle.std.proofs.Common.{◌≤◌, length, sym, subst, arith, string_bytes}
use Rattle.csv_grammar.specs.Raw.{RawTable}
use Rattle.csv_index.specs.Index.{table_in}
use Rattle.csv_index.proofs.RowLemmas.{rows-table_in}
use Rattle.csv_index.proofs.indexed_text.IndexedText.fields.Goals as goal

pub fields-requires-clause-row : goal.fields-requires-clause-row
fields-requires-clause-row c =
    let high = rows-table_in c.self.inside.index (string_bytes c.self.inside.text) in
    let row : c.args.row ≤ length (table_in c.self.inside.index (string_bytes c.self.inside.text)).rows = subst (λ (table : RawTable). c.args.row ≤ length table.rows) (sym c.self.view_is) c.requires in
    omega (arith, high, row)
