use Rattle.std.proofs.Common.{◌<◌, length, sym, subst, arith, string_bytes}
use Rattle.csv_grammar.specs.Raw.{RawTable}
use Rattle.csv_index.specs.Index.{table_in}
use Rattle.csv_index.proofs.RowLemmas.{width-table_in}
use Rattle.csv_index.proofs.indexed_text.IndexedText.header.Goals as goal

pub header-requires-clause-col : goal.header-requires-clause-col
header-requires-clause-col c =
    let wide = width-table_in c.self.inside.index (string_bytes c.self.inside.text) c.self.invariant in
    let col : c.args.col < length (table_in c.self.inside.index (string_bytes c.self.inside.text)).header = subst (λ (table : RawTable). c.args.col < length table.header) (sym c.self.view_is) c.requires in
    omega (arith, wide, col)
