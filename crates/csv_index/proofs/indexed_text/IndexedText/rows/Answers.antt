use Rattle.std.proofs.Common.{length, sym, ap, ◌∙◌, string_bytes}
use Rattle.csv_grammar.specs.Raw.{RawTable}
use Rattle.csv_index.proofs.RowLemmas.{rows-table_in}
use Rattle.csv_index.proofs.indexed_text.IndexedText.rows.Goals as goal

pub returns : goal.returns
returns c =
    c.rows.ensures ∙ sym (rows-table_in c.self.inside.index (string_bytes c.self.inside.text))
    ∙ ap (λ (table : RawTable). length table.rows) c.self.view_is
