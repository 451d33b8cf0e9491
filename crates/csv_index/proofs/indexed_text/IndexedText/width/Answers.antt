use Rattle.std.proofs.Common.{◌≡◌, List, length, sym, ap, subst, ◌∙◌, string_bytes}
use Rattle.std.specs.List.{AllByRecursion}
use Rattle.csv_grammar.specs.Raw.{RawField}
use Rattle.csv_grammar.specs.Raw.{RawTable}
use Rattle.csv_index.specs.Index.{table_in}
use Rattle.csv_index.proofs.RowLemmas.{width-table_in, widths-table_in}
use Rattle.csv_index.proofs.indexed_text.IndexedText.width.Goals as goal

pub returns-clause-header : goal.returns-clause-header
returns-clause-header c =
    c.width.ensures ∙ sym (width-table_in c.self.inside.index (string_bytes c.self.inside.text) c.self.invariant)
    ∙ ap (λ (table : RawTable). length table.header) c.self.view_is

pub returns-clause-rows : goal.returns-clause-rows
returns-clause-rows c =
    let places = c.self.inside.index in
    let bytes = string_bytes c.self.inside.text in
    let wide : AllByRecursion (λ (fields : List RawField). length fields ≡ c.width.result) (table_in places bytes).rows =
    rw c.width.ensures (widths-table_in places bytes c.self.invariant) in
    subst (λ (table : RawTable). AllByRecursion (λ (fields : List RawField). length fields ≡ c.width.result) table.rows) c.self.view_is wide
