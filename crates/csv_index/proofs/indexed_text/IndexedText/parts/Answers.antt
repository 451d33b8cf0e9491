use Rattle.std.proofs.Common.{◌≤◌, arith, subst, length, sym, ap, ◌∙◌, string_bytes}
use Rattle.std.proofs.lemmas.Result.{IfOk-weaker}
use Rattle.csv_grammar.specs.Raw.{RawTable}
use Rattle.csv_index.specs.Index.{table_in}
use Rattle.csv_index.specs.Parts.{PartsOf}
use Rattle.csv_index.proofs.RowLemmas.{rows-table_in, width-table_in}
use Rattle.csv_index.proofs.indexed_text.IndexedText.parts.Goals as goal

pub parts-requires-clause-row : goal.parts-requires-clause-row
parts-requires-clause-row c =
    let high = rows-table_in c.self.inside.index (string_bytes c.self.inside.text) in
    let row : c.args.row ≤ length (table_in c.self.inside.index (string_bytes c.self.inside.text)).rows = subst (λ (table : RawTable). c.args.row ≤ length table.rows) (sym c.self.view_is) c.requires in
    omega (arith, high, row)

pub returns-clause-width : goal.returns-clause-width
returns-clause-width c =
    IfOk-weaker c.parts.result _ _ (λ parts is. ap (λ (p : PartsOf). p.width) is
    ∙ sym (width-table_in c.self.inside.index (string_bytes c.self.inside.text) c.self.invariant)
    ∙ ap (λ (table : RawTable). length table.header) c.self.view_is) c.parts.ensures
