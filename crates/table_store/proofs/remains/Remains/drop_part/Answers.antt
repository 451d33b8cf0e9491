use Rattle.std.proofs.Common.{rules, ◌≡◌, ◌+◌, ap, ◌∙◌}
use Rattle.std.specs.List.{sum_by}
use Rattle.std.proofs.lemmas.List.Sums.{sum_by_push}
use Rattle.table_store.specs.Remains.{column_parts}
use Rattle.table_store.proofs.RemainsLemmas.{column_blocks}
use Rattle.table_store.proofs.remains.Remains.drop_part.Goals as goal

pub returns-in-Some-clause-left : goal.returns-in-Some-clause-left
returns-in-Some-clause-left c =
    let column = c.in-Some.column in
    let blocks = column_blocks c.into_blocks.result.items column c.into_blocks.ensures.blocks c.into_blocks.ensures.cells in
    let columns : sum_by column_parts c.self.inside.columns.items ≡ sum_by column_parts c.pop-4.new.self.items + column_parts column =
    ap (sum_by column_parts) c.in-Some.ensures.items ∙ sum_by_push column_parts c.pop-4.new.self.items column in
    search rules
