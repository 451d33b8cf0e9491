use Rattle.std.proofs.Common.{◌≡◌, sym, subst, ap, ◌∙◌}
use Rattle.std.specs.Prelude.{IfOk, Some}
use Rattle.block_summary.specs.declared.block.TheConstants.{BLOCK_ROWS}
use Rattle.table_store.specs.Table.{TableOf}
use Rattle.table_store.specs.Block.{typed_cells_of, part}
use Rattle.table_store.proofs.BlockLemmas.{part-fewer}
use Rattle.table_store.proofs.block.Block.shared.Goals as goal

pub returns : goal.returns
returns c =
    let block = c.self.inside in
    let table = block.table.now in
    subst (λ (t : TableOf). IfOk c.shared.result (λ cells. Some cells ≡ typed_cells_of t c.args.col))
    (ap (λ first. part table first BLOCK_ROWS) c.self.invariant.aligned ∙ sym (part-fewer table block.first block.rows BLOCK_ROWS c.self.invariant.whole) ∙ c.self.view_is)
    c.shared.ensures
