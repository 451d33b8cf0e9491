use Rattle.std.proofs.Common.{◌*◌, ◌-◌, min, ap, ◌∙◌}
use Rattle.table_store.proofs.BlockLemmas.{part-fewer}
use Rattle.table_store.proofs.table.Table.block.Goals as goal

pub returns : goal.returns
returns c =
    let first = c.args.number * 4096 in
    part-fewer c.args.self.now first c.min-rows.result 4096 (c.min-rows.ensures ∙ ap (λ n. min (n - first) 4096) c.rows-all.ensures)
