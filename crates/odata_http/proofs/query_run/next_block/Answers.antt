use Rattle.std.proofs.Common.{Some, ap, option_map, ◌∙◌}
use Rattle.table_store.specs.Block.{block_of}
use Rattle.odata_http.proofs.QueryRunLemmas.{block_inside}
use Rattle.odata_http.proofs.query_run.next_block.Goals as goal

pub block-requires : goal.block-requires
block-requires c = block_inside c.plans_need_blocks.ensures c.requires.0 c.args.table.now c.requires.1 c.in-Some.number (c.in-Some.ensures.needed c.requires.0 c.args.table.now c.requires.1 c.requires.2)

pub returns-in-Some : goal.returns-in-Some
returns-in-Some c = λ plan handed stands.
    ap Some c.block.ensures ∙ ap (option_map (block_of c.args.table.now)) (c.in-Some.ensures.needed plan c.args.table.now handed stands)

pub returns-in-None : goal.returns-in-None
returns-in-None c = λ plan handed stands.
    ap (option_map (block_of c.args.table.now)) (c.in-None.ensures.needed plan c.args.table.now handed stands)
