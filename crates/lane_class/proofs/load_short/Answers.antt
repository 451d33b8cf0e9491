use Rattle.std.proofs.Common.{ap, ◌∙◌, ◌++◌, drop, length, replicate, arith}
use Rattle.lane_class.proofs.Blocks.{block_at-short}
use Rattle.lane_class.proofs.load_short.Goals as goal

pub returns : goal.returns
returns c =
    ap (λ front. front ++ drop (length c.args.rest.now) (replicate 64 0)) c.copy_from_slice.ensures.after
    ∙ block_at-short c.args.rest.now (omega arith)
