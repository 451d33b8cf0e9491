use Rattle.std.proofs.Common.{ap, ◌∙◌, arith, length-drop}
use Rattle.std.specs.Simd.Lanes.{chunk}
use Rattle.std.proofs.lemmas.List.{take_rest}
use Rattle.lane_class.proofs.Blocks.{block_at-whole}
use Rattle.lane_class.proofs.load.Goals as goal

pub returns : goal.returns
returns c =
    ap (chunk 0 64) (take_rest c.args.bytes.now c.args.at) ∙ block_at-whole c.args.bytes.now c.args.at (omega (arith, length-drop c.args.at c.args.bytes.now, c.if-rest-lt-BLOCK.false))
