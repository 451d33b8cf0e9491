use Rattle.std.proofs.Common.{length, sym, ap, ◌∙◌}
use Rattle.block_summary.specs.Reading.{BufferOf}
use Rattle.block_summary.proofs.BufferLemmas.{length-packed}
use Rattle.block_summary.proofs.buffer.CellBuffer.len.Goals as goal

pub returns : goal.returns
returns c =
    sym (length-packed c.self.inside.kind c.self.inside.nulls.items c.self.inside.values.items c.self.inside.len c.self.invariant.1)
    ∙ ap (λ (b : BufferOf). length b.cells) c.self.view_is
