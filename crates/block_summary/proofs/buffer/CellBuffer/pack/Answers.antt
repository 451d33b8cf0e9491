use Rattle.std.proofs.Common.{take, sym, subst}
use Rattle.block_summary.specs.Types.{AreNumbersOf}
use Rattle.block_summary.proofs.BufferLemmas.{numbers-of-all}
use Rattle.block_summary.proofs.buffer.CellBuffer.pack.Goals as goal

pub pack-requires-clause-numbers : goal.pack-requires-clause-numbers
pack-requires-clause-numbers c =
    let b = c.self.inside in
    subst (λ ns. AreNumbersOf b.kind (take b.len ns) (take b.len c.as_slice.result.now)) (sym c.as_slice-2.ensures.value)
    (subst (λ vs. AreNumbersOf b.kind (take b.len b.nulls.items) (take b.len vs)) (sym c.as_slice.ensures.value)
    (numbers-of-all b.kind (take b.len b.nulls.items) (take b.len b.values.items) c.self.invariant.2))
