use Rattle.std.proofs.Common.{◌<◌, ◌≢◌, length, sym, arith, below_more, get_or-set_other, get_or-set_same}
use Rattle.cell_texts.proofs.part_sizes.add_lengths.Goals as goal

pub loop-i-preserved : goal.loop-i-preserved
loop-i-preserved g c = (
  below_more _ _
      (λ k h t long plain. let ne : k ≢ c.loop-i.i = omega arith in rw get_or-set_other (c.loop-i.invariant.0 k h t long plain))
      (λ t long plain.
      let lt : c.loop-i.i < length c.loop-i.sizes = omega arith in
      rw get_or-set_same (omega (arith, c.saturating_add.ensures, c.plain_size.ensures t (sym long) plain, c.loop-i.invariant.1 c.loop-i.i (omega arith)))),
  λ k h. let ne : k ≢ c.loop-i.i = omega arith in rw get_or-set_other (c.loop-i.invariant.1 k (omega arith)),
)
