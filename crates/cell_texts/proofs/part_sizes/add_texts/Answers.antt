use Rattle.std.proofs.Common.{◌<◌, ◌≢◌, length, arith, ap, below_more, get_or-set_other, get_or-set_same}
use Rattle.reply_values.specs.Printed.{printed_value}
use Rattle.cell_texts.specs.contracts.part_sizes.add_texts.{JSON-type}
use denote.Param.{number}
use Rattle.cell_texts.proofs.part_sizes.add_texts.Goals as goal

pub loop-i-preserved : goal.loop-i-preserved
loop-i-preserved g c = (
  below_more _ _
      (λ k h. let ne : k ≢ c.loop-i.i = omega arith in rw get_or-set_other (c.loop-i.invariant.0 k h))
      (let lt : c.loop-i.i < length c.loop-i.sizes = omega arith in
      rw get_or-set_same (omega (arith, c.saturating_add.ensures, c.known_size.ensures, ap (λ v. length (printed_value (JSON-type (number g.row.JSON)) v)) c.text_cell-cell.ensures, c.loop-i.invariant.1 c.loop-i.i (omega arith)))),
  λ k h. let ne : k ≢ c.loop-i.i = omega arith in rw get_or-set_other (c.loop-i.invariant.1 k (omega arith)),
)
