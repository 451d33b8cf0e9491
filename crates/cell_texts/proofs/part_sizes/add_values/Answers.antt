use Rattle.std.proofs.Common.{◌<◌, ◌≢◌, ◌+◌, [], ℕ, List, get_or, length, arith, ap, ◌∙◌, below_more, get_or-set_other, get_or-set_same}
use Rattle.cell_types.specs.Value.{null}
use Rattle.reply_values.specs.Printed.{printed_value}
use Rattle.reply_values.specs.Size.{told}
use Rattle.cell_texts.specs.contracts.part_sizes.add_values.{JSON-type}
use denote.Param.{number}
use Rattle.cell_texts.proofs.part_sizes.add_values.Goals as goal

pub loop-i-preserved : goal.loop-i-preserved
loop-i-preserved g c = (
  below_more _ _
      (λ k h. let ne : k ≢ c.loop-i.i = omega arith in rw get_or-set_other (c.loop-i.invariant.0 k h))
      (let lt : c.loop-i.i < length c.loop-i.sizes = omega arith in
      rw get_or-set_same (omega (arith, c.saturating_add.ensures, c.lent_size-size.ensures, ap (λ v. length (printed_value (JSON-type (number g.row.JSON)) v)) c.lent.ensures, c.loop-i.invariant.1 c.loop-i.i (omega arith)))),
  λ k h. let ne : k ≢ c.loop-i.i = omega arith in rw get_or-set_other (c.loop-i.invariant.1 k (omega arith)),
)

pub returns : goal.returns
returns g c =
    let kept = c.if-add_plain_values.ensures in
    let long = c.loop-i.auto.sizes in
    record {
      long = omega (arith, ap length kept, long);
      each = λ i h.
          c.loop-i.invariant.0 i (omega (arith, h, ap length kept, long, c.loop-i-test.false))
          ∙ ap (λ (s : List ℕ). told (get_or s i 0 + length (printed_value (JSON-type (number g.row.JSON)) (get_or (get_or c.args.rows.now.rows (c.args.first + i) []) c.args.col null)))) kept;
    }
