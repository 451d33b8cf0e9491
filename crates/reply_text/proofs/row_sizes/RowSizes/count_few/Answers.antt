use Rattle.std.proofs.Common.{◌+◌, [], get_or, length, sym, ap, ◌∙◌, arith}
use Rattle.std.specs.List.{flat_map}
use Rattle.reply_values.specs.Printed.{printed_value}
use Rattle.reply_values.specs.Size.{told}
use Rattle.reply_text.specs.contracts.row_sizes.RowSizes.count_few.{JSON-type}
use denote.Param.{number}
use Rattle.reply_text.proofs.CountLemmas.{row_more}
use Rattle.reply_text.proofs.row_sizes.RowSizes.count_few.Goals as goal

pub loop-i-init : goal.loop-i-init
loop-i-init g c = record { len = omega arith; counts = λ rows names is begin has. has }

pub loop-i-preserved : goal.loop-i-preserved
loop-i-preserved g c =
    let json = JSON-type (number g.row.JSON) in
    let first = c.args.columns.now.rows in
    let at = c.loop-i.invariant.len in
    record {
      len = omega (arith, at, c.with.ensures.len);
      counts = λ rows names is begin has.
          row_more json rows names first (length c.args.columns.now.kinds) c.args.frame _ c.loop-i.self _ is begin (omega (arith, at, c.loop-i-test.true, c.put_sizes.ensures.long, c.requires))
          (c.rows_are_wide.ensures c.loop-i.self.len [] (omega (arith, at, c.loop-i-test.true, c.put_sizes.ensures.long, c.requires)))
          (c.put_sizes.ensures.sizes c.loop-i.i c.loop-i-test.true ∙ ap (λ n. told (c.args.frame + length (flat_map (printed_value json) (get_or first n [])))) (sym at))
          (omega (arith, c.with.ensures.len)) c.with.ensures.all c.with.ensures.longest (c.loop-i.invariant.counts rows names is begin has);
    }
