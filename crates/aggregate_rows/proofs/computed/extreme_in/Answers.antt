use Rattle.std.proofs.Common.{◌-◌, [], drop, get_or, sym, ap, ◌∙◌, arith}
use Rattle.std.proofs.lemmas.List.{drop_all}
use Rattle.cell_types.specs.Value.{value_view}
use Rattle.query_meaning.specs.Apply.{computed_value}
use Rattle.row_columns.specs.Picked.{numbered}
use Rattle.aggregate_rows.specs.Computed.{aggregate_of}
use Rattle.aggregate_rows.proofs.RowLemmas.{row_before, value_there}
use Rattle.aggregate_rows.proofs.ValueLemmas.{extreme_before, extreme_of_none}
use Rattle.aggregate_rows.proofs.computed.extreme_in.Goals as goal

pub loop-i-init : goal.loop-i-init
loop-i-init c = record {
  within = omega (arith, c.len-i.ensures);
  best = sym (ap (λ ns. computed_value (numbered ns c.args.columns.now.rows) (aggregate_of c.args.extreme c.args.place)) (drop_all c.len-i.result c.args.numbers.now (omega (arith, c.len-i.ensures)))
      ∙ extreme_of_none c.args.extreme c.args.place);
}

pub loop-i-preserved : goal.loop-i-preserved
loop-i-preserved c =
    let numbers = c.args.numbers.now in
    let rows = c.args.columns.now.rows in
    let i = c.loop-i.i in
    let value = value_view c.value.result in
    let place = c.args.place in
    let extreme = c.args.extreme in
    let at = value_there rows (get_or numbers (i - 1) 0) place value (rw c.at.ensures at c.value.ensures) in
    record {
      within = omega arith;
      best = rw (c.better-best.ensures, c.loop-i.invariant.best, row_before rows numbers i c.loop-i-test.true c.loop-i.invariant.within, ← at)
          (sym (extreme_before extreme place (get_or rows (get_or numbers (i - 1) 0) []) (numbered (drop i numbers) rows)));
    }
