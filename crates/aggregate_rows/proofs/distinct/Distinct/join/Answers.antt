use Rattle.std.proofs.Common.{◌++◌, [], append-nil, get_or, refl, sym, subst, take, arith}
use Rattle.std.specs.Prelude.{IfSome}
use Rattle.std.proofs.lemmas.List.{take_all}
use Rattle.query_meaning.specs.Apply.{present_values, value_at}
use Rattle.row_columns.specs.Picked.{numbered}
use Rattle.row_codes.specs.Kept.{IsKeptAs}
use Rattle.aggregate_rows.specs.Distinct.{HoldsDistinct}
use Rattle.aggregate_rows.proofs.GatheredLemmas.{values_more}
use Rattle.aggregate_rows.proofs.distinct.Distinct.join.Goals as goal

pub loop-i-init : goal.loop-i-init
loop-i-init c = record {
  kept = c.in_ok-marked.ensures.kept;
  holds = λ rows is. subst (λ rs. HoldsDistinct c.marked_column.new.self (present_values c.args.place rs)) (sym (append-nil rows)) (c.in_ok-marked.ensures.holds (present_values c.args.place rows) is);
}

pub loop-i-preserved : goal.loop-i-preserved
loop-i-preserved c =
    let numbers = c.args.numbers.now in
    let others = c.args.columns.now.rows in
    let place = c.args.place in
    let i = c.loop-i.i in
    let v = value_at (get_or others (get_or numbers i 0) []) place in
    let new = c.join_row.new.self in
    record {
      kept = subst (λ kind. IfSome c.in_ok-marked.marked (λ cells. IsKeptAs kind place others cells.now)) (sym c.in_ok-join_row.ensures.kind) c.loop-i.invariant.kept;
      holds = λ rows is.
          subst (HoldsDistinct new) (sym (values_more place rows others numbers i v (omega (arith, c.loop-i-test.true, c.len-i-end.ensures)) refl))
          ((rw c.at-number.ensures at c.in_ok-join_row.ensures.joins) (present_values place (rows ++ numbered (take i numbers) others)) (c.loop-i.invariant.holds rows is));
    }

pub returns : goal.returns
returns c = λ rows is.
    subst (λ ns. HoldsDistinct c.loop-i.self (present_values c.args.place (rows ++ numbered ns c.args.columns.now.rows)))
    (take_all c.loop-i.i c.args.numbers.now (omega (arith, c.loop-i-test.false, c.len-i-end.ensures))) (c.loop-i.invariant.holds rows is)
