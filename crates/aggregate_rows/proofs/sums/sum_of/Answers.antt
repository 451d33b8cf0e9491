use Rattle.row_eval.specs.Row.{number_in}
use Rattle.std.proofs.Common.{◌≡◌, ℕ, ℤ, Option, [], get_or, length, sym, ap, subst, ◌∙◌, arith}
use Rattle.row_eval.specs.Row.{cell}
use Rattle.query_meaning.specs.Fitting.{AreSummable}
use Rattle.aggregate_rows.specs.Sums.{sum_of, sums_joined}
use Rattle.aggregate_rows.proofs.SumLemmas.{fits_before, joins_before, read_over}
use Rattle.aggregate_rows.proofs.sums.sum_of.Goals as goal

pub joined_sum-sum-requires : goal.joined_sum-sum-requires
joined_sum-sum-requires c =
    let rows = c.args.columns.now.rows in
    let read : ℕ → Option ℤ = λ n. cell (number_in c.args.kind) (get_or rows n []) c.args.place in
    let numbers = c.args.numbers.now in
    let fit = subst (λ ns. AreSummable ns (length numbers)) (read_over (λ row. cell (number_in c.args.kind) row c.args.place) (λ n. get_or rows n []) numbers) c.requires.fits in
    let number = rw c.at.ensures at c.number_at.ensures in
    rw (number, c.loop-i.invariant.sum) (fits_before read numbers c.loop-i.i 0 c.loop-i-test.true c.loop-i.invariant.within fit)

pub loop-i-preserved : goal.loop-i-preserved
loop-i-preserved c =
    let read : ℕ → Option ℤ = λ n. cell (number_in c.args.kind) (get_or c.args.columns.now.rows n []) c.args.place in
    let before = joins_before read c.args.numbers.now c.loop-i.i 0 c.loop-i-test.true c.loop-i.invariant.within in
    let number = rw c.at.ensures at c.number_at.ensures in
    record { within = omega arith; sum = c.joined_sum-sum.ensures ∙ ap (λ o. sums_joined o c.loop-i.sum) number ∙ ap (sums_joined _) c.loop-i.invariant.sum ∙ sym before }

pub returns : goal.returns
returns c =
    let rows = c.args.columns.now.rows in
    let zero : c.loop-i.i ≡ 0 = omega arith in
    (rw zero at c.loop-i.invariant.sum) ∙ ap sum_of (sym (read_over (λ row. cell (number_in c.args.kind) row c.args.place) (λ n. get_or rows n []) c.args.numbers.now))
