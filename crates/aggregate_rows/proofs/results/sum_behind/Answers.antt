use Rattle.row_eval.specs.Row.{number_in}
use Rattle.std.proofs.Common.{sym, subst}
use Rattle.std.proofs.lemmas.List.{length-map}
use Rattle.query_meaning.specs.Fitting.{AreSummable}
use Rattle.row_eval.specs.Row.{cell}
use Rattle.row_columns.specs.Picked.{numbered}
use Rattle.aggregate_rows.specs.Sums.{numbers_in}
use Rattle.aggregate_rows.proofs.FitLemmas.{rest_fit}
use Rattle.aggregate_rows.proofs.SumLemmas.{sums_fit, sums_join}
use Rattle.aggregate_rows.proofs.results.sum_behind.Goals as goal

pub sum_of_rows-requires-clause-fits : goal.sum_of_rows-requires-clause-fits
sum_of_rows-requires-clause-fits c =
    let more = numbered c.args.rows.numbers.now c.args.rows.columns.now.rows in
    subst (AreSummable (numbers_in c.args.kind c.args.place more)) (length-map c.args.rows.numbers.now _)
    (rest_fit (λ row. cell (number_in c.args.kind) row c.args.place) c.requires.joins.rows more c.requires.joins.fits)

pub joined_sum-requires : goal.joined_sum-requires
joined_sum-requires c =
    let more = numbered c.args.rows.numbers.now c.args.rows.columns.now.rows in
    rw (c.requires.joins.sum_is, c.sum_of_rows.ensures)
    (sums_fit (λ row. cell (number_in c.args.kind) row c.args.place) c.requires.joins.rows more c.requires.joins.fits)

pub returns : goal.returns
returns c = λ rows is.
    let more = numbered c.args.rows.numbers.now c.args.rows.columns.now.rows in
    rw (c.joined_sum.ensures, is, c.sum_of_rows.ensures) (sym (sums_join (λ row. cell (number_in c.args.kind) row c.args.place) rows more))
