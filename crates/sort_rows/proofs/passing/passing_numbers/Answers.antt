use Rattle.std.proofs.Common.{◌≡◌, ◌<◌, [], true, Some, length, get_or, rules, refl}
use Rattle.typed_trees.specs.TypedTree.{truth_view}
use Rattle.row_eval.specs.Bounds.{TruthFits}
use Rattle.row_eval.specs.Outcome.{truth_outcome}
use Rattle.row_eval.specs.declared.truth.Truth.TheVariants.{False, Null, True}
use Rattle.sort_rows.proofs.NumberLemmas.{fails_more, holds_at, passes_more, passing_fault}
use Rattle.sort_rows.proofs.passing.passing_numbers.Goals as goal
use Rattle.sort_rows.proofs.passing.passing_numbers.Goals.{in-True+in_ok-map_err-in-True, in-False, in-Null}

pub truth_on-requires-clause-fits : goal.truth_on-requires-clause-fits
truth_on-requires-clause-fits c =
    holds_at (TruthFits (truth_view c.args.condition.now)) c.args.numbers.now c.args.columns.now.rows c.loop-number.number-index c.requires.fits (search rules)

pub returns-in_err-truth_on : goal.returns-in_err-truth_on
returns-in_err-truth_on c =
    let given = passing_fault c.true_rows_pass.ensures (truth_view c.args.condition.now) true c.args.numbers.now
    c.args.columns.now.rows c.loop-number.number-index c.in_err-truth_on.field-0.0 (search rules) c.in_err-truth_on.ensures in
    search (rules, given)

pub loop-number-preserved : goal.loop-number-preserved
loop-number-preserved c =
    let e = truth_view c.args.condition.now in
    let inside : c.loop-number.number-index < length c.args.numbers.now = search rules in
    elim c.match-branch-2.branch [
      | in-True+in_ok-map_err-in-True w ↦ (
          let is : truth_outcome e (get_or c.args.columns.now.rows (get_or c.args.numbers.now c.loop-number.number-index 0) []) ≡ Some True = search rules in
          let more = passes_more c.true_rows_pass.ensures e c.args.numbers.now c.loop-number.passing.items c.args.columns.now.rows c.loop-number.number-index inside
          c.requires.within is c.loop-number.invariant in
          search (rules, more))
      | in-False w ↦ (
          let is : truth_outcome e (get_or c.args.columns.now.rows (get_or c.args.numbers.now c.loop-number.number-index 0) []) ≡ Some False = search rules in
          let less = fails_more c.true_rows_pass.ensures e c.args.numbers.now c.loop-number.passing.items c.args.columns.now.rows c.loop-number.number-index False inside
          refl is c.loop-number.invariant in
          search (rules, less))
      | in-Null w ↦ (
          let is : truth_outcome e (get_or c.args.columns.now.rows (get_or c.args.numbers.now c.loop-number.number-index 0) []) ≡ Some Null = search rules in
          let less = fails_more c.true_rows_pass.ensures e c.args.numbers.now c.loop-number.passing.items c.args.columns.now.rows c.loop-number.number-index Null inside
          refl is c.loop-number.invariant in
          search (rules, less))
    ]
