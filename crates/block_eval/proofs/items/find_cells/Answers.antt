use borrow.Author.Count.{below_more}
use Rattle.std.proofs.Common.{◌≡◌, ◌<◌, true, get_or, length, subst, sym, ap, ◌∙◌, arith, rules, w64}
use Rattle.std.specs.Prelude.{FitsSigned, pos, slice_set}
use Rattle.std.specs.Ordering.{int_cmp}
use Rattle.std.proofs.lemmas.Int.{to_z-of_z}
use Rattle.std.proofs.lemmas.List.{get_or-set_other, get_or-set_same, get_or_default}
use Rattle.row_eval.specs.declared.truth.Truth.TheVariants.{False}
use Rattle.row_eval.specs.Comparison.{is_among}
use Rattle.row_eval.specs.Logic.{truth_of}
use Rattle.block_eval.specs.Bounds.{IsWithinKnown}
use Rattle.block_eval.specs.Columns.{number_at, unless_null}
use Rattle.block_eval.specs.Lanes.{truth_lane}
use Rattle.block_eval.proofs.items.find_cells.Goals as goal

pub loop-row-preserved : goal.loop-row-preserved
loop-row-preserved c =
    let values = c.args.values.now in
    let nulls = c.args.nulls.now in
    let row = c.loop-row.row in
    let out = c.loop-row.out in
    let truth = c.truth_of.result in
    let fits : FitsSigned w64 (get_or values row (pos 0)) = search rules in
    let inside : row < length nulls = omega arith in
    let within : row < length out = omega arith in
    let given = simp to_z-of_z at c.number_unless.ensures in
    let is : c.number_unless.result ≡ number_at values nulls row = given ∙ ap (λ b. unless_null b (get_or values row (pos 0))) (get_or_default nulls row _ true inside) in
    λ known list has. below_more
    (λ k. IsWithinKnown known (number_at values nulls k) → truth_lane (slice_set out row truth) k ≡ truth_of (is_among int_cmp (number_at values nulls k) list)) row
    (λ k less lies. get_or-set_other out row k truth False (λ e. omega (arith, e, less)) ∙ c.loop-row.invariant known list has k less lies)
    (λ lies. get_or-set_same out row truth False within ∙ c.truth_of.ensures ∙ ap truth_of (c.has.ensures known list has (subst (IsWithinKnown known) (sym is) lies))
    ∙ ap (λ n. truth_of (is_among int_cmp n list)) is)
