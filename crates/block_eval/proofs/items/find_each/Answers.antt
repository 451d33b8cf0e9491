use Rattle.std.proofs.Common.{◌≡◌, Option, Some, subst, sym, ap, ◌∙◌, of_z, rules, to_z, w64}
use Rattle.std.specs.Prelude.{ℤ, FitsSigned}
use Rattle.std.proofs.lemmas.Int.{to_z-of_z}
use Rattle.std.specs.Ordering.{int_cmp}
use Rattle.row_eval.specs.Comparison.{is_among}
use Rattle.row_eval.specs.Logic.{truth_of}
use Rattle.block_eval.specs.Bounds.{IsWithinKnown}
use Rattle.block_eval.specs.Lanes.{number_lane}
use Rattle.block_eval.proofs.items.find_each.Goals as goal

pub returns-in-Null : goal.returns-in-Null
returns-in-Null c =
    λ known list has row less lies.
    let is = ap (λ v. number_lane v row) c.in-Null.is in
    c.find_same.ensures known list has row less (subst (IsWithinKnown known) is lies) ∙ ap (λ n. truth_of (is_among int_cmp n list)) (sym is)

pub returns-in-Same : goal.returns-in-Same
returns-in-Same c =
    let fits : FitsSigned w64 c.in-Same.number = search rules in
    let number : ◌≡◌ {A = Option ℤ} (Some (to_z w64 (of_z w64 c.in-Same.number))) (Some c.in-Same.number) = ap (λ n. Some n) (to_z-of_z w64 c.in-Same.number fits) in
    λ known list has row less lies.
    let is = ap (λ v. number_lane v row) c.in-Same.is ∙ sym number in
    c.find_same-in-Same.ensures known list has row less (subst (IsWithinKnown known) is lies) ∙ ap (λ n. truth_of (is_among int_cmp n list)) (sym is)
