use Rattle.std.proofs.Common.{◌≡◌, length, sym, ap, subst, ◌∙◌}
use Rattle.row_eval.specs.declared.truth.Truth.TheVariants.{False, True}
use Rattle.typed_trees.specs.TypedTree.{compare_truths, conjunction, disjunction, negation, truth_view}
use Rattle.row_eval.specs.Outcome.{truth_outcome}
use Rattle.block_eval.specs.Lanes.{truth_lane, AreAsked, AreOutcomesWithin, HasTruths}
use Rattle.block_eval.specs.Truths.{truth_comparison}
use Rattle.block_eval.proofs.LogicLemmas.{both-gives, either-gives, ok-gives, none-gives, opposite-gives}
use Rattle.block_eval.proofs.TruthLemmas.{compared-gives}
use Rattle.block_eval.proofs.block.+eval_block.Goals as goal

pub returns-in_ok-right-in-And : goal.returns-in_ok-right-in-And
returns-in_ok-right-in-And t c =
    let columns = c.args.columns.now in
    let ranges = c.args.summary.now in
    let wanted = c.args.wanted.now in
    let ls = c.in_ok-left-in-And.left.items in
    let rs = c.in_ok-right-in-And.right.items in
    let asked = c.in_ok-asked-in-And.asked.items in
    let l = truth_view c.deref-in-And.result.now in
    let r = truth_view c.deref-in-And-2.result.now in
    let open_rows : AreAsked wanted ls False asked = subst (λ ts. AreAsked wanted ts False asked) c.as_slice.ensures.value c.in_ok-asked-in-And.ensures in
    let right : AreOutcomesWithin r ranges columns asked rs = subst (λ a. AreOutcomesWithin r ranges columns a rs) c.as_slice-in-And.ensures.value c.in_ok-right-in-And.ensures in
    let is : truth_view c.args.expr.now ≡ conjunction (truth_view c.in-And.left.value) (truth_view c.in-And.right.value) = ap truth_view c.in-And.is in
    let e : conjunction l r ≡ truth_view c.args.expr.now =
    ap (λ x. conjunction x r) (ap truth_view c.deref-in-And.ensures) ∙ ap (conjunction (truth_view c.in-And.left.value)) (ap truth_view c.deref-in-And-2.ensures) ∙ sym is in
    subst (λ tree. AreOutcomesWithin tree ranges columns wanted c.conjunction.result.items) e
    (both-gives (truth_outcome l) (truth_outcome r) ranges columns wanted asked ls rs c.conjunction.result.items c.in_ok-left-in-And.ensures open_rows right c.conjunction.ensures)

pub returns-in_ok-right-in-Or : goal.returns-in_ok-right-in-Or
returns-in_ok-right-in-Or t c =
    let columns = c.args.columns.now in
    let ranges = c.args.summary.now in
    let wanted = c.args.wanted.now in
    let ls = c.in_ok-left-in-Or.left.items in
    let rs = c.in_ok-right-in-Or.right.items in
    let asked = c.in_ok-asked-in-Or.asked.items in
    let l = truth_view c.deref-in-Or.result.now in
    let r = truth_view c.deref-in-Or-2.result.now in
    let open_rows : AreAsked wanted ls True asked = subst (λ ts. AreAsked wanted ts True asked) c.as_slice-in-Or.ensures.value c.in_ok-asked-in-Or.ensures in
    let right : AreOutcomesWithin r ranges columns asked rs = subst (λ a. AreOutcomesWithin r ranges columns a rs) c.as_slice-in-Or-2.ensures.value c.in_ok-right-in-Or.ensures in
    let is : truth_view c.args.expr.now ≡ disjunction (truth_view c.in-Or.left.value) (truth_view c.in-Or.right.value) = ap truth_view c.in-Or.is in
    let e : disjunction l r ≡ truth_view c.args.expr.now =
    ap (λ x. disjunction x r) (ap truth_view c.deref-in-Or.ensures) ∙ ap (disjunction (truth_view c.in-Or.left.value)) (ap truth_view c.deref-in-Or-2.ensures) ∙ sym is in
    subst (λ tree. AreOutcomesWithin tree ranges columns wanted c.disjunction.result.items) e
    (either-gives (truth_outcome l) (truth_outcome r) ranges columns wanted asked ls rs c.disjunction.result.items c.in_ok-left-in-Or.ensures open_rows right c.disjunction.ensures)

pub returns-in_ok-truths-in-Not : goal.returns-in_ok-truths-in-Not
returns-in_ok-truths-in-Not t c =
    let columns = c.args.columns.now in
    let ranges = c.args.summary.now in
    let wanted = c.args.wanted.now in
    let a = truth_view c.deref.result.now in
    let e : negation a ≡ truth_view c.args.expr.now = ap negation (ap truth_view c.deref.ensures) ∙ sym (ap truth_view c.in-Not.is) in
    subst (λ tree. AreOutcomesWithin tree ranges columns wanted c.negation.result.items) e
    (opposite-gives (truth_outcome a) ranges columns wanted c.in_ok-truths-in-Not.truths.items c.negation.result.items c.in_ok-truths-in-Not.ensures c.negation.ensures)

pub returns-then-none_is_wanted : goal.returns-then-none_is_wanted
returns-then-none_is_wanted t c =
    none-gives (truth_outcome (truth_view c.args.expr.now)) c.args.summary.now c.args.columns.now c.args.wanted.now False c.in_ok-same_truth.field-0.items
    (c.none_is_wanted.ensures c.if-none_is_wanted.true) c.in_ok-same_truth.ensures

pub returns-in_ok-right-in-CompareTruths : goal.returns-in_ok-right-in-CompareTruths
returns-in_ok-right-in-CompareTruths t c =
    let columns = c.args.columns.now in
    let ranges = c.args.summary.now in
    let wanted = c.args.wanted.now in
    let o = c.in-CompareTruths.operator in
    let l = truth_view c.deref-in-CompareTruths.result.now in
    let r = truth_view c.deref-in-CompareTruths-2.result.now in
    let xs = c.as_slice-in-CompareTruths.result.now in
    let ys = c.as_slice-in-CompareTruths-2.result.now in
    let e : compare_truths o l r ≡ truth_view c.args.expr.now =
    ap (λ x. compare_truths o x r) (ap truth_view c.deref-in-CompareTruths.ensures) ∙ ap (compare_truths o (truth_view c.in-CompareTruths.left.value)) (ap truth_view c.deref-in-CompareTruths-2.ensures) ∙ sym (ap truth_view c.in-CompareTruths.is) in
    ok-gives c.compare_truths.result (λ truths. HasTruths (length ys) (λ row. truth_comparison o (truth_lane xs row) (truth_lane ys row)) truths.items)
    (λ truths. AreOutcomesWithin (truth_view c.args.expr.now) ranges columns wanted truths.items)
    (λ truths has. subst (λ tree. AreOutcomesWithin tree ranges columns wanted truths.items) e
    (compared-gives o (truth_outcome l) (truth_outcome r) ranges columns wanted c.in_ok-left-in-CompareTruths.left.items c.in_ok-right-in-CompareTruths.right.items xs ys truths.items
    c.as_slice-in-CompareTruths.ensures.value c.as_slice-in-CompareTruths-2.ensures.value c.in_ok-left-in-CompareTruths.ensures c.in_ok-right-in-CompareTruths.ensures has))
    c.compare_truths.ensures
