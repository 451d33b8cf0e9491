use Rattle.std.proofs.Common.{◌≡◌, IfOk, ap, arith, drop, length, subst, sym, take, ◌∙◌}
use Rattle.std.proofs.lemmas.List.{drop_min}
use Rattle.std.proofs.lemmas.List.Sorted.{length_permutation}
use Rattle.row_selection.specs.Numbers.{numbers_from}
use Rattle.sort_rows.specs.Runs.{all_sorted, left_rows, AreNumbersLeft}
use Rattle.result_rows.specs.Ordered.{rows_in_order, HasLeft}
use Rattle.result_rows.proofs.PieceLemmas.{stored_piece}
use Rattle.result_rows.proofs.cut.piece_numbers.Goals as goal

pub returns-in_default : goal.returns-in_default
returns-in_default c =
    let rows = c.args.columns.now.rows in
    subst (λ o. AreNumbersLeft rows (take c.args.top (drop c.args.skip (rows_in_order o rows))) c.piece.result.items) (sym c.in_default.is)
    (stored_piece rows c.args.skip c.args.top c.piece.result.items
    (c.piece.ensures ∙ ap (λ ns. take c.args.top (drop c.args.skip ns)) (c.in_ok-all.ensures ∙ ap (numbers_from 0) c.len.ensures)))

-- no fewer rows are passed over, since there are no more
pub returns : goal.returns
returns c =
    let rows = c.args.columns.now.rows in
    let order = c.in-Some.order in
    let has = subst (λ o. HasLeft o rows 0) c.in-Some.is c.requires in
    let all = all_sorted order rows in
    let many : length rows ≡ length all = sym (length_permutation rows all has.2) in
    let skipped : drop c.min-skip.result all ≡ drop c.args.skip all = ap (λ n. drop n all) (c.min-skip.ensures ∙ omega (arith, c.len-2.ensures, many)) ∙ drop_min c.args.skip all in
    let left : left_rows c.skip_rows.new.order rows ≡ drop c.args.skip (rows_in_order c.args.order rows) =
    c.skip_rows.ensures.left ∙ ap (drop c.min-skip.result) has.1 ∙ skipped ∙ sym (ap (λ o. drop c.args.skip (rows_in_order o rows)) c.in-Some.is) in
    subst (λ rest. IfOk c.next_numbers.result (λ made. AreNumbersLeft rows (take c.args.top rest) made.items)) left c.next_numbers.ensures
