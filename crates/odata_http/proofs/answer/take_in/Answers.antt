use Rattle.std.proofs.Common.{[], ◌++◌}
use Rattle.std.proofs.lemmas.Result.{err_from_is_err_and}
use Rattle.odata_http.proofs.AnswerLemmas.{taken_uncut}
use Rattle.odata_http.proofs.answer.take_in.Goals as goal

pub answer_heads-requires : goal.answer_heads-requires
answer_heads-requires g c =
    rw c.as_slice.ensures.value (c.cuts_are_small.ensures (c.args.splitter.now ++ c.args.piece.now) _ _ _ c.in_ok-cut.ensures.ok)

pub returns-in_err-cut : goal.returns-in_err-cut
returns-in_err-cut g c =
    let p = err_from_is_err_and c.from_residual.result c.from_residual.ensures.1 in
    rw p.1 (taken_uncut (c.args.splitter.now ++ c.args.piece.now) [] _ c.one_cut.ensures p.2)

pub returns-in_err-answer_heads : goal.returns-in_err-answer_heads
returns-in_err-answer_heads g c =
    let p = err_from_is_err_and c.from_residual-in_err-answer_heads.result c.from_residual-in_err-answer_heads.ensures.1 in
    rw (p.1, p.2) (_, _, _, c.in_ok-cut.ensures.ok, rw c.as_slice.ensures.value at c.in_err-answer_heads.ensures)

pub returns : goal.returns
returns g c = (_, c.in_ok-cut.ensures.ok, rw c.as_slice.ensures.value at c.in_ok-answer_heads.ensures)
