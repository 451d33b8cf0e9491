use Rattle.std.proofs.Common.{◌≡◌, suc, ◌-◌, ◌∷◌, arith, sym, ◌∙◌}
use Rattle.std.proofs.lemmas.Bool.{false≢true}
use Rattle.std.proofs.lemmas.Result.{err_from_is_err_and}
use Rattle.odata_parse.specs.Expression.{read_group, read_literal, read_in, read_unary, read_tighter}
use Rattle.odata_parse.specs.Parsing.{calls_unary, calls_binary}
use Rattle.odata_parse.proofs.LiteralLemmas.{IsLiteral-unique}
use Rattle.odata_parse.proofs.PhraseLemmas.{Midway-init, Midway-more, Midway-only, none_first, none_next, close_ends, comma_ends, CanEnd-pred}
use Rattle.odata_parse.proofs.PrimaryLemmas.{Reads-sign, Reads-unsigned, member_tail, Tail-stop, Tail-in, Reads-group, Reads-value, Reads-call, word_is_value, word_reads_value, word_is_name, word_reads_name, word_is_call, Calls-unary, Calls-binary, same_rest}
use Rattle.odata_parse.proofs.expression.+expression.Goals as goal

-- phrase
pub phrase-returns-in_err-left-clause-each : goal.phrase-returns-in_err-left-clause-each
phrase-returns-in_err-left-clause-each t c =
    let p = err_from_is_err_and c.from_residual.result c.from_residual.ensures.1 in
    let l : c.args.level ≡ suc (c.args.level - 1) = omega arith in
    rw (p.1, p.2, l) (none_first _ _ _ (omega arith) c.in_err-left.ensures.each)

pub phrase-loop-operator-init : goal.phrase-loop-operator-init
phrase-loop-operator-init t c =
    Midway-init _ _ _ _ (omega arith) c.in_ok-left.ensures.found c.in_ok-left.ensures.each c.in_ok-left.ensures.shorter

pub phrase-returns-in_err-right-clause-each : goal.phrase-returns-in_err-right-clause-each
phrase-returns-in_err-right-clause-each t c =
    let p = err_from_is_err_and c.from_residual-in_err-right.result c.from_residual-in_err-right.ensures.1 in
    let l : c.args.level ≡ suc (c.args.level - 1) = omega arith in
    let s = c.in-Some.ensures.some in
    rw (p.1, p.2, l) (none_next _ _ _ _ _ _ _ _ c.loop-operator.invariant s.1 s.2 (omega (arith, s.3)) c.in_err-right.ensures.each)

pub phrase-loop-operator-preserved : goal.phrase-loop-operator-preserved
phrase-loop-operator-preserved t c =
    let s = c.in-Some.ensures.some in
    rw (c.in_ok-new.ensures.ok, c.in_ok-new-2.ensures.ok) (Midway-more _ _ _ _ _ _ _ _ _ c.loop-operator.invariant s.1 s.2 (omega (arith, s.3)) c.in_ok-right.ensures.found c.in_ok-right.ensures.each c.in_ok-right.ensures.shorter)

pub phrase-returns-clause-found : goal.phrase-returns-clause-found
phrase-returns-clause-found t c =
    let l : c.args.level ≡ suc (c.args.level - 1) = omega arith in
    rw (l, c.in_default.ensures.none.0) c.loop-operator.invariant.found

pub phrase-returns-clause-each : goal.phrase-returns-clause-each
phrase-returns-clause-each t c =
    let l : c.args.level ≡ suc (c.args.level - 1) = omega arith in
    rw (l, c.in_default.ensures.none.0) (Midway-only _ _ _ _ c.loop-operator.invariant (rw l at c.in_default.ensures.none.1))

-- signed
pub signed-returns-in_default-clause-found : goal.signed-returns-in_default-clause-found
signed-returns-in_default-clause-found t c = rw (← c.in_default.ensures.none.0) (read_tighter c.in_ok-member.ensures.found)

pub signed-returns-in_default-clause-each : goal.signed-returns-in_default-clause-each
signed-returns-in_default-clause-each t c = λ e after r h.
    c.in_ok-member.ensures.each e after (rw (← c.in_default.ensures.none.0) at (Reads-unsigned r c.in_default.ensures.none.1)) (CanEnd-pred 1 after h)

pub signed-returns-in_err-operand-clause-each : goal.signed-returns-in_err-operand-clause-each
signed-returns-in_err-operand-clause-each t c = λ e after r h.
    let p = err_from_is_err_and c.from_residual-in_err-operand.result c.from_residual-in_err-operand.ensures.1 in
    let s = c.in-Some.ensures.some in
    let q = Reads-sign _ s.2 (rw (s.1) at r) in
    rw (p.1, p.2) (c.in_err-operand.ensures.each q.0 after q.1 h)

pub signed-returns-clause-found : goal.signed-returns-clause-found
signed-returns-clause-found t c =
    let s = c.in-Some.ensures.some in rw (s.1, c.in_ok-new.ensures.ok) (read_unary s.2 c.in_ok-operand.ensures.found)

pub signed-returns-clause-each : goal.signed-returns-clause-each
signed-returns-clause-each t c = λ e after r h.
    let s = c.in-Some.ensures.some in
    let q = Reads-sign _ s.2 (rw (s.1) at r) in
    let o = c.in_ok-operand.ensures.each q.0 after q.1 h in
    (cc (q.2, o.0, c.in_ok-new.ensures.ok), o.1)

-- member
pub member-returns-in_default-clause-found : goal.member-returns-in_default-clause-found
member-returns-in_default-clause-found t c = rw (c.in_default.ensures.none.0) (read_tighter c.in_ok-value.ensures.found)

pub member-returns-in_default-clause-each : goal.member-returns-in_default-clause-each
member-returns-in_default-clause-each t c = λ e after r h.
    let s = Tail-stop (member_tail c.in_ok-value.ensures.each r h) c.in_default.ensures.none.1 in (s.0, c.in_default.ensures.none.0 ∙ s.1)

pub member-returns-in_err-items-clause-each : goal.member-returns-in_err-items-clause-each
member-returns-in_err-items-clause-each t c = λ e after r h.
    let p = err_from_is_err_and c.from_residual-in_err-items.result c.from_residual-in_err-items.ensures.1 in
    let s = c.in-Some.ensures.some in
    let q = Tail-in (rw (s.0) at (member_tail c.in_ok-value.ensures.each r h)) s.1 h in
    rw (p.1, p.2) (c.in_err-items.ensures.each q.0 after q.1)

pub member-returns-clause-found : goal.member-returns-clause-found
member-returns-clause-found t c =
    let s = c.in-Some.ensures.some in
    rw (c.in_ok-new.ensures.ok) (read_in (rw (s.0) at c.in_ok-value.ensures.found) s.1 c.in_ok-items.ensures.found)

pub member-returns-clause-each : goal.member-returns-clause-each
member-returns-clause-each t c = λ e after r h.
    let s = c.in-Some.ensures.some in
    let q = Tail-in (rw (s.0) at (member_tail c.in_ok-value.ensures.each r h)) s.1 h in
    let i = c.in_ok-items.ensures.each q.0 after q.1 in
    (cc (q.2, i.0, c.in_ok-new.ensures.ok), i.1)

-- primary
pub primary-returns-in_err-expect-in-OpenParenthesis-clause-each : goal.primary-returns-in_err-expect-in-OpenParenthesis-clause-each
primary-returns-in_err-expect-in-OpenParenthesis-clause-each t c = λ e after r h.
    let q = Reads-group c.in-OpenParenthesis.is (rw (c.in-Some.ensures.some) at r) in
    let i = c.in_ok-inner-in-OpenParenthesis.ensures.each e (q.0 ∷ after) q.1 (close_ends 8 q.0 after q.2) in
    absurd (c.in_err-expect-in-OpenParenthesis.ensures.err q.0 after i.1 q.2)

pub primary-returns-in_ok-expect-in-OpenParenthesis-clause-found : goal.primary-returns-in_ok-expect-in-OpenParenthesis-clause-found
primary-returns-in_ok-expect-in-OpenParenthesis-clause-found t c =
    let k = c.in_ok-expect-in-OpenParenthesis.ensures.ok in
    rw (c.in-Some.ensures.some) (read_group c.in-OpenParenthesis.is (rw (k.0) at c.in_ok-inner-in-OpenParenthesis.ensures.found) k.1)

pub primary-returns-in_ok-expect-in-OpenParenthesis-clause-each : goal.primary-returns-in_ok-expect-in-OpenParenthesis-clause-each
primary-returns-in_ok-expect-in-OpenParenthesis-clause-each t c = λ e after r h.
    let q = Reads-group c.in-OpenParenthesis.is (rw (c.in-Some.ensures.some) at r) in
    let i = c.in_ok-inner-in-OpenParenthesis.ensures.each e (q.0 ∷ after) q.1 (close_ends 8 q.0 after q.2) in
    (i.0, same_rest c.in_ok-expect-in-OpenParenthesis.ensures.ok.0 i.1)

pub primary-returns-in_err-literal_of-in_default-kind-clause-each : goal.primary-returns-in_err-literal_of-in_default-kind-clause-each
primary-returns-in_err-literal_of-in_default-kind-clause-each t c = λ e after r h.
    let p = err_from_is_err_and c.from_residual-in_err-literal_of-in_default-kind.result c.from_residual-in_err-literal_of-in_default-kind.ensures.1 in
    let q = Reads-value c.in_default-kind.not-OpenParenthesis c.in_default-kind.not-Word (rw (c.in-Some.ensures.some) at r) in
    rw (p.1, p.2) (c.in_err-literal_of-in_default-kind.ensures.none q.0 q.1)

pub primary-returns-in_ok-literal_of-in_default-kind-clause-found : goal.primary-returns-in_ok-literal_of-in_default-kind-clause-found
primary-returns-in_ok-literal_of-in_default-kind-clause-found t c =
    rw (c.in-Some.ensures.some) (read_literal c.in_ok-literal_of-in_default-kind.ensures.found)

pub primary-returns-in_ok-literal_of-in_default-kind-clause-each : goal.primary-returns-in_ok-literal_of-in_default-kind-clause-each
primary-returns-in_ok-literal_of-in_default-kind-clause-each t c = λ e after r h.
    let q = Reads-value c.in_default-kind.not-OpenParenthesis c.in_default-kind.not-Word (rw (c.in-Some.ensures.some) at r) in
    let u = IsLiteral-unique _ _ _ c.in_ok-literal_of-in_default-kind.ensures.found q.1 in
    (cc (u, q.2), q.3)

-- word
pub word-returns-in-Some-clause-found : goal.word-returns-in-Some-clause-found
word-returns-in-Some-clause-found t c = word_reads_value _ _ _ c.requires c.in-Some.ensures.some

pub word-returns-in-Some-clause-each : goal.word-returns-in-Some-clause-each
word-returns-in-Some-clause-each t c = λ e after r h. word_is_value _ c.requires c.in-Some.ensures.some r

pub word-returns-in_err-call-clause-each : goal.word-returns-in_err-call-clause-each
word-returns-in_err-call-clause-each t c = λ e after r h.
    let p = err_from_is_err_and c.from_residual.result c.from_residual.ensures.1 in
    let s = c.in-Some-take.ensures.some in
    rw (p.1, p.2) (c.in_err-call.ensures.each e after (word_is_call c.requires c.in_default.ensures.none s.1 h (rw (s.0) at r)))

pub word-returns-in-Some-take-clause-found : goal.word-returns-in-Some-take-clause-found
word-returns-in-Some-take-clause-found t c =
    let s = c.in-Some-take.ensures.some in rw (s.0) (Reads-call s.1 c.in_ok-call.ensures.found)

pub word-returns-in-Some-take-clause-each : goal.word-returns-in-Some-take-clause-each
word-returns-in-Some-take-clause-each t c = λ e after r h.
    let s = c.in-Some-take.ensures.some in
    c.in_ok-call.ensures.each e after (word_is_call c.requires c.in_default.ensures.none s.1 h (rw (s.0) at r))

pub word-returns-clause-found : goal.word-returns-clause-found
word-returns-clause-found t c =
    rw (c.in_default-take.ensures.none.0) (word_reads_name _ _ _ c.requires c.in_default.ensures.none (λ e. false≢true (sym c.if-spells.false ∙ c.spells.ensures.is.1 e)) c.in_ok-from_str.ensures.ok)

pub word-returns-clause-each : goal.word-returns-clause-each
word-returns-clause-each t c = λ e after r h.
    let q = word_is_name c.requires c.in_default.ensures.none c.in_default-take.ensures.none.1 r in
    (rw (c.in_ok-from_str.ensures.ok) q.0, c.in_default-take.ensures.none.0 ∙ q.1)

-- call
pub call-returns-in_err-expect-clause-each : goal.call-returns-in_err-expect-clause-each
call-returns-in_err-expect-clause-each t c = λ e after r.
    let q = Calls-unary _ c.in-Some.ensures.some r in
    let i = c.in_ok-argument.ensures.each q.0 (q.1 ∷ after) q.2 (close_ends 8 q.1 after q.3) in
    absurd (c.in_err-expect.ensures.err q.1 after i.1 q.3)

pub call-returns-in-Some-clause-found : goal.call-returns-in-Some-clause-found
call-returns-in-Some-clause-found t c =
    let k = c.in_ok-expect.ensures.ok in
    rw (c.in_ok-new.ensures.ok) (calls_unary (record { is_word = c.requires; spelled = c.in-Some.ensures.some }) (rw (k.0) at c.in_ok-argument.ensures.found) k.1)

pub call-returns-in_err-expect-2-clause-each : goal.call-returns-in_err-expect-2-clause-each
call-returns-in_err-expect-2-clause-each t c = λ e after r.
    let q = Calls-binary _ c.in-Some-binary_function.ensures.some r in
    let i = c.in_ok-left.ensures.each q.left (q.comma ∷ q.mid) q.reads_left (comma_ends 8 q.comma q.mid q.separates) in
    absurd (c.in_err-expect-2.ensures.err q.comma q.mid i.1 q.separates)

pub call-returns-in_err-expect-3-clause-each : goal.call-returns-in_err-expect-3-clause-each
call-returns-in_err-expect-3-clause-each t c = λ e after r.
    let q = Calls-binary _ c.in-Some-binary_function.ensures.some r in
    let i = c.in_ok-left.ensures.each q.left (q.comma ∷ q.mid) q.reads_left (comma_ends 8 q.comma q.mid q.separates) in
    let m = same_rest i.1 c.in_ok-expect-2.ensures.ok.0 in
    let j = c.in_ok-right.ensures.each q.right (q.closing ∷ after) (rw m at q.reads_right) (close_ends 8 q.closing after q.closes) in
    absurd (c.in_err-expect-3.ensures.err q.closing after j.1 q.closes)

pub call-returns-clause-found : goal.call-returns-clause-found
call-returns-clause-found t c =
    let k = c.in_ok-expect-2.ensures.ok in
    let d = c.in_ok-expect-3.ensures.ok in
    rw (c.in_ok-new-2.ensures.ok, c.in_ok-new-3.ensures.ok) (calls_binary (record { is_word = c.requires; spelled = c.in-Some-binary_function.ensures.some }) (rw (k.0) at c.in_ok-left.ensures.found) k.1 (rw (d.0) at c.in_ok-right.ensures.found) d.1)

pub call-returns-clause-each : goal.call-returns-clause-each
call-returns-clause-each t c = λ e after r.
    let q = Calls-binary _ c.in-Some-binary_function.ensures.some r in
    let i = c.in_ok-left.ensures.each q.left (q.comma ∷ q.mid) q.reads_left (comma_ends 8 q.comma q.mid q.separates) in
    let m = same_rest i.1 c.in_ok-expect-2.ensures.ok.0 in
    let j = c.in_ok-right.ensures.each q.right (q.closing ∷ after) (rw m at q.reads_right) (close_ends 8 q.closing after q.closes) in
    (rw (c.in_ok-new-2.ensures.ok, c.in_ok-new-3.ensures.ok, i.0, j.0) q.is, same_rest c.in_ok-expect-3.ensures.ok.0 j.1)
