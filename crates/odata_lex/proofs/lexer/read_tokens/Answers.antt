use Rattle.std.proofs.Common.{◌+◌, ◌<◌, ◌≤◌, ◌∙◌, sym, length, arith}
use Rattle.odata_lex.proofs.Progress.{Progress-blank, Progress-token, token_within, Progress-end, Progress-bad, Progress-many, read_at}
use Rattle.odata_lex.proofs.lexer.read_tokens.Goals as goal

pub loop-place-preserved-then-is_blank : goal.loop-place-preserved-then-is_blank
loop-place-preserved-then-is_blank c = Progress-blank _ _ _ c.loop-place.invariant c.loop-place-test.true (sym c.is_blank.ensures ∙ c.if-is_blank.true)

pub returns-in_default-clause-fault : goal.returns-in_default-clause-fault
returns-in_default-clause-fault c =
    Progress-bad c.args.bytes.now _ c.loop-place.place c.loop-place.invariant c.loop-place-test.true (sym c.is_blank.ensures ∙ c.if-is_blank.false) (read_at c.args.bytes.now c.loop-place.place _ c.in_default.ensures)

pub returns-then-len-eq-MAX_TOKENS-clause-fault : goal.returns-then-len-eq-MAX_TOKENS-clause-fault
returns-then-len-eq-MAX_TOKENS-clause-fault c =
    Progress-many c.args.bytes.now _ c.loop-place.place _ _ c.loop-place.invariant (read_at c.args.bytes.now c.loop-place.place _ c.in-Some.ensures) (sym c.loop-place.tokens.ok.0 ∙ sym c.len.ensures ∙ c.if-len-eq-MAX_TOKENS.true)

pub overflow_add-end : goal.overflow_add-end
overflow_add-end c = let within : (0 < c.in-Some.len) × (c.loop-place.place + c.in-Some.len ≤ length c.args.bytes.now) = token_within c.args.bytes.now c.loop-place.place _ _ (read_at c.args.bytes.now c.loop-place.place _ c.in-Some.ensures) c.loop-place.invariant.inside in omega (arith, within)

pub loop-place-smaller : goal.loop-place-smaller
loop-place-smaller c = let within : (0 < c.in-Some.len) × (c.loop-place.place + c.in-Some.len ≤ length c.args.bytes.now) = token_within c.args.bytes.now c.loop-place.place _ _ (read_at c.args.bytes.now c.loop-place.place _ c.in-Some.ensures) c.loop-place.invariant.inside in omega (arith, within)

pub loop-place-preserved : goal.loop-place-preserved
loop-place-preserved c =
    Progress-token c.args.bytes.now _ _ c.loop-place.place _ _ c.loop-place.invariant (read_at c.args.bytes.now c.loop-place.place _ c.in-Some.ensures) (λ full. c.if-len-eq-MAX_TOKENS.false (c.len.ensures ∙ c.loop-place.tokens.ok.0 ∙ full)) c.in_ok-push.ensures.items

pub returns-clause-tokens : goal.returns-clause-tokens
returns-clause-tokens c = Progress-end _ _ _ c.requires c.loop-place.invariant c.loop-place-test.false
