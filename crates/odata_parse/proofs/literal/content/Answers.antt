use Rattle.std.proofs.Common.{◌≡◌, ℕ, ◌+◌, Some, None, get_or, arith, string_bytes, ap, List, ◌++◌, ◌-◌, ◌∙◌}
use Rattle.std.proofs.lemmas.Str.Pattern.{find_char}
use Rattle.odata_parse.proofs.LiteralLemmas.{Unquoting-more, Unquoting-end, Unquoting-second, text_long, quote_boundary}
use Rattle.odata_parse.proofs.literal.content.Goals as goal

-- src/literal.rt:41:9
pub range-rest-requires-clause-start_boundary : goal.range-rest-requires-clause-start_boundary
range-rest-requires-clause-start_boundary c = λ _.
    quote_boundary c.args.quoted.now 0 c.utf8.quoted (omega (arith, text_long _ c.requires)) (ap (λ s. get_or s 0 0) c.requires.printed)

-- src/literal.rt:43:34
pub overflow_add-at : goal.overflow_add-at
overflow_add-at c =
    let h = find_char 39 c.loop-at.rest.now (Some c.in-Some.at) c.in-Some.ensures.cases (omega arith) in
    let s = Unquoting-second _ _ _ _ c.loop-at.invariant.1 h.0 h.1 h.2 in
    omega (arith, s.0)

-- src/literal.rt:44:9
pub range_from-rest-requires : goal.range_from-rest-requires
range_from-rest-requires c = λ _.
    let h = find_char 39 c.loop-at.rest.now (Some c.in-Some.at) c.in-Some.ensures.cases (omega arith) in
    let s = Unquoting-second _ _ _ _ c.loop-at.invariant.1 h.0 h.1 h.2 in
    let two : c.in-Some.at + 1 + 1 ≡ c.in-Some.at + 2 = omega arith in
    rw two at (quote_boundary c.loop-at.rest.now (c.in-Some.at + 1) c.loop-at.invariant.0 (omega (arith, s.0)) s.1)

-- src/literal.rt:42:5
pub loop-at-preserved : goal.loop-at-preserved
loop-at-preserved c =
    let h = find_char 39 c.loop-at.rest.now (Some c.in-Some.at) c.in-Some.ensures.cases (omega arith) in
    let z : c.in-Some.at + 1 - 0 ≡ c.in-Some.at + 1 = omega arith in
    (c.range_from-rest.utf8, Unquoting-more _ _ _ _ _ _ c.loop-at.invariant.1 h.0 h.1 h.2 (rw z at (c.in_ok-push_str.ensures.bytes ∙ ap (λ (s : List ℕ). string_bytes c.loop-at.content ++ s) c.range.ensures.value)) c.range_from-rest.ensures.value, omega arith)

-- src/literal.rt:36:1
pub returns : goal.returns
returns c =
    let h = find_char 39 c.loop-at.rest.now None c.in_default.ensures.cases (omega arith) in
    rw (c.in_ok-push_str-2.ensures.bytes) (Unquoting-end _ _ _ c.loop-at.invariant.1 h)
