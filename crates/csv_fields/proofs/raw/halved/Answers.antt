-- Each turn takes the front up to the first pair, and the pair as one.
use Rattle.std.proofs.Common.{◌≡◌, ◌++◌, ◌∷◌, [], string_bytes, arith, rules, sym, ap, ◌∙◌}
use Rattle.csv_fields.proofs.RawLemmas.{halved-turn, halved-whole}
use Rattle.csv_fields.proofs.raw.halved.Goals as goal

pub loop-front-preserved : goal.loop-front-preserved
loop-front-preserved c =
    let grown : string_bytes c.push.new.self ≡ (string_bytes c.loop-front.content ++ c.in-Some.front.now) ++ 34 ∷ [] =
    c.in_ok-push.ensures.bytes ∙ ap (λ xs. string_bytes c.push_str.new.self ++ xs) (c.in_ok-push.ensures.ascii (omega arith))
    ∙ ap (λ xs. xs ++ 34 ∷ []) c.in_ok-push_str.ensures.bytes in
    (search rules, halved-turn c.args.text.now _ _ c.loop-front.rest.now _ _ c.loop-front.invariant.1 c.in-Some.ensures.cases grown)

pub returns : goal.returns
returns c = c.in_ok-push_str-2.ensures.bytes ∙ sym (c.loop-front.invariant.1 ∙ ap (λ xs. string_bytes c.loop-front.content ++ xs) (halved-whole _ c.in_default.ensures.cases))
