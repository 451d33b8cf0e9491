use Rattle.std.proofs.Common.{◌≡◌, ◌+◌, ◌++◌, ◌∷◌, [], ℕ, Vec, Global, length, ap, ◌∙◌}
use Rattle.std.proofs.lemmas.List.{length-append}
use Rattle.std.proofs.lemmas.List.Elements.{All-from_recursion, All-push, recursion_from_All}
use Rattle.aggregate_rows.proofs.parts.no_parts.Goals as goal

pub loop-preserved : goal.loop-preserved
loop-preserved c =
    let new = c.in_ok-part.part in
    record {
      long = ap length c.in_ok-push.ensures.items ∙ length-append c.loop.parts.items (new ∷ []) ∙ ap (λ n. n + 1) c.loop.invariant.long;
      none = rw c.in_ok-push.ensures.items (recursion_from_All (λ (part : Vec ℕ Global). part.items ≡ []) (c.loop.parts.items ++ new ∷ [])
          (All-push (λ (part : Vec ℕ Global). part.items ≡ []) c.loop.parts.items new (All-from_recursion _ c.loop.parts.items c.loop.invariant.none) c.in_ok-part.ensures.items));
    }
