use Rattle.std.proofs.Common.{◌++◌, ◌∷◌, [], length, map, take, sym, ap, ◌∙◌, append_assoc}
use Rattle.std.proofs.lemmas.List.{map_more}
use Rattle.cell_types.specs.Value.{value_view}
use Rattle.aggregate_rows.proofs.ListLemmas.{front_more}
use Rattle.aggregate_rows.proofs.groups.push_copies.Goals as goal

pub loop-value-preserved : goal.loop-value-preserved
loop-value-preserved c =
    let others = c.args.others.now in
    let i = c.loop-value.value-index in
    let old = c.args.values.now in
    let v = value_view c.value-item.result in
    let first = map value_view (take i others) in
    record {
      front = ap (take (length old)) c.in_ok-push.ensures.pushed ∙ front_more old c.loop-value.values v c.loop-value.invariant.front;
      values = c.in_ok-push.ensures.pushed ∙ ap (λ vs. vs ++ v ∷ []) c.loop-value.invariant.values ∙ append_assoc old first (v ∷ [])
          ∙ ap (λ vs. old ++ vs) (ap (λ w. first ++ value_view w ∷ []) c.value-item.is ∙ sym (map_more value_view others i c.value-item.result c.loop-value-test.true));
    }
