use Rattle.std.proofs.Common.{◌≡◌, ◌<◌, drop, get_or, length, map, take, inl, inr, refl, sym, ◌∙◌, arith}
use Rattle.std.proofs.lemmas.List.{get_or-drop, get_or-map, get_or-take, length-drop, length-map, length-take-le}
use Rattle.cell_types.specs.Value.{null, value_eq, value_view}
use Rattle.value_rows.proofs.PackedLemmas.{less-or-last, not-false, not-true, pointwise-all, pointwise-not}
use Rattle.value_rows.proofs.packed.PackedValues.are_at.Goals as goal
use Rattle.value_rows.proofs.packed.PackedValues.are_at.Goals.{After-differ}

-- the values that were compared
compared : (c : After-differ) → value_eq (get_or (take c.args.len (drop c.args.from c.args.self.now)) c.loop-i.i null) (get_or (map value_view c.args.values.now) c.loop-i.i null)
    ≡ value_eq (value_view c.value.result) (value_view c.index-values-i.result)
compared c =
    let i = c.loop-i.i in
    let from = c.args.from in
    let values = c.args.values.now in
    let inside : i < length values = omega (arith, c.loop-i-test.true, c.if-values-len.false) in
    rw (
      get_or-take c.args.len (drop from c.args.self.now) i null c.loop-i-test.true,
      get_or-drop from c.args.self.now i null,
      ← c.value.ensures,
      get_or-map value_view values i c.index-values-i.result null inside,
      ← c.index-values-i.is,
    ) refl

pub returns-then-differ : goal.returns-then-differ
returns-then-differ c =
    let part = take c.args.len (drop c.args.from c.args.self.now) in
    let long : length part ≡ c.args.len = length-take-le c.args.len (drop c.args.from c.args.self.now) (omega (arith, c.requires, length-drop c.args.from c.args.self.now)) in
    sym (pointwise-not value_eq part (map value_view c.args.values.now) c.loop-i.i null null (omega (arith, long, c.loop-i-test.true))
    (omega (arith, c.loop-i-test.true, c.if-values-len.false, length-map c.args.values.now value_view)) (compared (goal.at.returns-then-differ c).After-differ ∙ not-true _ _ c.differ.ensures c.if-differ.true))

pub loop-i-preserved : goal.loop-i-preserved
loop-i-preserved c = λ j before.
    elim (less-or-last j c.loop-i.i before) [
      | inl less ↦ c.loop-i.invariant j less
      | inr last ↦ rw last (compared (goal.at.loop-i-preserved c).After-differ ∙ not-false _ _ c.differ.ensures c.if-differ.false)
    ]

pub returns : goal.returns
returns c =
    let part = take c.args.len (drop c.args.from c.args.self.now) in
    let long : length part ≡ c.args.len = length-take-le c.args.len (drop c.args.from c.args.self.now) (omega (arith, c.requires, length-drop c.args.from c.args.self.now)) in
    sym (pointwise-all value_eq part (map value_view c.args.values.now) null null (omega (arith, long, c.if-values-len.false, length-map c.args.values.now value_view))
    (λ j inside. c.loop-i.invariant j (omega (arith, long, inside, c.loop-i-test.false))))
