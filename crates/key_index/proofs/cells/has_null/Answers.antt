use Rattle.std.proofs.Common.{sym, ap, ◌∙◌}
use Rattle.std.specs.List.{list_any}
use Rattle.std.proofs.lemmas.List.{take_all}
use Rattle.std.proofs.lemmas.List.Folds.{list_any_at}
use Rattle.cell_types.specs.Value.{null, value_eq, value_view}
use Rattle.cell_types.proofs.ListLaws.{list_any-map}
use Rattle.key_index.proofs.cells.has_null.Goals as goal

pub returns-then-is_null : goal.returns-then-is_null
returns-then-is_null c =
    let here = ap (λ value. value_eq null (value_view value)) (sym c.value-item.is) ∙ sym c.is_null.ensures ∙ c.if-is_null.true in
    sym (list_any-map (value_eq null) value_view c.args.key.now
    ∙ list_any_at (λ value. value_eq null (value_view value)) c.args.key.now c.loop-value.value-index c.value-item.result c.loop-value-test.true here)

pub returns : goal.returns
returns c = sym (list_any-map (value_eq null) value_view c.args.key.now
    ∙ ap (list_any (λ value. value_eq null (value_view value))) (sym (take_all c.loop-value.value-index c.args.key.now c.loop-value-test.false)) ∙ c.loop-value.invariant)
