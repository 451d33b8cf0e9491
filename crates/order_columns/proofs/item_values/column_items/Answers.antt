use Rattle.std.proofs.Common.{◌≡◌, ◌∙◌, ◌+◌, ◌++◌, ◌∷◌, [], ap, false, get_or, map, refl, rules, subst, sym, take}
use Rattle.std.proofs.lemmas.List.{map_push, take_more}
use Rattle.cell_types.specs.declared.kind.ColumnKind.TheVariants.{Text}
use Rattle.typed_trees.specs.Plain.{plain_at}
use Rattle.odata_query.specs.Query.{order_view}
use Rattle.odata_query.specs.declared.query.OrderBy.{OrderBy}
use Rattle.order_columns.specs.Plain.{AreItemColumns}
use Rattle.order_columns.specs.declared.plain.PlainItem.{PlainItem}
use Rattle.order_columns.proofs.PlainLemmas.{columns_more}
use Rattle.order_columns.proofs.item_values.column_items.Goals as goal

pub loop-item-preserved : goal.loop-item-preserved
loop-item-preserved c =
    let columns = c.args.columns.now in
    let i = c.loop-item.item-index in
    let d : PlainItem = record { column = plain_at Text 0; descending = false; front = record { bytes = []; len = 0 } } in
    let p : PlainItem = get_or columns i d in
    let made : OrderBy = record { expression = c.in_ok-expression.expression; descending = p.descending } in
    let pushed : c.push.new.self.items ≡ c.loop-item.items.items ++ made ∷ [] = search rules in
    subst (λ is. AreItemColumns is (take (i + 1) columns)) (sym (ap (map order_view) pushed ∙ map_push order_view c.loop-item.items.items made))
    (subst (AreItemColumns (map order_view c.loop-item.items.items ++ order_view made ∷ [])) (sym (take_more columns i d c.loop-item-test.true))
    (columns_more (map order_view c.loop-item.items.items) (take i columns) (order_view made) p c.loop-item.invariant c.in_ok-expression.ensures refl))
