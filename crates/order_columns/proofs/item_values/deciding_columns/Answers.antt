use Rattle.std.proofs.Common.{◌≡◌, ◌∙◌, ◌++◌, ◌∷◌, List, [], ap, get_or, length, map, rules, refl, subst, sym, take}
use Rattle.std.proofs.lemmas.List.{length-map, map_more, take_all}
use Rattle.cell_types.specs.Value.{CellValue}
use Rattle.odata_query.specs.Query.{order_view}
use Rattle.order_columns.specs.Items.{column_of_item, item_row}
use Rattle.order_columns.specs.Plain.{column_value}
use Rattle.order_columns.specs.declared.plain.PlainItem.{PlainItem}
use Rattle.order_columns.proofs.ItemRowLemmas.{column_there, item_found, order_again, order_more, OrderSoFar}
use Rattle.order_columns.proofs.item_values.deciding_columns.Goals as goal

pub loop-place-preserved-then-is_repeated : goal.loop-place-preserved-then-is_repeated
loop-place-preserved-then-is_repeated c =
    let items = c.args.items.now in
    let i = c.loop-place.place in
    let item = c.index-items-place.result in
    let front = map order_view (take i items) in
    let at : get_or items i item ≡ item = search rules in
    let next = map_more order_view items i item c.loop-place-test.true ∙ ap (λ x. front ++ order_view x ∷ []) at in
    subst (λ l. OrderSoFar (map order_view items) l c.loop-place.columns.items) (sym next)
    (order_again (map order_view items) front c.loop-place.columns.items (order_view item) c.loop-place.invariant (c.is_repeated.ensures c.if-is_repeated.true))

pub loop-place-preserved : goal.loop-place-preserved
loop-place-preserved c =
    let items = c.args.items.now in
    let all = map order_view items in
    let i = c.loop-place.place in
    let item = c.index-items-place.result in
    let front = map order_view (take i items) in
    let at : get_or items i item ≡ item = search rules in
    let next = map_more order_view items i item c.loop-place-test.true ∙ ap (λ x. front ++ order_view x ∷ []) at in
    let p : PlainItem = record { column = c.item_column-column.result; descending = item.descending; front = c.front-front.result } in
    let pushed : c.push.new.self.items ≡ c.loop-place.columns.items ++ p ∷ [] = search rules in
    let long : length items ≡ length all = sym (length-map items order_view) in
    let column : c.item_column-column.result ≡ column_of_item (length all) i (order_view item).0 =
    c.item_column-column.ensures ∙ ap (λ n. column_of_item n i (order_view item).0) long in
    let value = λ (row : List CellValue). ap (λ x. column_value x (item_row all row)) column ∙ column_there all i (order_view item) (item_found items i item c.loop-place-test.true at) row in
    let more = order_more all front c.loop-place.columns.items (order_view item) p c.loop-place.invariant value refl in
    subst (λ l. OrderSoFar all l c.push.new.self.items) (sym next) (subst (λ ps. OrderSoFar all (front ++ order_view item ∷ []) ps) (sym pushed) more)

pub returns : goal.returns
returns c =
    subst (λ l. OrderSoFar (map order_view c.args.items.now) (map order_view l) c.loop-place.columns.items) (take_all c.loop-place.place c.args.items.now c.loop-place-test.false)
    c.loop-place.invariant
