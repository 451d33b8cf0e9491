use Rattle.std.proofs.Common.{◌≡◌, ◌∙◌, ◌++◌, ◌∷◌, [], ap, get_or, map, rules, subst, sym, take}
use Rattle.std.proofs.lemmas.List.{map_more}
use Rattle.odata_query.specs.Query.{order_view}
use Rattle.order_columns.specs.Plain.{AreItemColumns}
use Rattle.order_columns.specs.declared.plain.PlainItem.{PlainItem}
use Rattle.order_columns.proofs.PlainLemmas.{columns_again, columns_more}
use Rattle.order_columns.proofs.plain.plain_items.Goals as goal

pub loop-place-preserved-then-is_repeated : goal.loop-place-preserved-then-is_repeated
loop-place-preserved-then-is_repeated c =
    let items = c.args.items.now in
    let i = c.loop-place.place in
    let item = c.index-items-place.result in
    let front = map order_view (take i items) in
    let at : get_or items i item ≡ item = search rules in
    let next = map_more order_view items i item c.loop-place-test.true ∙ ap (λ x. front ++ order_view x ∷ []) at in
    let again = columns_again front c.loop-place.plain.items (order_view item) c.in-Some.column c.loop-place.invariant c.in-Some.ensures
    (c.is_repeated.ensures c.if-is_repeated.true) in
    subst (λ l. AreItemColumns l c.loop-place.plain.items) (sym next) again

pub loop-place-preserved : goal.loop-place-preserved
loop-place-preserved c =
    let items = c.args.items.now in
    let i = c.loop-place.place in
    let item = c.index-items-place.result in
    let front = map order_view (take i items) in
    let at : get_or items i item ≡ item = search rules in
    let next = map_more order_view items i item c.loop-place-test.true ∙ ap (λ x. front ++ order_view x ∷ []) at in
    let p : PlainItem = record { column = c.in-Some.column; descending = item.descending; front = c.none-front.result } in
    let pushed : c.push.new.self.items ≡ c.loop-place.plain.items ++ p ∷ [] = search rules in
    let more = columns_more front c.loop-place.plain.items (order_view item) p c.loop-place.invariant c.in-Some.ensures (search rules) in
    subst (λ l. AreItemColumns l c.push.new.self.items) (sym next) (subst (λ ps. AreItemColumns (front ++ order_view item ∷ []) ps) (sym pushed) more)
