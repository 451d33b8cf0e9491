use Rattle.std.proofs.Common.{◌≡◌, ◌++◌, ◌∷◌, [], true, false, cond, map, sym, ap, subst, ◌∙◌}
use Rattle.std.specs.List.{list_any}
use Rattle.std.proofs.lemmas.Bool.{not-false}
use Rattle.std.proofs.lemmas.List.{map-append}
use Rattle.cell_types.specs.Value.{value_eq, value_view}
use Rattle.query_meaning.specs.Apply.{is_value}
use Rattle.aggregate_rows.specs.Distinct.{HasDistinct}
use Rattle.aggregate_rows.proofs.ValueLemmas.{any_view, seen_again, seen_first}
use Rattle.aggregate_rows.proofs.distinct.join_value.Goals as goal

pub returns-then-contains : goal.returns-then-contains
returns-then-contains c = λ seen has.
    let v = value_view c.args.value in
    let keys = c.args.values.now.keys in
    let some : is_value v ≡ true = not-false (is_value v) (sym c.is_null.ensures ∙ c.if-is_null.false) in
    let there : list_any (value_eq v) (map value_view keys) ≡ true =
    sym (any_view value_view _ c.values_compare_as_their_views.ensures.equal c.args.value keys) ∙ sym c.contains.ensures ∙ c.if-contains.true in
    subst (λ b. HasDistinct (map value_view keys) (seen ++ cond b (v ∷ []) [])) (sym some) (seen_again c.values_are_ordered.ensures.equal (map value_view keys) seen v has there)

pub returns : goal.returns
returns c = λ seen has.
    let v = value_view c.args.value in
    let keys = c.args.values.now.keys in
    let copy = c.in_ok-owned.field-0 in
    let some : is_value v ≡ true = not-false (is_value v) (sym c.is_null.ensures ∙ c.if-is_null.false) in
    let absent : list_any (value_eq v) (map value_view keys) ≡ false =
    sym (any_view value_view _ c.values_compare_as_their_views.ensures.equal c.args.value keys) ∙ sym c.contains.ensures ∙ c.if-contains.false in
    let other = any_view value_view _ c.values_compare_as_their_views.ensures.equal copy keys ∙ ap (λ w. list_any (value_eq w) (map value_view keys)) c.in_ok-owned.ensures.copy ∙ absent in
    rw (c.in_ok-insert.ensures.keys, other, map-append value_view keys (copy ∷ []), c.in_ok-owned.ensures.copy, some)
    (seen_first c.values_are_ordered.ensures.equal (map value_view keys) seen v has absent)
