use Rattle.std.proofs.Common.{◌+◌, ◌++◌, ◌∷◌, [], get_or, map, take, sym, ap, ◌∙◌, append_assoc}
use Rattle.std.proofs.lemmas.List.{map_more}
use Rattle.row_columns.specs.Numbers.{numbers_from}
use Rattle.aggregate_rows.proofs.groups.shown_places.Goals as goal

pub loop-place-preserved : goal.loop-place-preserved
loop-place-preserved c =
    let key = c.args.key_width in
    let shown = c.args.shown.now in
    let i = c.loop-place.place-index in
    c.in_ok-push.ensures.items ∙ ap (λ xs. xs ++ (key + get_or shown i 0) ∷ []) c.loop-place.invariant
    ∙ append_assoc (numbers_from 0 key) (map (λ place. key + place) (take i shown)) ((key + get_or shown i 0) ∷ [])
    ∙ ap (λ xs. numbers_from 0 key ++ xs) (sym (map_more (λ place. key + place) shown i 0 c.loop-place-test.true))
