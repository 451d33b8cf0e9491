use Rattle.std.proofs.Common.{◌≡◌, ◌++◌, nat_eq, ℕ, List, [], ◌∷◌, take, get_or, ap, sym, ◌∙◌}
use Rattle.std.specs.List.{list_any}
use Rattle.odata_query.specs.FirstSeen.{first_seen}
use Rattle.odata_query.proofs.FirstSeenLemmas.{pushed_number}
use Rattle.odata_query.proofs.group.first_places.Goals as goal
use Rattle.odata_query.proofs.group.first_places.Goals.{then-not-is_among+in_ok-push, else-not-is_among}

pub loop-place-preserved : goal.loop-place-preserved
loop-place-preserved c =
    let push = pushed_number c.args.places.now c.loop-place.place-index c.loop-place-test.true in
    let among : c.is_among.result ≡ list_any (λ p. nat_eq p (get_or c.args.places.now c.loop-place.place-index 0)) (first_seen nat_eq (take c.loop-place.place-index c.args.places.now)) =
    c.is_among.ensures ∙ ap (λ (l : List ℕ). list_any (λ p. nat_eq p (get_or c.args.places.now c.loop-place.place-index 0)) l) (c.deref.ensures.value ∙ c.loop-place.invariant) in
    elim c.if-not-is_among.branch [
      | then-not-is_among+in_ok-push w ↦
          ap (λ m. m.items) w.made-is ∙ w.in_ok-push.ensures.items ∙ ap (λ (l : List ℕ). l ++ get_or c.args.places.now c.loop-place.place-index 0 ∷ []) c.loop-place.invariant
          ∙ sym (push.1 (sym among ∙ w.if-not-is_among.true))
      | else-not-is_among w ↦ ap (λ m. m.items) w.made-is ∙ c.loop-place.invariant ∙ sym (push.0 (sym among ∙ w.if-not-is_among.false))
    ]
