-- Aggregates of which no two are the same, where one more is asked for.
use Rattle.std.proofs.Common.{◌≡◌, ℕ, ◌<◌, ◌+◌, List, [], ◌∷◌, ◌++◌, length, map, take, get_or, inl, inr, refl, sym, ap, subst, ◌∙◌, arith}
use Rattle.std.specs.Prelude.{◌≢◌}
use Rattle.std.specs.List.{All, AllByRecursion}
use Rattle.std.proofs.lemmas.Bool.{cases_lt}
use Rattle.std.proofs.lemmas.List.{get_or_append_left, get_or_default, get_or_push, length-append, map-append, take_more}
use Rattle.std.proofs.lemmas.List.Elements.{All-push, recursion_from_All}
use Rattle.odata_query.specs.declared.aggregate.Aggregate.{Aggregate}
use Rattle.odata_query.specs.declared.aggregate.NamedAggregate.{NamedAggregate}
use Rattle.odata_query.specs.Aggregate.{named_view}
use Rattle.odata_query.specs.declared.aggregate.Aggregate.TheVariants.{Count}
use Rattle.aggregate_rows.specs.Gathered.{plain_aggregates, AreOnce}
use Rattle.aggregate_rows.specs.Tallies.{aggregates_at}

-- places within some aggregates, where more come after these
module _ (once : List Aggregate) (asked : Aggregate) where
  stay : (shown : List ℕ) → AllByRecursion (λ place. place < length once) shown → aggregates_at shown (once ++ asked ∷ []) ≡ aggregates_at shown once
  stay [] within = refl
  stay (place ∷ shown) within = rw (get_or_append_left once (asked ∷ []) Count place within.0, stay shown within.1) refl

-- what is true of all named ones is true of each
pub true_of_each : (P : Aggregate → Type 0) (named once : List Aggregate) (shown : List ℕ) → AreOnce named once shown → All P named → AllByRecursion P once
true_of_each P named once shown are all =
    recursion_from_All P once (λ i d h.
    let there = are.no_others i h in
    subst P (there.2 ∙ get_or_default once i Count d h) (all there.0 Count there.1))

module _ (named once : List Aggregate) (shown : List ℕ) (asked : Aggregate) (are : AreOnce named once shown) where
  more_named : (i : ℕ) → i < length once → (j : ℕ) × (j < length (named ++ asked ∷ [])) × (get_or (named ++ asked ∷ []) j Count ≡ get_or once i Count)
  more_named i h =
      let there = are.no_others i h in (there.0, omega (arith, there.1, length-append named (asked ∷ [])), get_or_append_left named (asked ∷ []) Count there.0 there.1 ∙ there.2)

  -- it is there already
  pub found : (place : ℕ) → place < length once → get_or once place Count ≡ asked → AreOnce (named ++ asked ∷ []) once (shown ++ place ∷ [])
  found place inside is = record {
    are = map-append (λ p. get_or once p Count) shown (place ∷ []) ∙ ap (λ xs. xs ++ get_or once place Count ∷ []) are.are ∙ ap (λ a. named ++ a ∷ []) is;
    within = All-push (λ p. p < length once) shown place are.within inside;
    differ = are.differ;
    no_others = more_named;
  }

  -- or it comes after the others
  pub added : ((i : ℕ) → i < length once → get_or once i Count ≢ asked) → AreOnce (named ++ asked ∷ []) (once ++ asked ∷ []) (shown ++ length once ∷ [])
  added none = record {
    are = map-append (λ p. get_or (once ++ asked ∷ []) p Count) shown (length once ∷ [])
        ∙ ap (λ xs. xs ++ get_or (once ++ asked ∷ []) (length once) Count ∷ []) (stay once asked shown (recursion_from_All (λ p. p < length once) shown are.within) ∙ are.are)
        ∙ ap (λ a. named ++ a ∷ []) (get_or_push once asked Count (length once) refl);
    within = All-push (λ p. p < length (once ++ asked ∷ [])) shown (length once) (λ k d h. omega (arith, are.within k d h, length-append once (asked ∷ []))) (omega (arith, length-append once (asked ∷ [])));
    differ = λ i j less inside. elim (cases_lt j (length once)) [
      | inl there ↦ (λ same. are.differ i j less there (sym (get_or_append_left once (asked ∷ []) Count i (omega (arith, less, there))) ∙ same ∙ get_or_append_left once (asked ∷ []) Count j there))
      | inr past ↦ (let here : j ≡ length once = omega (arith, past, inside, length-append once (asked ∷ [])) in
          λ same. none i (omega (arith, less, here)) (sym (get_or_append_left once (asked ∷ []) Count i (omega (arith, less, here))) ∙ same ∙ ap (λ k. get_or (once ++ asked ∷ []) k Count) here ∙ get_or_push once asked Count (length once) refl))
    ];
    no_others = λ i inside. elim (cases_lt i (length once)) [
      | inl there ↦ (let old = more_named i there in (old.0, old.1, old.2 ∙ sym (get_or_append_left once (asked ∷ []) Count i there)))
      | inr past ↦ (let here : i ≡ length once = omega (arith, past, inside, length-append once (asked ∷ [])) in
          (length named, omega (arith, length-append named (asked ∷ [])), get_or_push named asked Count (length named) refl ∙ sym (ap (λ k. get_or (once ++ asked ∷ []) k Count) here ∙ get_or_push once asked Count (length once) refl)))
    ];
  }

-- the next of some aggregates with names
pub next_named : (aggregates : List NamedAggregate) (i : ℕ) (item : NamedAggregate) → i < length aggregates → item ≡ get_or aggregates i item
    → plain_aggregates (map named_view (take (i + 1) aggregates)) ≡ plain_aggregates (map named_view (take i aggregates)) ++ item.aggregate ∷ []
next_named aggregates i item inside is =
    rw (take_more aggregates i item inside, ← is) (simp map-append)
