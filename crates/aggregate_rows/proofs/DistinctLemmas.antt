-- Values are kept each once, and so is that of each number that has a mark.
use Rattle.std.proofs.Common.{◌≡◌, ◌↔◌, ℕ, ℤ, pos, ◌+ℤ◌, Bool, true, false, cond, ◌||◌, IsTrue, List, [], ◌∷◌, ◌++◌, Some, map, filter, get_or, inl, inr, refl, sym, ap, subst, ◌∙◌}
use Rattle.std.specs.Prelude.{slice_set}
use Rattle.std.specs.List.{list_any}
use Rattle.std.proofs.Math.Bool.{or-true}
use Rattle.std.proofs.lemmas.Bool.{cases_eq}
use Rattle.std.proofs.lemmas.List.{get_or-set_other}
use Rattle.std.proofs.lemmas.List.Folds.{list_any-append}
use Rattle.cell_types.specs.Kind.{cell_of, typed_cell}
use Rattle.cell_types.specs.Value.{CellValue, value_eq, value_view}
use Rattle.cell_types.specs.declared.kind.NumberKind.{NumberKind}
use Rattle.cell_types.specs.declared.kind.NumberKind.TheVariants.{Integer}
use Rattle.query_meaning.specs.Apply.{is_value}
use Rattle.aggregate_rows.specs.declared.distinct.Distinct.{Distinct}
use Rattle.aggregate_rows.specs.Distinct.{HoldsDistinct, JoinsDistinct, JoinsValue}
use Rattle.aggregate_rows.proofs.ValueLemmas.{seen_again}

number_is_value : (kind : NumberKind) (n : ℤ) → is_value (typed_cell kind n) ≡ true
number_is_value Integer n = refl
number_is_value kind n = refl

among_more : (p : CellValue → Bool) (xs ys : List CellValue) → list_any p xs ≡ true → list_any p (xs ++ ys) ≡ true
among_more p xs ys e = list_any-append p xs ys ∙ ap (λ b. b || list_any p ys) e

-- a value joins
pub value_joined : (old new : Distinct) (v : CellValue) → new.kind ≡ old.kind → new.span ≡ old.span → new.marks ≡ old.marks
    → JoinsDistinct (map value_view old.values.keys) (map value_view new.values.keys) (filter is_value (v ∷ [])) → JoinsValue old new v
value_joined old new v kind span marks joins seen holds = record {
  has = joins seen holds.has;
  marked = λ mark set. rw (kind, span) (among_more (value_eq (cell_of old.kind (Some (old.span.least +ℤ pos mark)))) seen (filter is_value (v ∷ [])) (holds.marked mark (rw marks at set)));
}

-- so does that of a number which has a mark, or gets one
module _ (equal : (a b : CellValue) → IsTrue (value_eq a b) ↔ (a ≡ b)) (old : Distinct) (mark : ℕ) (v : CellValue) (is : v ≡ cell_of old.kind (Some (old.span.least +ℤ pos mark))) where
  some : is_value v ≡ true
  some = ap is_value is ∙ number_is_value old.kind (old.span.least +ℤ pos mark)

  pub marked_again : get_or old.marks.items mark false ≡ true → JoinsValue old old v
  marked_again set seen holds =
      let among : list_any (value_eq v) seen ≡ true = ap (λ w. list_any (value_eq w) seen) is ∙ holds.marked mark set in
      subst (λ b. HoldsDistinct old (seen ++ cond b (v ∷ []) [])) (sym some) (record {
        has = seen_again equal (map value_view old.values.keys) seen v holds.has (holds.has.same v ∙ among);
        marked = λ m s. among_more (value_eq (cell_of old.kind (Some (old.span.least +ℤ pos m)))) seen (v ∷ []) (holds.marked m s);
      })

  here : (seen : List CellValue) → list_any (value_eq v) (seen ++ filter is_value (v ∷ [])) ≡ true
  here seen = ap (λ b. list_any (value_eq v) (seen ++ cond b (v ∷ []) [])) some ∙ list_any-append (value_eq v) seen (v ∷ [])
      ∙ ap (λ b. list_any (value_eq v) seen || (b || false)) ((equal v v).1 refl) ∙ or-true (list_any (value_eq v) seen)

  pub marked_now : (new : Distinct) → new.kind ≡ old.kind → new.span ≡ old.span → new.marks.items ≡ slice_set old.marks.items mark true
      → JoinsDistinct (map value_view old.values.keys) (map value_view new.values.keys) (filter is_value (v ∷ [])) → JoinsValue old new v
  marked_now new kind span marks joins seen holds = record {
    has = joins seen holds.has;
    marked = λ m set. rw (kind, span) (elim (cases_eq m mark) [
      | inl same ↦ subst (λ k. list_any (value_eq (cell_of old.kind (Some (old.span.least +ℤ pos k)))) (seen ++ filter is_value (v ∷ [])) ≡ true) (sym same)
          (subst (λ w. list_any (value_eq w) (seen ++ filter is_value (v ∷ [])) ≡ true) is (here seen))
      | inr other ↦ among_more (value_eq (cell_of old.kind (Some (old.span.least +ℤ pos m)))) seen (filter is_value (v ∷ []))
          (holds.marked m (sym (get_or-set_other old.marks.items mark m true false other) ∙ (rw marks at set)))
    ]);
  }
