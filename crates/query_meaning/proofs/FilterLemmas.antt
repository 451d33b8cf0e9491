-- What a filter keeps of rows.
use Rattle.std.proofs.Common.{◌≡◌, ◌↔◌, ◌⊎◌, inl, inr, zero, suc, Bool, true, false, ◌||◌, cond, Option, Some, None, List, [], ◌∷◌, ◌++◌, refl, sym, ap, ◌∙◌, subst, arith}
use Rattle.std.specs.Prelude.{filter, is_none}
use Rattle.std.specs.List.{Any, Contains, list_any}
use Rattle.std.proofs.lemmas.Bool.{false≢true}
use Rattle.std.proofs.lemmas.List.Elements.{Contains-append_cases, Contains-append_right, filter-append}
use Rattle.std.proofs.lemmas.List.Folds.{Any-from_list_any, list_any-append, list_any-from_Any}
use Rattle.cell_types.specs.Value.{CellValue}
use Rattle.typed_trees.specs.TypedTree.{TruthExprOf}
use Rattle.row_eval.specs.declared.truth.Truth.{Truth}
use Rattle.row_eval.specs.declared.truth.Truth.TheVariants.{False, Null, True}
use Rattle.row_eval.specs.Outcome.{both, truth_outcome}
use Rattle.cell_types.proofs.CaseLaws.{cond-None_none, cond-None_some}
use Rattle.query_meaning.specs.Filter.{faults, is_true, passes, passing}

-- ---- what a filter of a list contains

pub none_in : {X : Type 0} (y : X) → Contains [] y → ⊥
none_in y h = let lt = h.1 in omega arith

pub here : {X : Type 0} (x : X) (xs : List X) → Contains (x ∷ xs) x
here x xs = (0, omega arith, refl)

pub later : {X : Type 0} (x y : X) (xs : List X) → Contains xs y → Contains (x ∷ xs) y
later x y xs h = Contains-append_right (x ∷ []) xs y h

one : {X : Type 0} (x y : X) → Contains (x ∷ []) y → x ≡ y
one x y (zero, h, e) = e
one x y (suc k, h, e) = absurd (omega arith)

pub first_or_later : {X : Type 0} (x y : X) (xs : List X) → Contains (x ∷ xs) y → (x ≡ y) ⊎ Contains xs y
first_or_later x y xs h = elim (Contains-append_cases (x ∷ []) xs y h) [
  | inl front ↦ inl (one x y front)
  | inr back ↦ inr back
]

kept_from : {X : Type 0} (p : X → Bool) (x y : X) (xs : List X) (b : Bool) → p x ≡ b → (Contains (filter p xs) y → Contains xs y × (p y ≡ true))
    → Contains (cond b (x ∷ filter p xs) (filter p xs)) y → Contains (x ∷ xs) y × (p y ≡ true)
kept_from p x y xs true e more h = elim (first_or_later x y (filter p xs) h) [
  | inl same ↦ (subst (Contains (x ∷ xs)) same (here x xs), ap p (sym same) ∙ e)
  | inr back ↦ (later x y xs (more back).0, (more back).1)
]
kept_from p x y xs false e more h = (later x y xs (more h).0, (more h).1)

pub from_filter : {X : Type 0} (p : X → Bool) (xs : List X) (y : X) → Contains (filter p xs) y → Contains xs y × (p y ≡ true)
from_filter p [] y h = absurd (none_in y h)
from_filter p (x ∷ xs) y h = kept_from p x y xs (p x) refl (from_filter p xs y) h

kept_into : {X : Type 0} (p : X → Bool) (x y : X) (xs : List X) (b : Bool) → p x ≡ b → p y ≡ true → (Contains xs y → Contains (filter p xs) y)
    → Contains (x ∷ xs) y → Contains (cond b (x ∷ filter p xs) (filter p xs)) y
kept_into p x y xs true e pass more h = elim (first_or_later x y xs h) [
  | inl same ↦ subst (Contains (x ∷ filter p xs)) same (here x (filter p xs))
  | inr back ↦ later x y (filter p xs) (more back)
]
kept_into p x y xs false e pass more h = elim (first_or_later x y xs h) [
  | inl same ↦ absurd (false≢true (sym e ∙ ap p same ∙ pass))
  | inr back ↦ more back
]

pub into_filter : {X : Type 0} (p : X → Bool) (xs : List X) (y : X) → p y ≡ true → Contains xs y → Contains (filter p xs) y
into_filter p [] y pass h = absurd (none_in y h)
into_filter p (x ∷ xs) y pass h = kept_into p x y xs (p x) refl pass (into_filter p xs y pass) h

-- ---- outcomes

true_is : (o : Option Truth) → is_true o ≡ true → o ≡ Some True
true_is (Some True) e = refl
true_is (Some False) e = absurd (false≢true e)
true_is (Some Null) e = absurd (false≢true e)
true_is None e = absurd (false≢true e)

none_is : (o : Option Truth) → is_none o ≡ true → o ≡ None
none_is None e = refl
none_is (Some t) e = absurd (false≢true e)

-- ---- a division by zero

any_none : (e : TruthExprOf) (rows : List (List CellValue)) → Any (λ row. faults e row ≡ true) rows → Any (λ row. truth_outcome e row ≡ None) rows
any_none e rows (k, row, h, is, f) = (k, row, h, is, none_is (truth_outcome e row) f)

any_fault : (e : TruthExprOf) (rows : List (List CellValue)) → Any (λ row. truth_outcome e row ≡ None) rows → Any (λ row. faults e row ≡ true) rows
any_fault e rows (k, row, h, is, f) = (k, row, h, is, ap is_none f)

pub fault : (e : TruthExprOf) (rows : List (List CellValue)) → (passing e rows ≡ None) ↔ Any (λ row. truth_outcome e row ≡ None) rows
fault e rows = (
  λ none. any_none e rows (Any-from_list_any (faults e) rows (cond-None_none (list_any (faults e) rows) (filter (passes e) rows) none)),
  λ any. ap (λ b. cond b None (Some (filter (passes e) rows))) (list_any-from_Any (faults e) rows (any_fault e rows any)),
)

-- ---- the rows that are kept

pub kept : (e : TruthExprOf) (rows kept : List (List CellValue)) (row : List CellValue) → passing e rows ≡ Some kept
    → Contains kept row ↔ (Contains rows row × (truth_outcome e row ≡ Some True))
kept e rows few row some =
    let same = cond-None_some (list_any (faults e) rows) (filter (passes e) rows) few some in (
      λ h. let found = from_filter (passes e) rows row (subst (λ xs. Contains xs row) (sym same) h) in
          (found.0, true_is (truth_outcome e row) found.1),
      λ h. subst (λ xs. Contains xs row) same (into_filter (passes e) rows row (ap is_true h.1) h.0),
    )

pub one_row : (e : TruthExprOf) (row : List CellValue) → truth_outcome e row ≡ Some True → passing e (row ∷ []) ≡ Some (row ∷ [])
one_row e row true_on = rw true_on refl

in_parts : {X : Type 0} (a b : Bool) (xs ys : List X) → cond (a || b) None (Some (xs ++ ys)) ≡ both (λ f s. f ++ s) (cond a None (Some xs)) (cond b None (Some ys))
in_parts true b xs ys = refl
in_parts false true xs ys = refl
in_parts false false xs ys = refl

pub parts : (e : TruthExprOf) (front back : List (List CellValue)) → passing e (front ++ back) ≡ both (λ xs ys. xs ++ ys) (passing e front) (passing e back)
parts e front back =
    ap (λ b. cond b None (Some (filter (passes e) (front ++ back)))) (list_any-append (faults e) front back)
    ∙ ap (λ xs. cond (list_any (faults e) front || list_any (faults e) back) None (Some xs)) (filter-append (passes e) front back)
    ∙ in_parts (list_any (faults e) front) (list_any (faults e) back) (filter (passes e) front) (filter (passes e) back)
