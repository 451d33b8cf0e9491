-- Filters that cannot divide by zero are one test of a row.
use Rattle.std.proofs.Common.{◌≡◌, ℕ, Bool, true, false, ◌&&◌, ◌||◌, cond, Option, Some, None, List, [], ◌∷◌, ◌++◌, map, refl, sym, ap, ◌∙◌}
use Rattle.std.specs.Prelude.{filter, is_none, IsSome, option_and_then, option_map}
use Rattle.std.specs.List.{flat_map, list_any}
use Rattle.std.proofs.lemmas.Bool.{false≢true, or_parts}
use Rattle.std.proofs.lemmas.List.Folds.{list_any-append}
use Rattle.std.proofs.Math.Bool.{and-true, or-false}
use Rattle.cell_types.specs.Value.{CellValue}
use Rattle.typed_trees.specs.CanFault.{truth_can_fault}
use Rattle.typed_trees.specs.TypedTree.{TruthExprOf, conjunction}
use Rattle.row_eval.specs.declared.truth.Truth.{Truth}
use Rattle.row_eval.specs.declared.truth.Truth.TheVariants.{False, Null, True}
use Rattle.row_eval.specs.Laws.{FaultsAreForeseen}
use Rattle.row_eval.specs.Logic.{and_then}
use Rattle.row_eval.specs.Outcome.{truth_outcome}
use Rattle.query_meaning.specs.Filter.{faults, is_true, passes, passing, passes_each}
use Rattle.query_plan.specs.Plan.{NodeOf, filtering, leading, nodes_result}
use Rattle.query_plan.specs.Push.{conjuncts, split_nodes}
use Rattle.query_plan.proofs.MeaningLemmas.{under}

abbrev pub Row : Type 0
Row = List CellValue

-- ---- the steps after the filters that come first

abbrev pub behind : List NodeOf → List NodeOf
behind [] = []
behind (filtering e ∷ ns) = behind ns
behind (n ∷ ns) = n ∷ ns

abbrev pub filters : List TruthExprOf → List NodeOf
filters es = map filtering es

leading-filters : (es : List TruthExprOf) (ns : List NodeOf) → leading (filters es ++ ns) ≡ es ++ leading ns
leading-filters [] ns = refl
leading-filters (e ∷ es) ns = ap (λ (xs : List TruthExprOf). e ∷ xs) (leading-filters es ns)

behind-filters : (es : List TruthExprOf) (ns : List NodeOf) → behind (filters es ++ ns) ≡ behind ns
behind-filters [] ns = refl
behind-filters (e ∷ es) ns = behind-filters es ns

pub leading-split : (ns : List NodeOf) → leading (split_nodes ns) ≡ flat_map conjuncts (leading ns)
leading-split [] = refl
leading-split (filtering e ∷ ns) = leading-filters (conjuncts e) (split_nodes ns) ∙ ap (λ (xs : List TruthExprOf). conjuncts e ++ xs) (leading-split ns)
leading-split (n ∷ ns) = refl

pub behind-split : (ns : List NodeOf) → behind (split_nodes ns) ≡ behind ns
behind-split [] = refl
behind-split (filtering e ∷ ns) = behind-filters (conjuncts e) (split_nodes ns) ∙ behind-split ns
behind-split (n ∷ ns) = refl

-- ---- conjuncts

and_passes : (a : Option Truth) (b : Option Truth) → is_true (option_and_then (λ x. and_then x b) a) ≡ (is_true a && is_true b)
and_passes None b = refl
and_passes (Some False) b = refl
and_passes (Some Null) None = refl
and_passes (Some Null) (Some False) = refl
and_passes (Some Null) (Some Null) = refl
and_passes (Some Null) (Some True) = refl
and_passes (Some True) None = refl
and_passes (Some True) (Some False) = refl
and_passes (Some True) (Some Null) = refl
and_passes (Some True) (Some True) = refl

and_assoc : (a b c : Bool) → ((a && b) && c) ≡ (a && (b && c))
and_assoc true b c = refl
and_assoc false b c = refl

pub passes-append : (row : Row) (xs ys : List TruthExprOf) → passes_each (xs ++ ys) row ≡ (passes_each xs row && passes_each ys row)
passes-append row [] ys = refl
passes-append row (e ∷ xs) ys = ap (λ b. passes e row && b) (passes-append row xs ys) ∙ sym (and_assoc (passes e row) (passes_each xs row) (passes_each ys row))

pub passes-conjuncts : (row : Row) (e : TruthExprOf) → passes_each (conjuncts e) row ≡ passes e row
passes-conjuncts row (conjunction a b) =
    passes-append row (conjuncts a) (conjuncts b)
    ∙ ap (λ x. x && passes_each (conjuncts b) row) (passes-conjuncts row a)
    ∙ ap (λ x. passes a row && x) (passes-conjuncts row b)
    ∙ sym (and_passes (truth_outcome a row) (truth_outcome b row))
passes-conjuncts row e = and-true (passes e row)

pub passes-split : (row : Row) (es : List TruthExprOf) → passes_each (flat_map conjuncts es) row ≡ passes_each es row
passes-split row [] = refl
passes-split row (e ∷ es) =
    passes-append row (conjuncts e) (flat_map conjuncts es)
    ∙ ap (λ x. x && passes_each (flat_map conjuncts es) row) (passes-conjuncts row e)
    ∙ ap (λ x. passes e row && x) (passes-split row es)

pub faults-conjuncts : (e : TruthExprOf) → list_any truth_can_fault (conjuncts e) ≡ truth_can_fault e
faults-conjuncts (conjunction a b) =
    list_any-append truth_can_fault (conjuncts a) (conjuncts b)
    ∙ ap (λ x. x || list_any truth_can_fault (conjuncts b)) (faults-conjuncts a)
    ∙ ap (λ x. truth_can_fault a || x) (faults-conjuncts b)
faults-conjuncts e = or-false (truth_can_fault e)

pub faults-split : (es : List TruthExprOf) → list_any truth_can_fault (flat_map conjuncts es) ≡ list_any truth_can_fault es
faults-split [] = refl
faults-split (e ∷ es) =
    list_any-append truth_can_fault (conjuncts e) (flat_map conjuncts es)
    ∙ ap (λ x. x || list_any truth_can_fault (flat_map conjuncts es)) (faults-conjuncts e)
    ∙ ap (λ x. truth_can_fault e || x) (faults-split es)

-- ---- filters that cannot fault

some_is : (o : Option Truth) → IsSome o → is_none o ≡ false
some_is None h = absurd (false≢true h)
some_is (Some t) h = refl

no_fault_in : FaultsAreForeseen → (e : TruthExprOf) (rows : List Row) → truth_can_fault e ≡ false → list_any (faults e) rows ≡ false
no_fault_in laws e [] h = refl
no_fault_in laws e (row ∷ rows) h = rw (some_is (truth_outcome e row) (laws.conditions e row h)) (no_fault_in laws e rows h)

pub passing_all : FaultsAreForeseen → (e : TruthExprOf) (rows : List Row) → truth_can_fault e ≡ false → passing e rows ≡ Some (filter (passes e) rows)
passing_all laws e rows h = rw (no_fault_in laws e rows h) refl

pub filter_always : (rows : List Row) → rows ≡ filter (passes_each []) rows
filter_always [] = refl
filter_always (row ∷ rows) = ap (λ (xs : List Row). row ∷ xs) (filter_always rows)

twice : (q : Row → Bool) (row : Row) (b : Bool) (rows : List Row) → filter q (cond b (row ∷ rows) rows) ≡ cond (b && q row) (row ∷ filter q rows) (filter q rows)
twice q row true rows = refl
twice q row false rows = refl

pub filter_both : (p q : Row → Bool) (rows : List Row) → filter q (filter p rows) ≡ filter (λ row. p row && q row) rows
filter_both p q [] = refl
filter_both p q (row ∷ rows) =
    twice q row (p row) (filter p rows) ∙ ap (λ (xs : List Row). cond (p row && q row) (row ∷ xs) xs) (filter_both p q rows)

-- steps that begin with filters, on the rows that pass these
pub behind_filters : FaultsAreForeseen → (ns : List NodeOf) (names : List (List ℕ)) (count : Option ℕ) (rows : List Row) → list_any truth_can_fault (leading ns) ≡ false
    → nodes_result ns (under names count rows) ≡ nodes_result (behind ns) (under names count (filter (passes_each (leading ns)) rows))
behind_filters laws [] names count rows h = ap (λ (xs : List Row). nodes_result [] (under names count xs)) (filter_always rows)
behind_filters laws (filtering e ∷ ns) names count rows h =
    ap (λ (o : Option (List Row)). option_and_then (nodes_result ns) (option_map (under names count) o)) (passing_all laws e rows (or_parts (truth_can_fault e) (list_any truth_can_fault (leading ns)) h).0)
    ∙ behind_filters laws ns names count (filter (passes e) rows) (or_parts (truth_can_fault e) (list_any truth_can_fault (leading ns)) h).1
    ∙ ap (λ (xs : List Row). nodes_result (behind ns) (under names count xs)) (filter_both (passes e) (passes_each (leading ns)) rows)
behind_filters laws (n ∷ ns) names count rows h = ap (λ (xs : List Row). nodes_result (n ∷ ns) (under names count xs)) (filter_always rows)
