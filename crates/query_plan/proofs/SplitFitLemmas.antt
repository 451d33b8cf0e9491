-- Split filters fit where the whole ones do.
use Rattle.std.proofs.Common.{◌≡◌, ℕ, Bool, true, false, cond, Option, Some, None, List, [], ◌∷◌, refl, sym, ap, ◌∙◌, subst}
use Rattle.std.specs.Prelude.{filter, option_and_then, option_map}
use Rattle.std.specs.List.{All, list_any}
use Rattle.std.proofs.lemmas.Bool.{or_parts}
use Rattle.std.proofs.lemmas.List.{map-append}
use Rattle.std.proofs.lemmas.List.Elements.{All-filter, All-weaker, filter_agree}
use Rattle.typed_trees.specs.CanFault.{truth_can_fault}
use Rattle.typed_trees.specs.TypedTree.{TruthExprOf, conjunction}
use Rattle.row_eval.specs.Bounds.{TruthFits}
use Rattle.row_eval.specs.Laws.{FaultsAreForeseen}
use Rattle.query_meaning.specs.Filter.{faults, passes, passes_each}
use Rattle.query_plan.specs.Fitting.{NodesFit}
use Rattle.query_meaning.specs.Meaning.{ResultOf}
use Rattle.query_plan.specs.Plan.{NodeOf, filtering, leading, node_result, nodes_result}
use Rattle.query_plan.specs.Push.{conjuncts, split_nodes}
use Rattle.query_plan.proofs.MeaningLemmas.{under}
use Rattle.query_plan.proofs.PlanLemmas.{both_fit}
use Rattle.query_plan.proofs.PushLemmas.{Row, faults-conjuncts, filter_always, filter_both, filters, passes-conjuncts, passing_all}

-- the rows that pass are among those that come
kept_all : (P : Row → Type 0) (names : List (List ℕ)) (count : Option ℕ) (b : Bool) (xs ys : List Row) (made : ResultOf) → option_map (under names count) (cond b None (Some xs)) ≡ Some made
    → (All P ys → All P xs) → All P ys → All P made.rows
kept_all P names count true xs ys made e f all = absurd (cc)
kept_all P names count false xs ys made e f all = let same : under names count xs ≡ made = cc in subst (λ (r : ResultOf). All P r.rows) same (f all)

filter_all : (P : Row → Type 0) (e : TruthExprOf) (r made : ResultOf) → node_result (filtering e) r ≡ Some made → All P r.rows → All P made.rows
filter_all P e r made is all =
    kept_all P r.names r.count (list_any (faults e) r.rows) (filter (passes e) r.rows) r.rows made is (All-filter (passes e) P r.rows) all

filters_all_from : (P : Row → Type 0) (f : ResultOf → Option ResultOf) (o : Option ResultOf) (made : ResultOf) → option_and_then f o ≡ Some made
    → ((mid : ResultOf) → o ≡ Some mid → f mid ≡ Some made → All P made.rows) → All P made.rows
filters_all_from P f None made is each = absurd (cc)
filters_all_from P f (Some mid) made is each = each mid refl is

filters_all : (P : Row → Type 0) (es : List TruthExprOf) (r made : ResultOf) → nodes_result (filters es) r ≡ Some made → All P r.rows → All P made.rows
filters_all P [] r made is all = let same : r ≡ made = cc in subst (λ (x : ResultOf). All P x.rows) same all
filters_all P (e ∷ es) r made is all =
    filters_all_from P (nodes_result (filters es)) (node_result (filtering e) r) made is (λ mid k l. filters_all P es mid made l (filter_all P e r mid k all))

fits_conjuncts : (e : TruthExprOf) (r : ResultOf) → All (TruthFits e) r.rows → NodesFit (filters (conjuncts e)) r
fits_conjuncts (conjunction a b) r all =
    subst (λ (ns : List NodeOf). NodesFit ns r) (sym (map-append filtering (conjuncts a) (conjuncts b)))
    (both_fit (filters (conjuncts a)) (filters (conjuncts b)) r (fits_conjuncts a r (All-weaker (TruthFits (conjunction a b)) (TruthFits a) (λ row h. h.0) r.rows all))
    (λ made is. fits_conjuncts b made (filters_all (TruthFits b) (conjuncts a) r made is (All-weaker (TruthFits (conjunction a b)) (TruthFits b) (λ row h. h.1) r.rows all))))
fits_conjuncts e r all = (all, λ made is. tt)

filters_result : FaultsAreForeseen → (es : List TruthExprOf) (names : List (List ℕ)) (count : Option ℕ) (rows : List Row) → list_any truth_can_fault es ≡ false
    → nodes_result (filters es) (under names count rows) ≡ Some (under names count (filter (passes_each es) rows))
filters_result laws [] names count rows h = ap (λ (xs : List Row). Some (under names count xs)) (filter_always rows)
filters_result laws (e ∷ es) names count rows h =
    ap (λ (o : Option (List Row)). option_and_then (nodes_result (filters es)) (option_map (under names count) o)) (passing_all laws e rows (or_parts (truth_can_fault e) (list_any truth_can_fault es) h).0)
    ∙ filters_result laws es names count (filter (passes e) rows) (or_parts (truth_can_fault e) (list_any truth_can_fault es) h).1
    ∙ ap (λ (xs : List Row). Some (under names count xs)) (filter_both (passes e) (passes_each es) rows)

some_is_same : (a b : ResultOf) → Some a ≡ Some b → a ≡ b
some_is_same a b e = cc

pub split_fit : FaultsAreForeseen → (ns : List NodeOf) (names : List (List ℕ)) (count : Option ℕ) (rows : List Row) → list_any truth_can_fault (leading ns) ≡ false
    → NodesFit ns (under names count rows) → NodesFit (split_nodes ns) (under names count rows)
split_fit laws [] names count rows h fit = fit
split_fit laws (filtering e ∷ ns) names count rows h fit =
    let safe = (or_parts (truth_can_fault e) (list_any truth_can_fault (leading ns)) h).0 in
    let few = filter (passes e) rows in
    let first : node_result (filtering e) (under names count rows) ≡ Some (under names count few) = ap (option_map (under names count)) (passing_all laws e rows safe) in
    let all : nodes_result (filters (conjuncts e)) (under names count rows) ≡ Some (under names count few) =
    filters_result laws (conjuncts e) names count rows (faults-conjuncts e ∙ safe)
    ∙ ap (λ (xs : List Row). Some (under names count xs)) (filter_agree (passes_each (conjuncts e)) (passes e) (λ row. passes-conjuncts row e) rows) in
    let rest : NodesFit (split_nodes ns) (under names count few) =
    split_fit laws ns names count few (or_parts (truth_can_fault e) (list_any truth_can_fault (leading ns)) h).1 (fit.1 (under names count few) first) in
    both_fit (filters (conjuncts e)) (split_nodes ns) (under names count rows) (fits_conjuncts e (under names count rows) fit.0)
    (λ made is. let same : under names count few ≡ made = some_is_same (under names count few) made (sym all ∙ is) in subst (NodesFit (split_nodes ns)) same rest)
split_fit laws (n ∷ ns) names count rows h fit = fit
