-- Conditions in turn before the steps of a plan.
use Rattle.std.proofs.Common.{◌≡◌, ℕ, Option, Some, None, List, [], ◌∷◌, ◌++◌, refl, ap, ◌∙◌, append_assoc, append-nil}
use Rattle.std.specs.Prelude.{option_and_then, option_map}
use Rattle.std.proofs.lemmas.List.{map-append}
use Rattle.cell_types.specs.Value.{CellValue}
use Rattle.typed_trees.specs.TypedTree.{TruthExprOf}
use Rattle.query_meaning.specs.Filter.{passing}
use Rattle.query_plan.specs.Fitting.{NodesFit}
use Rattle.query_plan.specs.Laws.{NodesInTurn}
use Rattle.query_meaning.specs.Meaning.{ResultOf, selected_names}
use Rattle.query_plan.specs.Plan.{NodeOf, nodes_result, select_nodes}
use Rattle.row_columns.specs.Picked.{values_at}
use Rattle.block_filter.specs.Conditions.{rows_joined, passing_all}
use Rattle.query_exec.specs.Conditions.{condition_nodes}
use Rattle.result_rows.specs.Selected.{selected_rows}

-- ---- options
pub some_of : {A : Type 0} (f : A → Option ResultOf) (o : Option A) (made : ResultOf) → option_and_then f o ≡ Some made → (x : A) × (o ≡ Some x) × (f x ≡ Some made)
some_of f (Some x) made is = (x, refl, is)
some_of f None made is = absurd (cc)

pub mapped_of : {B : Type 0} (f : List (List CellValue) → B) (o : Option (List (List CellValue))) (y : B) → option_map f o ≡ Some y
    → (rows : List (List CellValue)) × (o ≡ Some rows) × (f rows ≡ y)
mapped_of f (Some rows) y is = (rows, refl, cc)
mapped_of f None y is = absurd (cc)

pub none_mapped : {A B : Type 0} (f : A → B) (o : Option A) → option_map f o ≡ None → o ≡ None
none_mapped f None is = refl
none_mapped f (Some x) is = absurd (cc)

-- ---- conditions
above : (es : List TruthExprOf) (steps : List NodeOf) (r : ResultOf) (passed : Option (List (List CellValue)))
    → ((rows : List (List CellValue)) → nodes_result (condition_nodes es ++ steps) (record r { rows = rows })
    ≡ option_and_then (λ kept. nodes_result steps (record r { rows = kept })) (passing_all es rows))
    → option_and_then (nodes_result (condition_nodes es ++ steps)) (option_map (λ rows. record r { rows = rows }) passed)
    ≡ option_and_then (λ kept. nodes_result steps (record r { rows = kept })) (option_and_then (passing_all es) passed)
above es steps r None each = refl
above es steps r (Some rows) each = each rows

-- the steps after the conditions are given what passes these
pub steps_behind : (es : List TruthExprOf) (steps : List NodeOf) (r : ResultOf) (rows : List (List CellValue))
    → nodes_result (condition_nodes es ++ steps) (record r { rows = rows })
    ≡ option_and_then (λ kept. nodes_result steps (record r { rows = kept })) (passing_all es rows)
steps_behind [] steps r rows = refl
steps_behind (e ∷ es) steps r rows = above es steps r (passing e rows) (steps_behind es steps r)

-- and so they give these
pub conditions_give : (es : List TruthExprOf) (r : ResultOf) (rows kept : List (List CellValue)) → passing_all es rows ≡ Some kept
    → nodes_result (condition_nodes es) (record r { rows = rows }) ≡ Some (record r { rows = kept })
conditions_give es r rows kept is =
    rw (← (append-nil (condition_nodes es))) (steps_behind es [] r rows ∙ rw is refl)

-- ---- the columns that are picked after the conditions

pub selected_append : (picked : Option (List ℕ)) (xs ys : List (List CellValue)) → selected_rows picked (xs ++ ys) ≡ selected_rows picked xs ++ selected_rows picked ys
selected_append None xs ys = refl
selected_append (Some places) xs ys = map-append (values_at places) xs ys

pub selected_none : (picked : Option (List ℕ)) → selected_rows picked [] ≡ []
selected_none None = refl
selected_none (Some places) = refl

pub selected_joined : (picked : Option (List ℕ)) (front back : Option (List (List CellValue)))
    → option_map (selected_rows picked) (rows_joined front back) ≡ rows_joined (option_map (selected_rows picked) front) (option_map (selected_rows picked) back)
selected_joined picked None back = refl
selected_joined picked (Some xs) None = refl
selected_joined picked (Some xs) (Some ys) = ap (λ rows. Some rows) (selected_append picked xs ys)

-- a result in these columns
abbrev pub selected_result : Option (List ℕ) → ResultOf → ResultOf
selected_result picked r = record { names = selected_names picked r.names; rows = selected_rows picked r.rows; count = r.count }

-- is what the steps after are given
pub steps_selected : (picked : Option (List ℕ)) (steps : List NodeOf) (r : ResultOf) → nodes_result (select_nodes picked ++ steps) r ≡ nodes_result steps (selected_result picked r)
steps_selected None steps r = refl
steps_selected (Some places) steps r = refl

pub selected_fit : (picked : Option (List ℕ)) (steps : List NodeOf) (r : ResultOf) → NodesFit (select_nodes picked ++ steps) r → NodesFit steps (selected_result picked r)
selected_fit None steps r fit = fit
selected_fit (Some places) steps r fit = fit.1 (selected_result (Some places) r) refl

selected_of : (picked : Option (List ℕ)) (steps : List NodeOf) (r : ResultOf) (passed : Option (List (List CellValue)))
    → option_and_then (λ kept. nodes_result (select_nodes picked ++ steps) (record r { rows = kept })) passed
    ≡ option_and_then (λ kept. nodes_result steps (record (selected_result picked r) { rows = kept })) (option_map (selected_rows picked) passed)
selected_of picked steps r None = refl
selected_of picked steps r (Some kept) = steps_selected picked steps (record r { rows = kept })

-- the steps after the conditions and the columns that are picked are given what passes the former in the latter
pub parts_give : (es : List TruthExprOf) (picked : Option (List ℕ)) (steps : List NodeOf) (r : ResultOf) (rows : List (List CellValue))
    → nodes_result (condition_nodes es ++ select_nodes picked ++ steps) (record r { rows = rows })
    ≡ option_and_then (λ kept. nodes_result steps (record (selected_result picked r) { rows = kept })) (option_map (selected_rows picked) (passing_all es rows))
parts_give es picked steps r rows =
    rw (append_assoc (condition_nodes es) (select_nodes picked) steps) (steps_behind es (select_nodes picked ++ steps) r rows ∙ selected_of picked steps r (passing_all es rows))

-- and they fit these
pub parts_fit : NodesInTurn → (es : List TruthExprOf) (picked : Option (List ℕ)) (steps : List NodeOf) (r : ResultOf) (rows kept : List (List CellValue))
    → NodesFit (condition_nodes es ++ select_nodes picked ++ steps) (record r { rows = rows }) → option_map (selected_rows picked) (passing_all es rows) ≡ Some kept
    → NodesFit steps (record (selected_result picked r) { rows = kept })
parts_fit law es picked steps r rows kept fit is =
    let passed = mapped_of (selected_rows picked) (passing_all es rows) kept is in
    rw (← passed.2) (selected_fit picked steps (record r { rows = passed.0 }) (law.above_fit (condition_nodes es) (select_nodes picked ++ steps) (record r { rows = rows })
    (record r { rows = passed.0 }) (rw (append_assoc (condition_nodes es) (select_nodes picked) steps) at fit) (conditions_give es r rows passed.0 passed.1)))
