-- The parts of a plan, step by step.
use Rattle.std.proofs.Common.{◌≡◌, ℕ, true, false, Option, Some, None, List, [], ◌∷◌, ◌++◌, eqb, length, map, refl, ap, ◌∙◌, append_assoc, append-nil}
use Rattle.std.specs.Prelude.{◌==◌, Vec, is_none, is_some}
use Rattle.std.proofs.Math.Dec.{eqb-suc-zero}
use Rattle.std.proofs.lemmas.List.{map_push}
use Rattle.typed_trees.specs.TypedTree.{TruthExprOf}
use Rattle.odata_query.specs.Query.{optional_numbers}
use Rattle.query_plan.specs.declared.plan.Node.{Node}
use Rattle.query_plan.specs.Plan.{NodeOf, filtering, leading, node_view, select_nodes}
use Rattle.query_exec.specs.Conditions.{condition_nodes}

-- nodes are conditions, then what is picked, and then steps, of which the first is no condition
pub record ArePartsOf (nodes : List NodeOf) (es : List TruthExprOf) (picked : Option (List ℕ)) (steps : List NodeOf) : Type 0 where
  pub nodes_are : nodes ≡ condition_nodes es ++ select_nodes picked ++ steps
  pub no_more : leading (select_nodes picked ++ steps) ≡ []

leading_behind : (es : List TruthExprOf) (ns : List NodeOf) → leading (condition_nodes es ++ ns) ≡ es ++ leading ns
leading_behind [] ns = refl
leading_behind (e ∷ es) ns = ap (λ fs. e ∷ fs) (leading_behind es ns)

-- the conditions are those that the nodes begin with
pub leading_are : (nodes : List NodeOf) (es : List TruthExprOf) (picked : Option (List ℕ)) (steps : List NodeOf) → ArePartsOf nodes es picked steps → leading nodes ≡ es
leading_are nodes es picked steps parts =
    rw (parts.nodes_are, append_assoc (condition_nodes es) (select_nodes picked) steps, leading_behind es (select_nodes picked ++ steps), parts.no_more) (append-nil es)

-- a step that is no condition, or comes after others
pub data IsStep (picked : Option (List ℕ)) (steps : List NodeOf) (n : NodeOf) : Type 0 where
  no_condition : leading (n ∷ []) ≡ [] → IsStep picked steps n
  behind_pick : is_none picked ≡ false → IsStep picked steps n
  behind_step : eqb (length steps) 0 ≡ false → IsStep picked steps n

-- the first of the steps is no condition
still_none : (picked : Option (List ℕ)) (steps : List NodeOf) (n : NodeOf) → IsStep picked steps n → leading (select_nodes picked ++ steps) ≡ []
    → leading (select_nodes picked ++ (steps ++ n ∷ [])) ≡ []
still_none (Some places) steps n step none = refl
still_none None [] n (no_condition first) none = first
still_none None [] n (behind_pick some) none = absurd (cc)
still_none None [] n (behind_step some) none = absurd (cc)
still_none None (filtering e ∷ steps) n step none = absurd (cc)
still_none None (m ∷ steps) n step none = refl

pub next_step : (nodes : List NodeOf) (es : List TruthExprOf) (picked : Option (List ℕ)) (steps : List NodeOf) (n : NodeOf) → IsStep picked steps n
    → ArePartsOf nodes es picked steps → ArePartsOf (nodes ++ n ∷ []) es picked (steps ++ n ∷ [])
next_step nodes es picked steps n step parts = record {
  nodes_are = ap (λ ns. ns ++ n ∷ []) parts.nodes_are ∙ append_assoc (condition_nodes es ++ select_nodes picked) steps (n ∷ []);
  no_more = still_none picked steps n step parts.no_more;
}

-- ---- steps that are pushed

pub behind_places : {A : Type 0} (places : Option (Vec ℕ A)) (steps : List NodeOf) (n : NodeOf) → is_some places ≡ true → IsStep (optional_numbers places) steps n
behind_places None steps n some = absurd (cc)
behind_places (Some places) steps n some = behind_pick refl

pub behind_steps : (picked : Option (List ℕ)) (steps : List Node) (n : NodeOf) → (length steps == 0) ≡ false → IsStep picked (map node_view steps) n
behind_steps picked [] n some = absurd (cc)
behind_steps picked (m ∷ steps) n some = behind_step (eqb-suc-zero (length (map node_view steps)))

pub pushed_behind : (yielded steps new : List Node) (es : List TruthExprOf) (picked : Option (List ℕ)) (n : Node) → new ≡ steps ++ n ∷ [] → IsStep picked (map node_view steps) (node_view n)
    → ArePartsOf (map node_view yielded) es picked (map node_view steps) → ArePartsOf (map node_view (yielded ++ n ∷ [])) es picked (map node_view new)
pushed_behind yielded steps new es picked n is step parts =
    rw (is, map_push node_view yielded n, map_push node_view steps n) (next_step (map node_view yielded) es picked (map node_view steps) (node_view n) step parts)
