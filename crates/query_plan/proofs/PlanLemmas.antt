-- Steps in turn.
use Rattle.std.proofs.Common.{◌≡◌, Option, Some, None, List, [], ◌∷◌, ◌++◌, refl, ap, ◌∙◌, subst}
use Rattle.std.specs.Prelude.{option_and_then}
use Rattle.query_plan.specs.Fitting.{NodesFit}
use Rattle.query_meaning.specs.Meaning.{ResultOf}
use Rattle.query_plan.specs.Plan.{node_result, nodes_result, NodeOf}

inside : (below above : List NodeOf) (o : Option ResultOf) → ((r : ResultOf) → nodes_result (below ++ above) r ≡ option_and_then (nodes_result above) (nodes_result below r))
    → option_and_then (nodes_result (below ++ above)) o ≡ option_and_then (nodes_result above) (option_and_then (nodes_result below) o)
inside below above None each = refl
inside below above (Some r) each = each r

pub turn : (below above : List NodeOf) (r : ResultOf) → nodes_result (below ++ above) r ≡ option_and_then (nodes_result above) (nodes_result below r)
turn [] above r = refl
turn (n ∷ below) above r = inside below above (node_result n r) (turn below above)

-- ---- steps that fit

pub below_fit : (below above : List NodeOf) (r : ResultOf) → NodesFit (below ++ above) r → NodesFit below r
below_fit [] above r h = tt
below_fit (n ∷ below) above r h = (h.0, λ made e. below_fit below above made (h.1 made e))

behind : (below above : List NodeOf) (o : Option ResultOf) (made : ResultOf) → ((mid : ResultOf) → o ≡ Some mid → NodesFit (below ++ above) mid)
    → ((mid : ResultOf) → NodesFit (below ++ above) mid → nodes_result below mid ≡ Some made → NodesFit above made)
    → option_and_then (nodes_result below) o ≡ Some made → NodesFit above made
behind below above None made fit each e = absurd (cc)
behind below above (Some mid) made fit each e = each mid (fit mid refl) e

pub above_fit : (below above : List NodeOf) (r made : ResultOf) → NodesFit (below ++ above) r → nodes_result below r ≡ Some made → NodesFit above made
above_fit [] above r made h e = let same : r ≡ made = cc in subst (NodesFit above) same h
above_fit (n ∷ below) above r made h e = behind below above (node_result n r) made h.1 (λ mid fit k. above_fit below above mid made fit k) e

pub both_fit : (below above : List NodeOf) (r : ResultOf) → NodesFit below r → ((made : ResultOf) → nodes_result below r ≡ Some made → NodesFit above made) → NodesFit (below ++ above) r
both_fit [] above r h f = f r refl
both_fit (n ∷ below) above r h f = (h.0, λ made e. both_fit below above made (h.1 made e) (λ last k. f last (ap (option_and_then (nodes_result below)) e ∙ k)))
