-- The best rows in the place of a whole sort.
use Rattle.std.proofs.Common.{◌≡◌, ℕ, zero, suc, ◌+◌, ◌^◌, Bool, true, false, cond, Option, Some, None, List, [], ◌∷◌, refl, sym, ap, ◌∙◌, arith}
use Rattle.std.specs.Prelude.{drop, nat_lt, option_and_then, option_map, take}
use Rattle.std.proofs.lemmas.List.{drop-take, take-take}
use Rattle.cell_types.specs.Value.{CellValue}
use Rattle.query_plan.specs.Fitting.{NodesFit}
use Rattle.query_meaning.specs.Meaning.{ResultOf}
use Rattle.query_meaning.specs.Order.{Item, ordered}
use Rattle.query_plan.specs.Plan.{NodeOf, SliceOf, node_result, nodes_result, slicing, sorting}
use Rattle.query_plan.specs.Rewrite.{best_nodes, chosen, room_of, rows_needed}
use Rattle.query_plan.proofs.MeaningLemmas.{under}

-- of the first `skip + top` rows a piece takes what it takes of all
few_first : (skip top : ℕ) (rows : List (List CellValue)) → take top (drop skip (take (skip + top) rows)) ≡ take top (drop skip rows)
few_first skip top rows = ap (take top) (drop-take skip top rows) ∙ take-take top top (drop skip rows) (omega arith)

pub when_some : (b : Bool) (n most : ℕ) → cond b (Some n) None ≡ Some most → n ≡ most
when_some true n most e = cc
when_some false n most e = absurd (cc)

piece_same : (skip : ℕ) (top : Option ℕ) (counts : Bool) (most : ℕ) (names : List (List ℕ)) (count : Option ℕ) (rows : List (List CellValue))
    → room_of skip top counts ≡ Some most
    → node_result (slicing (record { skip = skip; top = top; counts = counts })) (under names count (take most rows))
    ≡ node_result (slicing (record { skip = skip; top = top; counts = counts })) (under names count rows)
piece_same skip None counts most names count rows e = absurd (cc)
piece_same skip (Some zero) true most names count rows e = absurd (cc)
piece_same skip (Some (suc top)) true most names count rows e = absurd (cc)
piece_same skip (Some zero) false most names count rows e = refl
piece_same skip (Some (suc top)) false most names count rows e =
    let all : skip + suc top ≡ most = when_some (nat_lt (skip + suc top) (2 ^ 64)) (skip + suc top) most e in
    ap (λ (xs : List (List CellValue)). Some (under names count xs)) (ap (λ (n : ℕ). take (suc top) (drop skip (take n rows))) (sym all) ∙ few_first skip (suc top) rows)

module _ (items : List Item) (s : SliceOf) (ns : List NodeOf) where
  -- a piece of the best rows
  piece_of_best : (names : List (List ℕ)) (count : Option ℕ) (most : ℕ) (o : Option (List (List CellValue))) → room_of s.skip s.top s.counts ≡ Some most
      → option_and_then (nodes_result (slicing s ∷ ns)) (option_map (under names count) (option_map (take most) o))
      ≡ option_and_then (nodes_result (slicing s ∷ ns)) (option_map (under names count) o)
  piece_of_best names count most None e = refl
  piece_of_best names count most (Some rows) e = ap (option_and_then (nodes_result ns)) (piece_same s.skip s.top s.counts most names count rows e)

  piece_result : (o : Option ℕ) (r : ResultOf) → room_of s.skip s.top s.counts ≡ o
      → option_and_then (nodes_result (slicing s ∷ ns)) (node_result (chosen (sorting items) o) r) ≡ option_and_then (nodes_result (slicing s ∷ ns)) (node_result (sorting items) r)
  piece_result None r e = refl
  piece_result (Some most) r e = piece_of_best r.names r.count most (ordered items r.rows) e

  -- what the step after a piece of the best rows finds
  behind_best : (names : List (List ℕ)) (count : Option ℕ) (most : ℕ) (o : Option (List (List CellValue))) → room_of s.skip s.top s.counts ≡ Some most
      → ((made : ResultOf) → option_map (under names count) o ≡ Some made → NodesFit (slicing s ∷ ns) made)
      → (made : ResultOf) → option_map (under names count) (option_map (take most) o) ≡ Some made → NodesFit (slicing s ∷ ns) made
  behind_best names count most None e fit made is = absurd (cc)
  behind_best names count most (Some rows) e fit made is =
      let same : under names count (take most rows) ≡ made = cc in
      (tt, λ last k. (fit (under names count rows) refl).1 last (sym (piece_same s.skip s.top s.counts most names count rows e) ∙ ap (node_result (slicing s)) same ∙ k))

  piece_fit : (o : Option ℕ) (r : ResultOf) → room_of s.skip s.top s.counts ≡ o → NodesFit (sorting items ∷ slicing s ∷ ns) r
      → NodesFit (chosen (sorting items) o ∷ slicing s ∷ ns) r
  piece_fit None r e fit = fit
  piece_fit (Some most) r e fit = (fit.0, λ made is. behind_best r.names r.count most (ordered items r.rows) e fit.1 made is)

-- a step before another
chosen_result : (n m : NodeOf) (ns : List NodeOf) (r : ResultOf)
    → option_and_then (nodes_result (m ∷ ns)) (node_result (chosen n (rows_needed m)) r) ≡ option_and_then (nodes_result (m ∷ ns)) (node_result n r)
chosen_result (sorting items) (slicing s) ns r = piece_result items s ns (room_of s.skip s.top s.counts) r refl
chosen_result (sorting items) m ns r = refl
chosen_result n m ns r = refl

chosen_fit : (n m : NodeOf) (ns : List NodeOf) (r : ResultOf) → NodesFit (n ∷ m ∷ ns) r → NodesFit (chosen n (rows_needed m) ∷ m ∷ ns) r
chosen_fit (sorting items) (slicing s) ns r fit = piece_fit items s ns (room_of s.skip s.top s.counts) r refl fit
chosen_fit (sorting items) m ns r fit = fit
chosen_fit n m ns r fit = fit

-- ---- all steps

pub then_same : {X Y : Type 0} (f g : X → Option Y) (o : Option X) → ((x : X) → f x ≡ g x) → option_and_then f o ≡ option_and_then g o
then_same f g None each = refl
then_same f g (Some x) each = each x

pub best_result : (ns : List NodeOf) (r : ResultOf) → nodes_result (best_nodes ns) r ≡ nodes_result ns r
best_result [] r = refl
best_result (n ∷ []) r = refl
best_result (n ∷ m ∷ ns) r =
    then_same (nodes_result (best_nodes (m ∷ ns))) (nodes_result (m ∷ ns)) (node_result (chosen n (rows_needed m)) r) (best_result (m ∷ ns)) ∙ chosen_result n m ns r

pub best_fit : (ns : List NodeOf) (r : ResultOf) → NodesFit ns r → NodesFit (best_nodes ns) r
best_fit [] r fit = fit
best_fit (n ∷ []) r fit = fit
best_fit (n ∷ m ∷ ns) r fit =
    let before : NodesFit (chosen n (rows_needed m) ∷ m ∷ ns) r = chosen_fit n m ns r fit in
    (before.0, λ made is. best_fit (m ∷ ns) made (before.1 made is))
