-- Conditions that are taken in turn: of rows those go on that pass each of them.
use Rattle.std.specs.Prelude.{◌≡◌, List, [], ◌∷◌, ◌++◌, Option, Some, option_and_then}
use Rattle.cell_types.specs.Value.{CellValue}
use Rattle.typed_trees.specs.TypedTree.{TruthExprOf}
use Rattle.row_eval.specs.Bounds.{TruthFits}
use Rattle.row_eval.specs.Outcome.{both}
use Rattle.query_meaning.specs.Filter.{passing}

-- None is a division by zero
abbrev pub passing_all : List TruthExprOf → List (List CellValue) → Option (List (List CellValue))
passing_all [] rows = Some rows
passing_all (e ∷ es) rows = option_and_then (passing_all es) (passing e rows)

-- each number that a condition computes on the row fits, where the row passes those before it
abbrev pub ConditionsFit : List TruthExprOf → List CellValue → Type 0
ConditionsFit [] row = Unit {0}
ConditionsFit (e ∷ es) row = TruthFits e row × (passing e (row ∷ []) ≡ Some (row ∷ []) → ConditionsFit es row)

-- rows, and others after them; none where either is none
abbrev pub rows_joined : Option (List (List CellValue)) → Option (List (List CellValue)) → Option (List (List CellValue))
rows_joined front back = both (λ xs ys. xs ++ ys) front back

-- Of no rows none pass. What passes of rows and of rows after them is what passes of the first, and then what passes of the others; where a condition
-- divides by zero on either, there is none.
pub record ConditionsInTurn : Type 0 where
  pub none : (es : List TruthExprOf) → passing_all es [] ≡ Some []
  pub parts : (es : List TruthExprOf) (front back : List (List CellValue)) → passing_all es (front ++ back) ≡ rows_joined (passing_all es front) (passing_all es back)
