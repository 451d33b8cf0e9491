-- Conditions in turn, on rows and on rows after them.
use Rattle.std.proofs.Common.{◌≡◌, Option, Some, None, List, [], ◌∷◌, ◌++◌, refl, sym, ap, ◌∙◌}
use Rattle.std.specs.Prelude.{option_and_then}
use Rattle.cell_types.specs.Value.{CellValue}
use Rattle.typed_trees.specs.TypedTree.{TruthExprOf}
use Rattle.query_meaning.specs.Filter.{passing}
use Rattle.query_meaning.specs.Laws.{TrueRowsPass}
use Rattle.block_filter.specs.Conditions.{rows_joined, passing_all, ConditionsInTurn}

pub joined_none : (front : Option (List (List CellValue))) → rows_joined front None ≡ None
joined_none None = refl
joined_none (Some xs) = refl

pub none_pass : (es : List TruthExprOf) → passing_all es [] ≡ Some []
none_pass [] = refl
none_pass (e ∷ es) = none_pass es

step_in_parts : (es : List TruthExprOf) (front back : Option (List (List CellValue)))
    → ((xs ys : List (List CellValue)) → passing_all es (xs ++ ys) ≡ rows_joined (passing_all es xs) (passing_all es ys))
    → option_and_then (passing_all es) (rows_joined front back) ≡ rows_joined (option_and_then (passing_all es) front) (option_and_then (passing_all es) back)
step_in_parts es None back each = refl
step_in_parts es (Some xs) None each = sym (joined_none (passing_all es xs))
step_in_parts es (Some xs) (Some ys) each = each xs ys

-- what passes of rows is what passes of a first part, and of what is after it
pub pass_in_parts : TrueRowsPass → (es : List TruthExprOf) (front back : List (List CellValue))
    → passing_all es (front ++ back) ≡ rows_joined (passing_all es front) (passing_all es back)
pass_in_parts law [] front back = refl
pass_in_parts law (e ∷ es) front back =
    ap (option_and_then (passing_all es)) (law.parts e front back)
    ∙ step_in_parts es (passing e front) (passing e back) (pass_in_parts law es)

pub in_turn : TrueRowsPass → ConditionsInTurn
in_turn law = record { none = none_pass; parts = pass_in_parts law }
