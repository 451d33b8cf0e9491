-- Numbers that fit 128 bits.
use Rattle.std.specs.Prelude.{ℕ, ℤ, ◌≤◌, List, Option, IfSome, FitsSigned, unsigned_abs}
use Rattle.std.specs.Int.{w128}
use Rattle.cell_types.specs.Value.{CellValue}
use Rattle.typed_trees.specs.TypedTree as typed
use Rattle.typed_trees.specs.TypedTree.{NumberExprOf, TruthExprOf, TypedExprOf}
use Rattle.row_eval.specs.Outcome.{number_outcome}

-- the number, if there is one, fits 128 bits
abbrev pub Fits : Option (Option ℤ) → Type 0
Fits outcome = IfSome outcome (λ n. IfSome n (FitsSigned w128))

-- the number, if there is one, is not greater in size than the bound
abbrev pub IsWithin : ℕ → Option (Option ℤ) → Type 0
IsWithin bound outcome = IfSome outcome (λ n. IfSome n (λ z. unsigned_abs z ≤ bound))

-- each number that is computed on the way fits 128 bits
abbrev pub NumberFits : NumberExprOf → List CellValue → Type 0
NumberFits (typed.negated a) row = NumberFits a row × Fits (number_outcome (typed.negated a) row)
NumberFits (typed.arithmetic o a b) row = NumberFits a row × NumberFits b row × Fits (number_outcome (typed.arithmetic o a b) row)
NumberFits (typed.scaled a) row = NumberFits a row × Fits (number_outcome (typed.scaled a) row)
NumberFits _ row = Unit {0}

abbrev pub TruthFits : TruthExprOf → List CellValue → Type 0
TruthFits (typed.negation a) row = TruthFits a row
TruthFits (typed.conjunction a b) row = TruthFits a row × TruthFits b row
TruthFits (typed.disjunction a b) row = TruthFits a row × TruthFits b row
TruthFits (typed.compare_numbers o a b) row = NumberFits a row × NumberFits b row
TruthFits (typed.compare_truths o a b) row = TruthFits a row × TruthFits b row
TruthFits (typed.number_in a items) row = NumberFits a row
TruthFits (typed.truth_in a items) row = TruthFits a row
TruthFits _ row = Unit {0}

abbrev pub NumbersFit : TypedExprOf → List CellValue → Type 0
NumbersFit (typed.integer e bound) row = NumberFits e row
NumbersFit (typed.truth e) row = TruthFits e row
NumbersFit (typed.decimal e bound) row = NumberFits e row
NumbersFit _ row = Unit {0}
