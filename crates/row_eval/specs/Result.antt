-- What an evaluation gives of an outcome.
use Rattle.std.specs.Prelude.{◌≡◌, Bool, true, List, Option, Some, None, Result, Ok, Err}
use Rattle.cell_types.specs.Value.{CellValue}
use Rattle.typed_trees.specs.TypedTree.{TruthExprOf}
use Rattle.row_eval.specs.declared.fault.EvalFault.{EvalFault}
use Rattle.row_eval.specs.declared.fault.EvalFault.TheVariants.{DivisionByZero, NoMemory}
use Rattle.row_eval.specs.declared.truth.Truth.{Truth}
use Rattle.row_eval.specs.Memory.{truth_concatenates}
use Rattle.row_eval.specs.Outcome.{truth_outcome}

-- the outcome, seen by a view; a division by zero just where it is one; out of memory only if texts are joined
abbrev pub Evaluates : {T X : Type 0} → (T → X) → Option X → Bool → Result T EvalFault → Type 0
Evaluates view outcome concatenates (Ok x) = outcome ≡ Some (view x)
Evaluates view outcome concatenates (Err DivisionByZero) = outcome ≡ None
Evaluates view outcome concatenates (Err NoMemory) = concatenates ≡ true

-- the outcome of a condition on a row
abbrev pub Decides : TruthExprOf → List CellValue → Result Truth EvalFault → Type 0
Decides condition row = Evaluates (λ t. t) (truth_outcome condition row) (truth_concatenates condition)
