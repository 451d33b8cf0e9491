-- What a filter keeps of rows (OData 4.01 URL Conventions, section 5.1.2): those on which it is true, in their order.
use Rattle.std.specs.Prelude.{Bool, true, false, List, Option, Some, None, if◌then◌else◌, filter, is_none}
use Rattle.std.specs.List.{list_all, list_any}
use Rattle.cell_types.specs.Value.{CellValue}
use Rattle.typed_trees.specs.TypedTree.{TruthExprOf}
use Rattle.row_eval.specs.declared.truth.Truth.{Truth}
use Rattle.row_eval.specs.declared.truth.Truth.TheVariants.{True}
use Rattle.row_eval.specs.Outcome.{truth_outcome}

-- an outcome that is true: null is not, and a division by zero is not
abbrev pub is_true : Option Truth → Bool
is_true (Some True) = true
is_true _ = false

abbrev pub passes : TruthExprOf → List CellValue → Bool
passes e row = is_true (truth_outcome e row)

-- all conditions are true on the row
abbrev pub passes_each : List TruthExprOf → List CellValue → Bool
passes_each conditions row = list_all (λ e. passes e row) conditions

-- the condition divides by zero on the row
abbrev pub faults : TruthExprOf → List CellValue → Bool
faults e row = is_none (truth_outcome e row)

-- the rows on which a condition is true; None, where it divides by zero on some row, whatever rows are before that
abbrev pub passing : TruthExprOf → List (List CellValue) → Option (List (List CellValue))
passing e rows = if list_any (faults e) rows then None else Some (filter (passes e) rows)
