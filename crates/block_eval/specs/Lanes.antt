-- What an expression is on the rows of a block that are wanted: a lane for each row.
pub use Rattle.number_kernels.specs.Lanes.{comparison, number_lane, truth_in, truth_lane, AreAsked, AreComputed, AreLong, HasTruths, IsWanted}
use Rattle.std.specs.Prelude.{◌≡◌, ℕ, ℤ, Bool, Option, Some, List, length}
use Rattle.cell_types.specs.Value.{CellValue}
use Rattle.row_eval.specs.declared.truth.Truth.{Truth}
use Rattle.typed_trees.specs.TypedTree.{NumberExprOf, TruthExprOf}
use Rattle.row_eval.specs.Outcome.{number_outcome, truth_outcome}
use Rattle.block_eval.specs.declared.columns.BlockColumn.{BlockColumn}
use Rattle.block_eval.specs.declared.columns.WantedRows.{WantedRows}
use Rattle.number_kernels.specs.declared.numbers.Numbers.{Numbers}
use Rattle.block_eval.specs.Columns.{IsRowAt}
use Rattle.zone_maps.specs.Known.{IsRowWithin}
use Rattle.block_summary.specs.Ranges.{RangeOf}

-- ---- numbers

-- for each wanted row the lane is what f makes of its cells, which is no fault
pub record GivesNumbers (f : List CellValue → Option (Option ℤ)) (columns : List BlockColumn) (wanted : List Bool) (v : Numbers) : Type 0 where
  pub each : (row : ℕ) (cells : List CellValue) → IsWanted wanted row → IsRowAt columns row cells → f cells ≡ Some (number_lane v row)
  pub long : AreLong (length wanted) v

abbrev pub AreNumbers : NumberExprOf → List BlockColumn → List Bool → Numbers → Type 0
AreNumbers e columns wanted v = GivesNumbers (number_outcome e) columns wanted v

-- ---- truths

-- for each wanted row the lane is what f makes of its cells, which is no fault
pub record GivesTruths (f : List CellValue → Option Truth) (columns : List BlockColumn) (wanted : List Bool) (truths : List Truth) : Type 0 where
  pub each : (row : ℕ) (cells : List CellValue) → IsWanted wanted row → IsRowAt columns row cells → f cells ≡ Some (truth_lane truths row)
  pub long : length truths ≡ length wanted

-- for each wanted row the lane is the outcome of the condition, which is no fault
abbrev pub AreOutcomes : TruthExprOf → List BlockColumn → List Bool → List Truth → Type 0
AreOutcomes e columns wanted truths = GivesTruths (truth_outcome e) columns wanted truths

-- and so it is for rows that are handed with their columns
abbrev pub AreOutcomesOf : TruthExprOf → WantedRows → List Truth → Type 0
AreOutcomesOf e rows truths = AreOutcomes e rows.columns.now rows.wanted.now truths

-- for each wanted row the lane is what f makes of its cells, which is no fault, where the columns of the block have these ranges
pub record GivesTruthsWithin (f : List CellValue → Option Truth) (ranges : List RangeOf) (columns : List BlockColumn) (wanted : List Bool) (truths : List Truth) : Type 0 where
  pub each : (row : ℕ) (cells : List CellValue) → IsWanted wanted row → IsRowAt columns row cells → IsRowWithin ranges cells → f cells ≡ Some (truth_lane truths row)
  pub long : length truths ≡ length wanted

-- for each wanted row the lane is the outcome of the condition, which is no fault, where the columns of the block have these ranges
abbrev pub AreOutcomesWithin : TruthExprOf → List RangeOf → List BlockColumn → List Bool → List Truth → Type 0
AreOutcomesWithin e ranges columns wanted truths = GivesTruthsWithin (truth_outcome e) ranges columns wanted truths
