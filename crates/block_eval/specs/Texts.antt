-- Texts on the rows of a block that are wanted.
pub use Rattle.text_kernels.specs.Texts.{text_lane, AreTextsLong}
use Rattle.std.specs.Prelude.{◌≡◌, ℕ, Bool, Option, List, length}
use Rattle.cell_types.specs.Value.{CellValue}
use Rattle.typed_trees.specs.TypedTree.{TextExprOf}
use Rattle.row_eval.specs.Outcome.{text_outcome}
use Rattle.text_kernels.specs.declared.texts.Texts.{Texts}
use Rattle.block_eval.specs.declared.columns.BlockColumn.{BlockColumn}
use Rattle.block_eval.specs.Columns.{IsRowAt}
use Rattle.block_eval.specs.Lanes.{IsWanted}

-- for each wanted row the lane is what f makes of its cells
pub record GivesTexts (f : List CellValue → Option (List ℕ)) (columns : List BlockColumn) (wanted : List Bool) (v : Texts) : Type 0 where
  pub each : (row : ℕ) (cells : List CellValue) → IsWanted wanted row → IsRowAt columns row cells → f cells ≡ text_lane v row
  pub long : AreTextsLong (length wanted) v

abbrev pub AreTexts : TextExprOf → List BlockColumn → List Bool → Texts → Type 0
AreTexts e columns wanted v = GivesTexts (text_outcome e) columns wanted v
