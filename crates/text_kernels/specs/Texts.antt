-- Texts on the rows of a block that are wanted.
use Rattle.std.specs.Prelude.{◌≡◌, ◌<◌, ℕ, ℤ, Bool, Option, None, Some, List, length, map, option_map, slice_index_or}
use Rattle.std.specs.Cmp.Lexicographic.{slice_cmp}
use Rattle.std.specs.Ordering.{nat_cmp}
use Rattle.cell_types.specs.Value.{CellValue, null}
use Rattle.typed_trees.specs.TypedTree.{optional_text}
use Rattle.row_eval.specs.declared.truth.Truth.{Truth}
use Rattle.row_eval.specs.Comparison.{compared, holds, is_among}
use Rattle.row_eval.specs.Logic.{truth_of, truth_of_option}
use Rattle.row_eval.specs.Outcome.{joined}
use Rattle.row_eval.specs.Row.{text_in}
use Rattle.row_eval.specs.Text.{index_in, length_in, text_passes}
use Rattle.number_kernels.specs.declared.numbers.Numbers.{Numbers}
use Rattle.number_kernels.specs.Lanes.{number_lane, truth_lane, AreLong, IsWanted}
use Rattle.text_kernels.specs.declared.measures.TextMeasure.{TextMeasure}
use Rattle.text_kernels.specs.declared.measures.TextMeasure.TheVariants.{IndexOf, Length}
use Rattle.text_kernels.specs.declared.question.TextQuestion.{TextQuestion}
use Rattle.text_kernels.specs.declared.question.TextQuestion.TheVariants.{Among, Related}
use Rattle.text_kernels.specs.declared.relation.TextRelation.{TextRelation}
use Rattle.text_kernels.specs.declared.relation.TextRelation.TheVariants.{Comparison, Test}
use Rattle.text_kernels.specs.declared.texts.Texts.{Texts}
use Rattle.text_kernels.specs.declared.texts.Texts.TheVariants.{Cells, Null, Rows, Same}

-- the text of a row of a column
abbrev pub text_at : List CellValue → ℕ → Option (List ℕ)
text_at cells row = text_in (slice_index_or cells row null)

abbrev pub text_lane : Texts → ℕ → Option (List ℕ)
text_lane Null row = None
text_lane (Same t) row = Some t.now
text_lane (Cells texts) row = text_at texts.now row
text_lane (Rows texts rows) row = text_at texts.now (slice_index_or rows.now row 0)

abbrev pub AreTextsLong : ℕ → Texts → Type 0
AreTextsLong rows Null = Unit {0}
AreTextsLong rows (Same t) = Unit {0}
AreTextsLong rows (Cells texts) = length texts.now ≡ rows
AreTextsLong rows (Rows texts those) = (length those.now ≡ rows) × ((i : ℕ) → i < rows → slice_index_or those.now i 0 < length texts.now)

-- what a comparison, or `contains`, `startswith` or `endswith`, says of two texts
abbrev pub related : TextRelation → Option (List ℕ) → Option (List ℕ) → Truth
related (Comparison o) x y = truth_of (holds o (compared (slice_cmp nat_cmp) x y))
related (Test test) x y = truth_of_option (joined (text_passes test) x y)

-- whether a text is one of a list
abbrev pub found_among : List (Option (List ℕ)) → Option (List ℕ) → Truth
found_among items text = truth_of (is_among (slice_cmp nat_cmp) text items)

-- what is said of a text
abbrev pub answered : TextQuestion → Option (List ℕ) → Truth
answered (Related r part) text = related r text (Some part.now)
answered (Among items) text = found_among (map optional_text items.now) text

-- what a mark says of a text; null of null
abbrev pub marked_truth : Bool → Option (List ℕ) → Truth
marked_truth mark text = truth_of_option (option_map (λ t. mark) text)

-- on each wanted row, what a relation says of the texts of two vectors
pub record AreRelated (r : TextRelation) (left right : Texts) (wanted : List Bool) (truths : List Truth) : Type 0 where
  pub each : (row : ℕ) → row < length wanted → IsWanted wanted row → truth_lane truths row ≡ related r (text_lane left row) (text_lane right row)
  pub long : length truths ≡ length wanted

-- on each wanted row, what f says of the text of a vector
pub record HasAnswers (f : Option (List ℕ) → Truth) (v : Texts) (wanted : List Bool) (truths : List Truth) : Type 0 where
  pub each : (row : ℕ) → row < length wanted → IsWanted wanted row → truth_lane truths row ≡ f (text_lane v row)
  pub long : length truths ≡ length wanted

-- on each wanted row, whether the text of a vector is one of a list
abbrev pub AreAmong : Texts → List (Option (List ℕ)) → List Bool → List Truth → Type 0
AreAmong v items wanted truths = HasAnswers (found_among items) v wanted truths

-- ---- numbers of texts

-- what parts there are, are there for all rows
abbrev pub AreMeasuresLong : ℕ → TextMeasure → Type 0
AreMeasuresLong rows Length = Unit {0}
AreMeasuresLong rows (IndexOf parts) = AreTextsLong rows parts

-- the number of a text, beside the part of a row; null beside a null
abbrev pub measured : TextMeasure → Option (List ℕ) → ℕ → Option ℤ
measured Length text row = option_map length_in text
measured (IndexOf parts) text row = joined index_in text (text_lane parts row)

-- on each wanted row, the number of the text of a vector
pub record AreMeasured (m : TextMeasure) (texts : Texts) (wanted : List Bool) (v : Numbers) : Type 0 where
  pub each : (row : ℕ) → row < length wanted → IsWanted wanted row → number_lane v row ≡ measured m (text_lane texts row) row
  pub long : AreLong (length wanted) v
