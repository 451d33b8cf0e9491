-- The numbers of texts.
use Rattle.std.proofs.Common.{◌≡◌, ℕ, Bool, None, Option, Some, List, sym, ap, ◌∙◌}
use Rattle.std.specs.Prelude.{ℤ, option_map}
use Rattle.cell_types.specs.Value.{CellValue}
use Rattle.row_eval.specs.Outcome.{joined}
use Rattle.row_eval.specs.Text.{index_in, length_in}
use Rattle.text_kernels.specs.declared.measures.TextMeasure.{TextMeasure}
use Rattle.text_kernels.specs.declared.measures.TextMeasure.TheVariants.{IndexOf, Length}
use Rattle.text_kernels.specs.declared.texts.Texts.{Texts}
use Rattle.text_kernels.specs.Texts.{measured, text_lane, AreMeasured}
use Rattle.number_kernels.specs.declared.numbers.Numbers.{Numbers}
use Rattle.block_eval.specs.declared.columns.BlockColumn.{BlockColumn}
use Rattle.block_eval.specs.Bounded.{GivesBounded}
use Rattle.block_eval.specs.Columns.{IsRowAt}
use Rattle.block_eval.specs.Lanes.{IsWanted}
use Rattle.block_eval.specs.Texts.{GivesTexts}
use Rattle.block_eval.proofs.LogicLemmas.{wanted_within}

measured-gives : (m : TextMeasure) (g : List CellValue → Option ℤ) (cs : List BlockColumn) (wanted : List Bool) (texts : Texts) (numbers : Numbers)
    → ((row : ℕ) (cells : List CellValue) → IsWanted wanted row → IsRowAt cs row cells → g cells ≡ measured m (text_lane texts row) row) → AreMeasured m texts wanted numbers
    → GivesBounded (λ cells. Some (g cells)) cs wanted (record { numbers = numbers; bounds = None })
measured-gives m g cs wanted texts numbers each are = record {
  numbers = record {
    each = λ row cells h at. ap (λ n. Some n) (each row cells h at ∙ sym (are.each row (wanted_within wanted row h) h));
    long = are.long;
  };
  within = λ row cells h at. tt;
}

pub lengths-give : (f : List CellValue → Option (List ℕ)) (cs : List BlockColumn) (wanted : List Bool) (texts : Texts) (numbers : Numbers) → GivesTexts f cs wanted texts → AreMeasured Length texts wanted numbers
    → GivesBounded (λ cells. Some (option_map length_in (f cells))) cs wanted (record { numbers = numbers; bounds = None })
lengths-give f cs wanted texts numbers are measured =
    measured-gives Length (λ cells. option_map length_in (f cells)) cs wanted texts numbers (λ row cells h at. ap (option_map length_in) (are.each row cells h at)) measured

pub places-give : (f g : List CellValue → Option (List ℕ)) (cs : List BlockColumn) (wanted : List Bool) (texts parts : Texts) (numbers : Numbers) → GivesTexts f cs wanted texts → GivesTexts g cs wanted parts
    → AreMeasured (IndexOf parts) texts wanted numbers → GivesBounded (λ cells. Some (joined index_in (f cells) (g cells))) cs wanted (record { numbers = numbers; bounds = None })
places-give f g cs wanted texts parts numbers left right measured =
    measured-gives (IndexOf parts) (λ cells. joined index_in (f cells) (g cells)) cs wanted texts numbers
    (λ row cells h at. ap (λ x. joined index_in x (g cells)) (left.each row cells h at) ∙ ap (joined index_in (text_lane texts row)) (right.each row cells h at)) measured
