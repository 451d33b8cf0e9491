-- What is asked once for each code of a block.
use Rattle.std.proofs.Common.{◌≡◌, ◌<◌, ℕ, Bool, false, true, Option, List, length, get_or, replicate, ap, ◌∙◌, arith}
use Rattle.std.proofs.lemmas.Simd.{get_or-replicate}
use denote.Ref.{Bor}
use Rattle.cell_types.specs.Value.{CellValue, null}
use Rattle.text_columns.specs.Codes.{AreCodes}
use Rattle.text_columns.specs.declared.codes.TextCodes.{TextCodes}
use Rattle.row_eval.specs.declared.truth.Truth.{Truth}
use Rattle.row_eval.specs.Row.{text_in}
use Rattle.number_kernels.specs.Lanes.{truth_lane, HasTruths}
use Rattle.text_kernels.specs.declared.texts.Texts.TheVariants.{Rows}
use Rattle.text_kernels.specs.Texts.{HasAnswers}

-- what holds of the text of each code holds of each row
pub spread-gives : (f : CellValue → Truth) (cells : List CellValue) (codes : TextCodes) (answers ts : List Truth) → AreCodes codes cells
    → ((code : ℕ) → code < length codes.rows.items → truth_lane answers code ≡ f (get_or cells (get_or codes.rows.items code 0) null))
    → HasTruths (length codes.codes.items) (λ row. truth_lane answers (get_or codes.codes.items row 0)) ts → HasTruths (length cells) (λ row. f (get_or cells row null)) ts
spread-gives f cells codes answers ts are asked has = record {
  each = λ row h.
      let code = are.each row h in
      has.each row (omega (arith, h, are.long)) ∙ asked (get_or codes.codes.items row 0) code.0 ∙ ap f code.1;
  long = has.long ∙ are.long;
}

-- the codes of rows are codes
pub codes-within : (cells : List CellValue) (codes : TextCodes) (answers : List Truth) → AreCodes codes cells → length answers ≡ length codes.rows.items
    → (row : ℕ) → row < length codes.codes.items → get_or codes.codes.items row 0 < length answers
codes-within cells codes answers are long row h = omega (arith, (are.each row (omega (arith, h, are.long))).0, long)

-- each code is wanted
wanted-all : (wanted : List Bool) (n code : ℕ) → wanted ≡ replicate n true → code < n → get_or wanted code false ≡ true
wanted-all wanted n code is h = ap (λ w. get_or w code false) is ∙ get_or-replicate n code true false h

pub codes-answered : (f : Option (List ℕ) → Truth) (texts : Bor (List CellValue)) (rows : Bor (List ℕ)) (codes : TextCodes) (wanted : List Bool) (answers : List Truth)
    → rows.now ≡ codes.rows.items → wanted ≡ replicate (length codes.rows.items) true → length wanted ≡ length codes.rows.items → HasAnswers f (Rows texts rows) wanted answers
    → (code : ℕ) → code < length codes.rows.items → truth_lane answers code ≡ f (text_in (get_or texts.now (get_or codes.rows.items code 0) null))
codes-answered f texts rows codes wanted answers seen all long are code h =
    are.each code (omega (arith, h, long)) (wanted-all wanted (length codes.rows.items) code all h)
    ∙ ap (λ rs. f (text_in (get_or texts.now (get_or rs code 0) null))) seen
