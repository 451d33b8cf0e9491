-- What the columns of a table write for the cells of its records.
use Rattle.std.specs.Prelude.{◌≡◌, ℕ, suc, Bool, true, false, List, [], ◌∷◌, ◌++◌, codes, if◌then◌else◌, slice_get, slice_index_or, Option, Some, None, unwrap_or}
use Rattle.value_forms.specs.declared.form.Form.{Form}
use Rattle.value_forms.specs.declared.form.Form.TheVariants.{Number, Round, DayAndTime}
use Rattle.value_forms.specs.Forms.{CellMade, IsMadeBy}
use Rattle.column_forms.specs.Choice.{is_plain_form}
use Rattle.column_forms.specs.CellsSeen.{IsSeen, is_null_word}
use Rattle.file_convert.specs.declared.report.ColumnReport.{ColumnReport}
use Rattle.file_convert.specs.declared.report.ReportKind.{ReportKind}
use Rattle.file_convert.specs.declared.report.ReportKind.TheVariants.{Form as OfForm, Empty}

-- what is found in a column, and whether its numbers are rounded
pub record Plan : Type 0 where
  pub kind : ReportKind
  pub rounds : Bool

abbrev pub plan_of : ColumnReport → Plan
plan_of report = record { kind = report.kind; rounds = report.rounds }

-- a cell by its number; an empty one after the last
abbrev pub nth_cell : List (List ℕ) → ℕ → List ℕ
nth_cell cells place = slice_index_or cells place []

-- an empty line has one cell, which is empty
abbrev pub is_empty_line : List (List ℕ) → Bool
is_empty_line ([] ∷ []) = true
is_empty_line _ = false

abbrev pub is_dropped : ReportKind → Bool
is_dropped Empty = true
is_dropped _ = false

-- the times of day get a column of their own
abbrev pub has_time : ReportKind → Bool
has_time (OfForm (DayAndTime form)) = true
has_time _ = false

-- numbers are rounded, if this is asked
abbrev pub rounding : Bool → Form → Form
rounding rounds (Number form) = Number (record form { rounds = rounds })
rounding rounds form = form

-- the value of a cell that is no null, without spaces at its ends and with plain spaces, in the form of the column; or the cell in six decimal places, if its numbers are
-- read as they are and this is asked
abbrev pub IsMadeOf : Bool → Bool → Form → List ℕ → Option CellMade → Type 0
IsMadeOf true true form cell made = IsMadeBy Round cell made
IsMadeOf true false form cell made = made ≡ None
IsMadeOf false rounds form cell made = (text : List ℕ) × IsSeen cell text × IsMadeBy (rounding rounds form) text made

-- what is made of a cell: nothing of one that stands for null, or is not of the form
abbrev pub IsMadeUnlessNull : Bool → Bool → Form → List ℕ → Option CellMade → Type 0
IsMadeUnlessNull true rounds form cell made = made ≡ None
IsMadeUnlessNull false rounds form cell made = IsMadeOf (is_plain_form form) rounds form cell made

abbrev pub IsMadeIn : ReportKind → Bool → List ℕ → Option CellMade → Type 0
IsMadeIn (OfForm form) rounds cell made = IsMadeUnlessNull (is_null_word cell) rounds form cell made
IsMadeIn _ rounds cell made = made ≡ None

abbrev pub cell_text : List ℕ → Option CellMade → List ℕ
cell_text cell None = cell
cell_text cell (Some made) = made.text

abbrev pub time_text : Option CellMade → List ℕ
time_text None = []
time_text (Some made) = unwrap_or made.time []

-- what is written for a cell with a value, or for one that is left as it is
abbrev pub out_cells : ReportKind → List ℕ → Option CellMade → List (List ℕ)
out_cells kind cell made =
    if is_dropped kind then [] else cell_text cell made ∷ (if has_time kind then time_text made ∷ [] else [])

abbrev pub title_cells : ReportKind → List ℕ → List (List ℕ)
title_cells kind title =
    if is_dropped kind then [] else title ∷ (if has_time kind then (title ++ codes "_time") ∷ [] else [])

-- what a column writes for a cell: its value, or the cell as it is if it has none in the column's form
pub record IsWritten (plan : Plan) (cell : List ℕ) (outs : List (List ℕ)) : Type 0 where
  pub made : Option CellMade
  pub is : IsMadeIn plan.kind plan.rounds cell made
  pub outs_are : outs ≡ out_cells plan.kind cell made

-- cells, and after them what a column writes for a cell
pub record AppendsCells (plan : Plan) (cell : List ℕ) (before after : List (List ℕ)) : Type 0 where
  pub outs : List (List ℕ)
  pub written : IsWritten plan cell outs
  pub after_is : after ≡ before ++ outs

-- what the first columns write for the cells of a record
pub data AreWritten (plans : List Plan) (cells : List (List ℕ)) : ℕ → List (List ℕ) → Type 0 where
  no_column : AreWritten plans cells 0 []
  next_column : (count : ℕ) (plan : Plan) (outs more : List (List ℕ)) → AreWritten plans cells count outs → slice_get plans count ≡ Some plan
      → IsWritten plan (nth_cell cells count) more → AreWritten plans cells (suc count) (outs ++ more)

-- what the first columns write as the header
pub data AreTitled (plans : List Plan) (titles : List (List ℕ)) : ℕ → List (List ℕ) → Type 0 where
  no_title : AreTitled plans titles 0 []
  next_title : (count : ℕ) (plan : Plan) (outs : List (List ℕ)) → AreTitled plans titles count outs → slice_get plans count ≡ Some plan
      → AreTitled plans titles (suc count) (outs ++ title_cells plan.kind (nth_cell titles count))
