-- The forms of a column's cells, and what is made of a cell in each.
use Rattle.std.specs.Prelude.{◌≡◌, ℕ, ◌&&◌, ◌||◌, Bool, true, false, List, Option, Some, None, codes, if◌then◌else◌, option_map}
use Rattle.std.specs.List.{after_last, before_last}
use Rattle.std.specs.Option.{IsSomeAnd, option_and_then}
use Rattle.value_forms.specs.declared.form.Form.{Form}
use Rattle.value_forms.specs.declared.form.Form.TheVariants.{Same, Number, Round, Day, DayAndTime, Midnight, Truth}
use Rattle.value_forms.specs.declared.form.Made.{Made}
use Rattle.value_forms.specs.declared.form.NumberForm.{NumberForm}
use Rattle.value_forms.specs.declared.form.Scale.{Scale}
use Rattle.value_forms.specs.declared.form.Scale.TheVariants.{Plain, Percent, Exponent}
use Rattle.value_forms.specs.declared.number.Marks.{Marks}
use Rattle.value_forms.specs.declared.date.DayForm.{DayForm}
use Rattle.value_forms.specs.declared.unit.Unit.{Unit}
use Rattle.value_forms.specs.Dates.{form_day}
use Rattle.value_forms.specs.Numbers.{marked_number}
use Rattle.value_forms.specs.Rounding.{in_six_places, is_finer}
use Rattle.value_forms.specs.Scale.{exponent_number, percent_number}
use Rattle.value_forms.specs.Times.{ends_in_time, is_between, is_midnight}
use Rattle.value_forms.specs.Truths.{word_truth}
use Rattle.value_forms.specs.Units.{without_unit}

-- the first number, or the other one if there is none
abbrev pub or_number : Option (List ℕ) → Option (List ℕ) → Option (List ℕ)
or_number None other = other
or_number (Some number) other = Some number

-- the number of a text without a currency
abbrev pub number_at_scale : Scale → Marks → List ℕ → Option (List ℕ)
number_at_scale Plain marks text = marked_number marks text
number_at_scale Percent marks text = percent_number marks text
number_at_scale Exponent marks text = or_number (exponent_number marks text) (marked_number marks text)

-- a text without the currency of its form
abbrev pub bare_number : Option Unit → List ℕ → Option (List ℕ)
bare_number None text = Some text
bare_number (Some unit) text = without_unit unit text

-- the number of a text
abbrev pub form_number : NumberForm → List ℕ → Option (List ℕ)
form_number form text = option_and_then (λ bare. number_at_scale form.scale form.marks bare) (bare_number form.unit text)

-- the text of a cell's value, its time of day if that is apart, and how far the value is from that of the cell
pub record CellMade : Type 0 where
  pub text : List ℕ
  pub time : Option (List ℕ)
  pub difference : ℕ

abbrev pub cell_made : Made → CellMade
cell_made made = record { text = made.text.items; time = option_map (λ time. time.items) made.time; difference = made.difference }

-- the text alone: nothing is lost
abbrev pub alone_made : List ℕ → CellMade
alone_made text = record { text = text; time = None; difference = 0 }

-- a number is rounded if it has more than six places, and is left as it is if not
abbrev pub IsRounded : Bool → List ℕ → Option CellMade → Option CellMade → Type 0
IsRounded true number kept made = IsSomeAnd made (λ made. (made.text ≡ in_six_places number) × (made.time ≡ None))
IsRounded false number kept made = made ≡ kept

-- what is made of a number, which is rounded if that is asked
abbrev pub IsNumberMade : Bool → Option (List ℕ) → Option CellMade → Type 0
IsNumberMade rounds None made = made ≡ None
IsNumberMade rounds (Some number) made = IsRounded (rounds && is_finer number) number (Some (alone_made number)) made

-- a day with a time of day, which is kept or must be midnight
abbrev pub timed : Bool → List ℕ → List ℕ → CellMade
timed keeps time day = record { text = day; time = if keeps then Some time else None; difference = 0 }

unfoldable pub timed_day : Bool → DayForm → List ℕ → Option CellMade
timed_day keeps form text =
    if ends_in_time text && (keeps || is_midnight (after_last is_between text))
    then option_map (timed keeps (after_last is_between text)) (form_day form (before_last is_between text)) else None

abbrev pub truth_word : Bool → List ℕ
truth_word true = codes "true"
truth_word false = codes "false"

-- what is made of a cell in a form: nothing if it is not of the form, or is left as it is
abbrev pub IsMadeBy : Form → List ℕ → Option CellMade → Type 0
IsMadeBy Same text made = made ≡ None
IsMadeBy (Number form) text made = IsNumberMade form.rounds (form_number form text) made
IsMadeBy Round text made = IsRounded (is_finer text) text None made
IsMadeBy (Day form) text made = made ≡ option_map alone_made (form_day form text)
IsMadeBy (DayAndTime form) text made = made ≡ timed_day true form text
IsMadeBy (Midnight form) text made = made ≡ timed_day false form text
IsMadeBy (Truth words) text made =
    made ≡ option_map (λ word. alone_made (truth_word word)) (word_truth words.of_true.now words.of_false.now text)
