-- What a name and a format say is said again by the name and the format of that datatype.
use Rattle.std.proofs.Common.{◌≡◌, ℕ, List, ◌∷◌, ◌++◌, length, nat_lt, Bool, true, false, ◌&&◌, Option, None, Some, option_map, refl, sym, ap, ◌∙◌, subst, arith, ◌+◌, ◌<◌, if◌then◌else◌}
use Rattle.std.specs.Prelude.{option_and_then, unwrap_or}
use Rattle.std.specs.List.{before_first, after_first, position_or_len}
use Rattle.std.proofs.lemmas.Bool.{eqb-true, ltb-true}
use Rattle.std.proofs.lemmas.List.{length-drop}
use Rattle.std.proofs.lemmas.List.Sums.{passes_at_first, split_at_first}
use Rattle.cell_types.specs.declared.datatype.BooleanForm.TheVariants.{Standard}
use Rattle.cell_types.specs.declared.datatype.DateForm.{DateForm}
use Rattle.cell_types.specs.declared.datatype.DateForm.TheVariants.{YearMonthDay}
use Rattle.cell_types.specs.Datatype.{DatatypeOf, integer, text, boolean, date, decimal, boolean_view}
use Rattle.datatype_texts.specs.Names.{boolean_of_texts, boolean_texts, name_of_datatype, datatype_named, date_form, format_of_datatype, format_text, bar, is_bar, with_format}
use Rattle.datatype_texts.specs.Laws.{datatype_said}
use Rattle.datatype_texts.proofs.FormLemmas.{of_pattern}

-- ---- the two texts of a format, and a bar between them, are the format

joined : (xs : List ℕ) → nat_lt 0 (length (after_first is_bar xs)) ≡ true → before_first is_bar xs ++ bar ∷ after_first is_bar xs ≡ xs
joined xs there =
    let below : position_or_len is_bar xs < length xs = omega (arith, length-drop (position_or_len is_bar xs + 1) xs, ltb-true _ _ there) in
    ap (λ (b : ℕ). before_first is_bar xs ++ b ∷ after_first is_bar xs) (sym (eqb-true _ bar (passes_at_first is_bar xs 0 below))) ∙ sym (split_at_first is_bar xs 0 below)

-- of the conditions on two texts that all hold, one is that the second is not empty
texts-there : (pair : List ℕ × List ℕ) (a b c d : Bool) (texts : List ℕ × List ℕ) → (if a && b && c && d then Some pair else None) ≡ Some texts → (b ≡ true) × (pair ≡ texts)
texts-there pair true true true true texts h = (refl, ap (λ (o : Option (List ℕ × List ℕ)). unwrap_or o pair) h)
texts-there pair true true true false texts h = absurd (cc h)
texts-there pair true true false d texts h = absurd (cc h)
texts-there pair true false c d texts h = absurd (cc h)
texts-there pair false b c d texts h = absurd (cc h)

format-again : (format : List ℕ) (texts : List ℕ × List ℕ) → boolean_texts format ≡ Some texts → texts.0 ++ bar ∷ texts.1 ≡ format
format-again format texts h =
    let is = texts-there _ _ _ _ _ texts h in
    ap (λ (pair : List ℕ × List ℕ). pair.0 ++ bar ∷ pair.1) (sym is.1) ∙ joined format is.0

-- ---- by the datatype of the name

SaysAgain : DatatypeOf → Type 0
SaysAgain d = datatype_said (name_of_datatype d) (format_text (format_of_datatype d)) ≡ Some d

boolean-again : (format : List ℕ) (texts : List ℕ × List ℕ) → boolean_texts format ≡ Some texts → SaysAgain (boolean_of_texts texts)
unfolding SaysAgain
boolean-again format texts h = ap (λ (f : List ℕ). option_map boolean_of_texts (boolean_texts f)) (format-again format texts h) ∙ ap (option_map boolean_of_texts) h

date-again : (form : DateForm) → SaysAgain (date form)
unfolding SaysAgain
date-again form = ap (option_map date) (sym (of_pattern form))

-- what passes for a datatype passes for that of any name
by_name : (P : DatatypeOf → Type 0) → P integer → P text → P (boolean_view Standard) → P (date YearMonthDay) → P decimal
    → (a b c d e : Bool) (base : DatatypeOf)
    → (if a then Some integer else (if b then Some text else (if c then Some (boolean_view Standard) else (if d then Some (date YearMonthDay) else (if e then Some decimal else None))))) ≡ Some base
    → P base
by_name P i t b d m true _ _ _ _ base h = subst P (ap (λ (o : Option DatatypeOf). unwrap_or o integer) h) i
by_name P i t b d m false true _ _ _ base h = subst P (ap (λ (o : Option DatatypeOf). unwrap_or o integer) h) t
by_name P i t b d m false false true _ _ base h = subst P (ap (λ (o : Option DatatypeOf). unwrap_or o integer) h) b
by_name P i t b d m false false false true _ base h = subst P (ap (λ (o : Option DatatypeOf). unwrap_or o integer) h) d
by_name P i t b d m false false false false true base h = subst P (ap (λ (o : Option DatatypeOf). unwrap_or o integer) h) m
by_name P i t b d m false false false false false base h = absurd (cc h)

plain-again : (name : List ℕ) (d : DatatypeOf) → datatype_named name ≡ Some d → SaysAgain d
unfolding SaysAgain
plain-again name d h = by_name SaysAgain refl refl refl refl refl _ _ _ _ _ d h

SaysWith : List ℕ → DatatypeOf → Type 0
SaysWith format base = (d : DatatypeOf) → with_format base format ≡ Some d → SaysAgain d

boolean-with : (format : List ℕ) (d : DatatypeOf) (texts : Option (List ℕ × List ℕ)) → boolean_texts format ≡ texts → option_map boolean_of_texts texts ≡ Some d → SaysAgain d
boolean-with format d None is h = absurd (cc h)
boolean-with format d (Some texts) is h = subst SaysAgain (ap (λ (o : Option DatatypeOf). unwrap_or o d) h) (boolean-again format texts is)

date-with : (d : DatatypeOf) (form : Option DateForm) → option_map date form ≡ Some d → SaysAgain d
date-with d None h = absurd (cc h)
date-with d (Some form) h = subst SaysAgain (ap (λ (o : Option DatatypeOf). unwrap_or o d) h) (date-again form)

base-with : (format : List ℕ) (base : DatatypeOf) → SaysWith format base
unfolding SaysWith
base-with format integer = λ d h. absurd (cc h)
base-with format text = λ d h. absurd (cc h)
base-with format (boolean of_true of_false) = λ d h. boolean-with format d (boolean_texts format) refl h
base-with format (date form) = λ d h. date-with d (date_form format) h
base-with format decimal = λ d h. absurd (cc h)

format-with : (format : List ℕ) (d : DatatypeOf) (base : Option DatatypeOf) → option_and_then (λ base. with_format base format) base ≡ Some d → SaysAgain d
unfolding SaysWith
format-with format d None h = absurd (cc h)
format-with format d (Some base) h = base-with format base d h

pub says-again : (name : List ℕ) (format : Option (List ℕ)) (d : DatatypeOf) → datatype_said name format ≡ Some d → datatype_said (name_of_datatype d) (format_text (format_of_datatype d)) ≡ Some d
unfolding SaysAgain
says-again name None d h = plain-again name d h
says-again name (Some format) d h = format-with format d (datatype_named name) h
