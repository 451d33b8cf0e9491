-- Texts that say their value as they stand.
use Rattle.std.proofs.Common.{◌≡◌, ◌⊎◌, inl, inr, ◌||◌, ℕ, ℤ, zero, suc, ◌+◌, ◌/◌, ◌%◌, ◌<◌, ◌≤◌, Bool, true, false, not, cond, Ok, Err, Result, FitsSigned, w64, List, [], ◌∷◌, ◌++◌, arith, length, get_or, take, drop, refl, sym, ap, subst, ◌∙◌}
use Rattle.std.specs.Prelude.{codes, if◌then◌else◌, slice_index, ◌==◌}
use Rattle.std.specs.Char.{is_ascii_digit}
use Rattle.std.specs.List.{after_first, before_first, list_any, position_or_len}
use Rattle.std.specs.Str.{all_ascii_digits, bytes_eq}
use Rattle.std.specs.Str.Parse.{AllDigits, starts_with_minus, without_leading_plus, without_leading_sign}
use Rattle.std.proofs.lemmas.Bool.{and_from, and_parts, cond-false, cond_both, eqb-true, ne_eqb, or_cases}
use Rattle.std.proofs.lemmas.Slice.Eq.{bytes_eq-Decides}
use Rattle.std.proofs.lemmas.Str.Parse.{digit_at}
use Rattle.cell_types.specs.declared.fault.CellFault.{CellFault}
use Rattle.cell_types.specs.declared.fault.CellFault.TheVariants.{NotBoolean, NotDecimal}
use Rattle.cell_types.specs.declared.datatype.BooleanForm.TheVariants.{Standard}
use Rattle.cell_types.specs.declared.datatype.DateForm.{DateForm}
use Rattle.cell_types.specs.declared.datatype.DateForm.TheVariants.{YearMonthDay, Compact, DayMonthYear, MonthDayYear, Dotted}
use Rattle.cell_types.specs.Cell.{SaysPlainly, content_of, content_value, is_null_text, null_reading, text_or_default, typed_value, value_of}
use Rattle.cell_types.specs.Column.{ColumnOf}
use Rattle.cell_types.specs.Datatype as datatype
use Rattle.cell_types.specs.Datatype.{DatatypeOf, boolean_view}
use Rattle.cell_types.specs.Date.{HasDate, HasNoDate, date_text, four_digits, laid_out, two_digits}
use Rattle.cell_types.specs.Decimal.{decimal_of, fraction_part, is_decimal, is_point, whole_part}
use Rattle.cell_types.specs.Value.{CellValue, boolean, date, decimal}
use Rattle.cell_types.specs.WhiteSpace.{normal_text, words}
use Rattle.cell_types.proofs.DateLemmas.{date_of-none, date_of-text}
use Rattle.cell_types.proofs.DecimalLemmas.{both_parts, decimal-not, decimal_of-only}
use Rattle.cell_types.proofs.DigitLaws.{digits_model}
use Rattle.cell_types.proofs.ShortIntegers.{AreSolid, solid-normal}

-- ---- bytes that are no white space

solid-nil : AreSolid []
solid-nil k within = absurd (omega (arith, within))

solid-cons : (b : ℕ) (bs : List ℕ) → 33 ≤ b → AreSolid bs → AreSolid (b ∷ bs)
solid-cons b bs first rest zero within = first
solid-cons b bs first rest (suc k) within = rest k (omega (arith, within))

solid-append : (xs ys : List ℕ) → AreSolid xs → AreSolid ys → AreSolid (xs ++ ys)
solid-append [] ys front rest = rest
solid-append (x ∷ xs) ys front rest = solid-cons x (xs ++ ys) (front 0 (omega arith)) (solid-append xs ys (λ k h. front (suc k) (omega (arith, h))) rest)

solid-digits : (ds : List ℕ) → AllDigits 10 ds → AreSolid ds
solid-digits ds all k within = let digit = digit_at ds k all within in omega (arith, digit.0)

-- ---- dates

solid-two : (n : ℕ) → AreSolid (two_digits n)
solid-two n = solid-cons (48 + n / 10) ((48 + n % 10) ∷ []) (omega arith) (solid-cons (48 + n % 10) [] (omega arith) solid-nil)

solid-one : (b : ℕ) → 33 ≤ b → AreSolid (b ∷ [])
solid-one b h = solid-cons b [] h solid-nil

solid-three : (a b c : List ℕ) (mark : ℕ) → 33 ≤ mark → AreSolid a → AreSolid b → AreSolid c → AreSolid (a ++ (mark ∷ []) ++ b ++ (mark ∷ []) ++ c)
solid-three a b c mark h first second third =
    let m = solid-one mark h in
    solid-append (a ++ (mark ∷ []) ++ b ++ (mark ∷ [])) c
    (solid-append (a ++ (mark ∷ []) ++ b) (mark ∷ []) (solid-append (a ++ (mark ∷ [])) b (solid-append a (mark ∷ []) first m) second) m) third

laid_out-solid : (form : DateForm) (y m d : List ℕ) → AreSolid y → AreSolid m → AreSolid d → AreSolid (laid_out form y m d)
laid_out-solid YearMonthDay y m d a b c = solid-three y m d 45 (omega arith) a b c
laid_out-solid Compact y m d a b c = solid-append (y ++ m) d (solid-append y m a b) c
laid_out-solid DayMonthYear y m d a b c = solid-three d m y 47 (omega arith) c b a
laid_out-solid MonthDayYear y m d a b c = solid-three m d y 47 (omega arith) b c a
laid_out-solid Dotted y m d a b c = solid-three d m y 46 (omega arith) c b a

date_text-solid : (form : DateForm) (y m d : ℕ) → AreSolid (date_text form y m d)
date_text-solid form y m d =
    laid_out-solid form (four_digits y) (two_digits m) (two_digits d)
    (solid-append (two_digits (y / 100)) (two_digits (y % 100)) (solid-two (y / 100)) (solid-two (y % 100))) (solid-two m) (solid-two d)

date_text-some : (form : DateForm) (y m d : ℕ) → 0 < length (date_text form y m d)
date_text-some YearMonthDay y m d = omega arith
date_text-some Compact y m d = omega arith
date_text-some DayMonthYear y m d = omega arith
date_text-some MonthDayYear y m d = omega arith
date_text-some Dotted y m d = omega arith

pub date-plain : (column : ColumnOf) (form : DateForm) (bytes : List ℕ) (year : ℤ) (month day : ℕ) → column.datatype ≡ datatype.date form → HasDate form bytes year month day
    → is_null_text column bytes ≡ false → SaysPlainly column bytes (date year month day)
date-plain column form bytes year month day type (y, year_is, (is, text)) null =
    let normal = solid-normal (date_text form y month day) (date_text-some form y month day) (date_text-solid form y month day) in (
      subst (λ t. 0 < length t) (sym text) (date_text-some form y month day),
      subst (λ t. normal_text t ≡ t) (sym text) normal,
      null,
      ap (λ d. typed_value d bytes) type ∙ date_of-text form bytes y month day (is, text) ∙ ap (λ z. Ok (date z month day)) (sym year_is),
    )

pub no_date-plain : (column : ColumnOf) (form : DateForm) (bytes : List ℕ) (v : CellValue) → column.datatype ≡ datatype.date form → HasNoDate form bytes → ¬ (SaysPlainly column bytes v)
no_date-plain column form bytes v type none plain =
    let is = sym (date_of-none form bytes none) ∙ sym (ap (λ d. typed_value d bytes) type) ∙ plain.3 in
    absurd (cc)

-- ---- decimals

-- digits with at most one point among them
parts-solid : (ds : List ℕ) → all_ascii_digits (before_first is_point ds) ≡ true → all_ascii_digits (after_first is_point ds) ≡ true → AreSolid ds
parts-solid [] front back = solid-nil
parts-solid (d ∷ ds) front back = by (λ f b. parts-solid ds f b) (is_point d) refl front back
  where
    by : (all_ascii_digits (before_first is_point ds) ≡ true → all_ascii_digits (after_first is_point ds) ≡ true → AreSolid ds) → (t : Bool) → is_point d ≡ t
        → all_ascii_digits (take (cond (not t) (1 + position_or_len is_point ds) 0) (d ∷ ds)) ≡ true
        → all_ascii_digits (drop (cond (not t) (1 + position_or_len is_point ds) 0 + 1) (d ∷ ds)) ≡ true → AreSolid (d ∷ ds)
    by rest true e front back =
        let first = eqb-true d 46 e in
        solid-cons d ds (omega (arith, first)) (solid-digits ds (digits_model.to ds back))
    by rest false e front back =
        let p = position_or_len is_point ds in
        let one : 1 + p ≡ suc p = omega arith in
        let two : 1 + p + 1 ≡ suc (p + 1) = omega arith in
        let parts = and_parts (is_ascii_digit d) (all_ascii_digits (before_first is_point ds)) (subst (λ n. all_ascii_digits (take n (d ∷ ds)) ≡ true) one front) in
        let digit = digits_model.to (d ∷ []) (and_from (is_ascii_digit d) true parts.0 refl) in
        solid-cons d ds (solid-digits (d ∷ []) digit 0 (omega arith)) (rest parts.1 (subst (λ n. all_ascii_digits (drop n (d ∷ ds)) ≡ true) two back))

behind-sign : (bytes : List ℕ) → 33 ≤ get_or bytes 0 0 → AreSolid (drop 1 bytes) → AreSolid bytes
behind-sign [] first rest = solid-nil
behind-sign (b ∷ bs) first rest = solid-cons b bs first rest

with_sign-solid : (bytes : List ℕ) → AreSolid (without_leading_sign bytes) → AreSolid bytes
with_sign-solid bytes =
    let Here : List ℕ → Type 0 = λ ds. AreSolid ds → AreSolid bytes in
    cond_both (starts_with_minus bytes) (drop 1 bytes) (without_leading_plus bytes) Here
    (λ minus. let first = eqb-true (get_or bytes 0 0) 45 minus in behind-sign bytes (omega (arith, first)))
    (λ _. cond_both (slice_index bytes 0 == 43) 1 0 (λ m. Here (drop m bytes))
    (λ plus. let first = eqb-true (get_or bytes 0 0) 43 plus in behind-sign bytes (omega (arith, first)))
    (λ _ rest. rest))

no_value : (fault : CellFault) (v : CellValue) → ◌≡◌ {A = Result CellValue CellFault} (Err fault) (Ok v) → ⊥
no_value fault v e = cc

decimal-form : (bytes : List ℕ) (v : CellValue) → decimal_of bytes ≡ Ok v → is_decimal bytes ≡ true
decimal-form bytes v e = by (is_decimal bytes) refl
  where
    by : (t : Bool) → is_decimal bytes ≡ t → is_decimal bytes ≡ true
    by true is = is
    by false none = absurd (no_value NotDecimal v (sym (decimal-not bytes none) ∙ e))

same_decimal : (a b : ℤ) → decimal a ≡ decimal b → a ≡ b
same_decimal a b e = cc

pub decimal-fits : (bytes : List ℕ) (z : ℤ) → decimal_of bytes ≡ Ok (decimal z) → FitsSigned w64 z
decimal-fits bytes z e = let is = decimal_of-only bytes (decimal z) e in subst (FitsSigned w64) (sym (same_decimal z is.0 is.2)) is.1

decimal-solid : (bytes : List ℕ) → is_decimal bytes ≡ true → AreSolid bytes
decimal-solid bytes form =
    let both = both_parts (whole_part bytes) (fraction_part bytes) form in
    with_sign-solid bytes (parts-solid (without_leading_sign bytes) (digits_model.from (whole_part bytes) both.0) (digits_model.from (fraction_part bytes) both.1))

decimal-some : (bytes : List ℕ) → is_decimal bytes ≡ true → 0 < length bytes
decimal-some [] form = absurd (cc)
decimal-some (b ∷ bs) form = omega arith

pub decimal-plain : (column : ColumnOf) (bytes : List ℕ) (z : ℤ) → column.datatype ≡ datatype.decimal → decimal_of bytes ≡ Ok (decimal z)
    → is_null_text column bytes ≡ false → SaysPlainly column bytes (decimal z)
decimal-plain column bytes z type is null =
    let form = decimal-form bytes (decimal z) is in
    let some = decimal-some bytes form in
    (some, solid-normal bytes some (decimal-solid bytes form), null, ap (λ d. typed_value d bytes) type ∙ is)

-- ---- all datatypes

content-normal : (d : DatatypeOf) (bytes : List ℕ) → normal_text bytes ≡ bytes → content_of d bytes ≡ bytes
content-normal datatype.integer bytes e = e
content-normal datatype.text bytes e = refl
content-normal (datatype.boolean ts fs) bytes e = e
content-normal (datatype.date form) bytes e = e
content-normal datatype.decimal bytes e = e

pub plain-value : (column : ColumnOf) (bytes : List ℕ) (v : CellValue) → SaysPlainly column bytes v → value_of column bytes ≡ Ok v
plain-value column bytes v (some, normal, null, read) =
    let content : text_or_default column bytes ≡ bytes = cond-false _ _ _ (ne_eqb (length bytes) 0 (λ e. absurd (omega (arith, e, some)))) in
    ap (content_value column) (content-normal column.datatype bytes normal)
    ∙ ap (λ text. if is_null_text column text then null_reading column else typed_value column.datatype text) content
    ∙ cond-false _ _ _ null ∙ read

-- ---- booleans

-- a text of which white space is no part
abbrev IsNormal : List ℕ → Type 0
IsNormal bytes = (0 < length bytes) × (normal_text bytes ≡ bytes)

same-normal : (other bytes : List ℕ) → IsNormal other → bytes_eq other bytes ≡ true → IsNormal bytes
same-normal other bytes normal same = subst IsNormal ((bytes_eq-Decides other bytes).0 same) normal

one_of_two : (p q bytes : List ℕ) → IsNormal p → IsNormal q → list_any (λ other. bytes_eq other bytes) (p ∷ q ∷ []) ≡ true → IsNormal bytes
one_of_two p q bytes first second any = by (or_cases (bytes_eq p bytes) (bytes_eq q bytes || false) any)
  where
    last : (bytes_eq q bytes ≡ true) ⊎ (false ≡ true) → IsNormal bytes
    last (inl same) = same-normal q bytes second same
    last (inr wrong) = absurd (cc)

    by : (bytes_eq p bytes ≡ true) ⊎ ((bytes_eq q bytes || false) ≡ true) → IsNormal bytes
    by (inl same) = same-normal p bytes first same
    by (inr rest) = last (or_cases (bytes_eq q bytes) false rest)

-- the texts that need no format have no white space
pub standard-normal : (bytes : List ℕ) (truth : Bool) → typed_value (boolean_view Standard) bytes ≡ Ok (boolean truth) → IsNormal bytes
unfolding normal_text words
standard-normal bytes truth =
    let is_true = list_any (λ other. bytes_eq other bytes) (codes "true" ∷ codes "1" ∷ []) in
    let is_false = list_any (λ other. bytes_eq other bytes) (codes "false" ∷ codes "0" ∷ []) in
    let Here : Result CellValue CellFault → Type 0 = λ r. r ≡ Ok (boolean truth) → IsNormal bytes in
    cond_both is_true (Ok (boolean true)) (cond is_false (Ok (boolean false)) (Err NotBoolean)) Here
    (λ t _. one_of_two (codes "true") (codes "1") bytes (omega arith, refl) (omega arith, refl) t)
    (λ _. cond_both is_false (Ok (boolean false)) (Err NotBoolean) Here
    (λ f _. one_of_two (codes "false") (codes "0") bytes (omega arith, refl) (omega arith, refl) f) (λ _ e. absurd (cc)))
