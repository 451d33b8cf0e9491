-- Outcomes of expressions on rows, written by hand.
use Rattle.std.specs.Prelude.{◌≡◌, ℕ, ℤ, pos, negsuc, true, false, List, [], ◌∷◌, codes, Option, Some, None}
use Rattle.cell_types.specs.Value as value
use Rattle.cell_types.specs.Value.{CellValue}
use Rattle.typed_trees.specs.declared.operator.ArithmeticOperator.TheVariants.{Div}
use Rattle.cell_types.specs.declared.comparison.ComparisonOperator.{ComparisonOperator}
use Rattle.cell_types.specs.declared.comparison.ComparisonOperator.TheVariants.{Equal, NotEqual, GreaterThan, GreaterOrEqual, LessThan, LessOrEqual}
use Rattle.cell_types.specs.declared.kind.NumberKind.TheVariants as kind
use Rattle.typed_trees.specs.declared.tree.DatePart.TheVariants.{Year, Month, Day}
use Rattle.typed_trees.specs.declared.tree.TextTest.TheVariants.{Contains, StartsWith, EndsWith}
use Rattle.typed_trees.specs.TypedTree.{DateExprOf, TextExprOf, NumberExprOf, TruthExprOf, TypedExprOf, null_date, date_column, date_literal, null_text, text_column, text_literal, concat, null_number, number_column, number_literal, number_of_date, arithmetic, length_of, index_of, part_of, scaled, null_truth, truth_column, truth_literal, compare_numbers, compare_texts, compare_truths, test_text, nothing, integer, text, truth, date, decimal}
use Rattle.row_eval.specs.declared.truth.Truth.{Truth}
use Rattle.row_eval.specs.declared.truth.Truth.TheVariants.{False, Null, True}
use Rattle.row_eval.specs.Outcome.{number_outcome, outcome, text_outcome, truth_outcome}

-- the columns Id, Name, Open, Since and Price: a row with a value in each, and one of nulls
abbrev pub full : List CellValue
full = value.integer (pos 7) ∷ value.text (codes "Oslo") ∷ value.boolean true ∷ value.date (pos 2024) 2 29 ∷ value.decimal (pos 2_500_000) ∷ []

abbrev pub blank : List CellValue
blank = value.null ∷ value.null ∷ value.null ∷ value.null ∷ value.null ∷ []

abbrev pub day : ℤ → ℕ → ℕ → DateExprOf
day y m d = date_literal (record { year = y; month = m; day = d })

-- the columns of numbers, and the dates of a comparison
abbrev pub id_number : NumberExprOf
id_number = number_column kind.Integer 0

abbrev pub price_number : NumberExprOf
price_number = number_column kind.Decimal 4

abbrev pub compared_days : DateExprOf → DateExprOf → ComparisonOperator → TruthExprOf
compared_days a b o = compare_numbers o (number_of_date a) (number_of_date b)

-- ---- columns: a row's value, or null where it has none of the type

abbrev pub HasOutcome : TypedExprOf → List CellValue → CellValue → Type 0
HasOutcome e row v = outcome e row ≡ Some v

pub record WorkedColumns : Type 0 where
  pub integers : HasOutcome (integer id_number 9) full (value.integer (pos 7))
  pub texts : HasOutcome (text (text_column 1)) full (value.text (codes "Oslo"))
  pub truths : HasOutcome (truth (truth_column 2)) full (value.boolean true)
  pub dates : HasOutcome (date (date_column 3)) full (value.date (pos 2024) 2 29)
  pub decimals : HasOutcome (decimal price_number 9) full (value.decimal (pos 2_500_000))
  pub null_integer : HasOutcome (integer id_number 9) blank value.null
  pub null_text : HasOutcome (text (text_column 1)) blank value.null
  pub null_truth : HasOutcome (truth (truth_column 2)) blank value.null
  pub null_date : HasOutcome (date (date_column 3)) blank value.null
  pub null_decimal : HasOutcome (decimal price_number 9) blank value.null
  pub null_literal : HasOutcome nothing full value.null
  pub false_literal : HasOutcome (truth (truth_literal false)) blank (value.boolean false)
  pub day_literal : HasOutcome (date (day (pos 1999) 12 31)) blank (value.date (pos 1999) 12 31)
  pub text_literal : HasOutcome (text (text_literal (codes "a"))) blank (value.text (codes "a"))
  -- a column of another kind has none
  pub date_as_integer : HasOutcome (integer (number_column kind.Integer 3) 9) full value.null
  pub integer_as_decimal : HasOutcome (decimal (number_column kind.Decimal 0) 9) full value.null
  -- `1 div 0`, and `1 div 0 eq 1`
  pub no_integer : outcome (integer (arithmetic Div (number_literal (pos 1)) (number_literal (pos 0))) 1) full ≡ None
  pub no_truth : outcome (truth (compare_numbers Equal (arithmetic Div (number_literal (pos 1)) (number_literal (pos 0))) (number_literal (pos 1)))) full ≡ None

-- ---- comparisons (sections 5.1.1.1.1 to 5.1.1.1.6)

abbrev pub Is : TruthExprOf → List CellValue → Truth → Type 0
Is e row t = truth_outcome e row ≡ Some t

-- the six comparisons of two operands, in the order `eq`, `ne`, `gt`, `ge`, `lt`, `le`
pub record Compare (compare : ComparisonOperator → TruthExprOf) (row : List CellValue) (eq : Truth) (ne : Truth) (gt : Truth) (ge : Truth) (lt : Truth) (le : Truth) : Type 0 where
  pub equal : Is (compare Equal) row eq
  pub unequal : Is (compare NotEqual) row ne
  pub greater : Is (compare GreaterThan) row gt
  pub not_less : Is (compare GreaterOrEqual) row ge
  pub less : Is (compare LessThan) row lt
  pub not_greater : Is (compare LessOrEqual) row le

abbrev pub AreEqual : (ComparisonOperator → TruthExprOf) → List CellValue → Type 0
AreEqual compare row = Compare compare row True False False True False True

abbrev pub IsGreater : (ComparisonOperator → TruthExprOf) → List CellValue → Type 0
IsGreater compare row = Compare compare row False True True True False False

abbrev pub IsLess : (ComparisonOperator → TruthExprOf) → List CellValue → Type 0
IsLess compare row = Compare compare row False True False False True True

-- null beside a value: `ne` alone is true
abbrev pub AreApart : (ComparisonOperator → TruthExprOf) → List CellValue → Type 0
AreApart compare row = Compare compare row False True False False False False

abbrev pub compared_letters : List ℕ → List ℕ → ComparisonOperator → TruthExprOf
compared_letters a b o = compare_texts o (text_literal a) (text_literal b)

pub record WorkedComparisons : Type 0 where
  -- integers: 7 and 7, 7 and 8, 7 and -8
  pub same_integers : AreEqual (λ o. compare_numbers o id_number (number_literal (pos 7))) full
  pub less_integer : IsLess (λ o. compare_numbers o id_number (number_literal (pos 8))) full
  pub greater_integer : IsGreater (λ o. compare_numbers o id_number (number_literal (negsuc 7))) full
  -- decimals: 2.5 and 2.5, 2.5 and 3, 3 and 2.5
  pub same_decimals : AreEqual (λ o. compare_numbers o price_number (number_literal (pos 2_500_000))) full
  pub less_decimal : IsLess (λ o. compare_numbers o price_number (scaled (number_literal (pos 3)))) full
  pub greater_decimal : IsGreater (λ o. compare_numbers o (scaled (number_literal (pos 3))) price_number) full
  -- texts are in the order of their bytes, which is that of their code points: `Oslo`, then `Os`, `Oslo!`, `oslo`; `Z` and `a`; U+00E9 and U+20AC
  pub same_texts : AreEqual (λ o. compare_texts o (text_column 1) (text_literal (codes "Oslo"))) full
  pub prefix : IsGreater (λ o. compare_texts o (text_column 1) (text_literal (codes "Os"))) full
  pub longer : IsLess (λ o. compare_texts o (text_column 1) (text_literal (codes "Oslo!"))) full
  pub small_letter : IsLess (λ o. compare_texts o (text_column 1) (text_literal (codes "oslo"))) full
  pub capital_first : IsLess (compared_letters (codes "Z") (codes "a")) full
  pub code_points : IsLess (compared_letters (195 ∷ 169 ∷ []) (226 ∷ 130 ∷ 172 ∷ [])) full
  -- dates by year, month, day: 2024-02-29 beside 2023-12-31, 2024-03-01, 2024-02-28 and itself
  pub same_dates : AreEqual (compared_days (date_column 3) (day (pos 2024) 2 29)) full
  pub year_first : IsGreater (compared_days (date_column 3) (day (pos 2023) 12 31)) full
  pub month_then : IsLess (compared_days (date_column 3) (day (pos 2024) 3 1)) full
  pub day_last : IsGreater (compared_days (date_column 3) (day (pos 2024) 2 28)) full
  -- true is greater than false
  pub same_truths : AreEqual (λ o. compare_truths o (truth_column 2) (truth_literal true)) full
  pub true_beside_false : IsGreater (λ o. compare_truths o (truth_column 2) (truth_literal false)) full
  pub false_beside_true : IsLess (λ o. compare_truths o (truth_literal false) (truth_column 2)) full
  -- null beside null: `ge` and `le` are `eq` or an order
  pub null_integers : AreEqual (λ o. compare_numbers o id_number null_number) blank
  pub null_decimals : AreEqual (λ o. compare_numbers o price_number null_number) blank
  pub null_texts : AreEqual (λ o. compare_texts o (text_column 1) null_text) blank
  pub null_dates : AreEqual (compared_days (date_column 3) null_date) blank
  pub null_truths : AreEqual (λ o. compare_truths o (truth_column 2) null_truth) blank
  -- null beside a value, on either side
  pub null_integer_first : AreApart (λ o. compare_numbers o null_number id_number) full
  pub null_integer_last : AreApart (λ o. compare_numbers o id_number null_number) full
  pub null_decimal_first : AreApart (λ o. compare_numbers o null_number price_number) full
  pub null_text_last : AreApart (λ o. compare_texts o (text_column 1) null_text) full
  pub null_date_first : AreApart (compared_days null_date (date_column 3)) full
  pub null_truth_beside_false : AreApart (λ o. compare_truths o null_truth (truth_literal false)) full
  pub null_truth_beside_true : AreApart (λ o. compare_truths o (truth_column 2) null_truth) full

-- ---- functions (sections 5.1.1.5 and 5.1.1.8)

abbrev pub Texts : TextExprOf → List CellValue → Option (List ℕ) → Type 0
Texts e row t = text_outcome e row ≡ t

abbrev pub Numbers : NumberExprOf → List CellValue → ℤ → Type 0
Numbers e row n = number_outcome e row ≡ Some (Some n)

abbrev pub HasNoNumber : NumberExprOf → List CellValue → Type 0
HasNoNumber e row = number_outcome e row ≡ Some None

abbrev pub a_text : List ℕ → TextExprOf
a_text t = text_literal t

-- U+00E9 U+20AC `a`: three characters in six bytes
abbrev pub wide : TextExprOf
wide = text_literal (195 ∷ 169 ∷ 226 ∷ 130 ∷ 172 ∷ 97 ∷ [])

pub record WorkedFunctions : Type 0 where
  -- `contains`
  pub contained : Is (test_text Contains (text_column 1) (a_text (codes "sl"))) full True
  pub not_contained : Is (test_text Contains (text_column 1) (a_text (codes "so"))) full False
  pub empty_contained : Is (test_text Contains (a_text []) (a_text [])) full True
  pub too_long : Is (test_text Contains (a_text (codes "a")) (a_text (codes "ab"))) full False
  -- `startswith`
  pub at_start : Is (test_text StartsWith (text_column 1) (a_text (codes "Os"))) full True
  pub not_at_start : Is (test_text StartsWith (text_column 1) (a_text (codes "lo"))) full False
  -- `endswith`
  pub at_end : Is (test_text EndsWith (text_column 1) (a_text (codes "lo"))) full True
  pub not_at_end : Is (test_text EndsWith (text_column 1) (a_text (codes "Os"))) full False
  -- a null argument gives null
  pub null_contains : Is (test_text Contains (text_column 1) (a_text (codes "a"))) blank Null
  pub contains_null : Is (test_text Contains (text_column 1) null_text) full Null
  pub starts_with_null : Is (test_text StartsWith (text_column 1) null_text) full Null
  pub null_ends : Is (test_text EndsWith null_text (text_column 1)) full Null
  -- `length` and `indexof` count characters
  pub length : Numbers (length_of (text_column 1)) full (pos 4)
  pub wide_length : Numbers (length_of wide) full (pos 3)
  pub empty_length : Numbers (length_of (a_text [])) full (pos 0)
  pub null_length : HasNoNumber (length_of (text_column 1)) blank
  pub index : Numbers (index_of (text_column 1) (a_text (codes "lo"))) full (pos 2)
  pub wide_index : Numbers (index_of wide (a_text (codes "a"))) full (pos 2)
  pub first_index : Numbers (index_of (a_text (codes "abab")) (a_text (codes "b"))) full (pos 1)
  pub no_index : Numbers (index_of (text_column 1) (a_text (codes "x"))) full (negsuc 0)
  pub empty_index : Numbers (index_of (text_column 1) (a_text [])) full (pos 0)
  pub index_of_null : HasNoNumber (index_of (text_column 1) null_text) full
  pub index_in_null : HasNoNumber (index_of (text_column 1) (a_text [])) blank
  -- `concat`
  pub joined : Texts (concat (text_column 1) (a_text (codes "!"))) full (Some (codes "Oslo!"))
  pub joined_null : Texts (concat (a_text (codes "!")) (text_column 1)) blank None
  -- `year`, `month` and `day`
  pub year : Numbers (part_of Year (date_column 3)) full (pos 2024)
  pub month : Numbers (part_of Month (date_column 3)) full (pos 2)
  pub day_of_month : Numbers (part_of Day (date_column 3)) full (pos 29)
  pub null_year : HasNoNumber (part_of Year (date_column 3)) blank
  pub null_month : HasNoNumber (part_of Month (date_column 3)) blank
  pub null_day : HasNoNumber (part_of Day (date_column 3)) blank
