-- Dates that are compared as numbers are compared by year, then by month, then by day.
use Rattle.std.proofs.Common.{◌≡◌, ℕ, ◌<◌, ◌≤◌, ◌||◌, List, [], ◌∷◌, Option, None, Some, map, refl, sym, ap, ap₂, ◌∙◌, arith}
use Rattle.std.specs.Prelude.{ℤ, ◌<ℤ◌, All, IfSome, option_and_then, option_map, slice_get}
use Rattle.std.specs.Cmp.{int_cmp_is}
use Rattle.std.specs.Ordering.{MatchOrdering, int_cmp, nat_cmp, ordering_then}
use Rattle.std.specs.declared.cmp.Ordering.{Ordering}
use Rattle.std.specs.declared.cmp.Ordering.TheVariants.{Less, Equal, Greater}
use Rattle.std.proofs.lemmas.Cmp.{int_ranked, ranked}
use Rattle.std.proofs.lemmas.Int.{ints}
use Rattle.std.proofs.lemmas.List.Elements.{All-head, All-tail}
use Rattle.cell_types.specs.Kind.{day_number}
use Rattle.cell_types.specs.Value.{CellValue}
use Rattle.cell_types.specs.declared.comparison.ComparisonOperator.{ComparisonOperator}
use Rattle.cell_types.specs.declared.kind.NumberKind.TheVariants as kind
use Rattle.typed_trees.specs.TypedTree.{DateExprOf, DayOf, compare_numbers, date_column, date_literal, null_date, number_in, number_of_date, number_of_day}
use Rattle.row_eval.specs.declared.truth.Truth.{Truth}
use Rattle.row_eval.specs.Comparison.{compared, day_cmp, holds, is_among, is_equal}
use Rattle.row_eval.specs.Laws.{IsCalendarDay}
use Rattle.row_eval.specs.Logic.{truth_of}
use Rattle.row_eval.specs.Outcome.{both, date_outcome, number_outcome, truth_outcome}
use Rattle.row_eval.specs.Row as row
use Rattle.row_eval.specs.Row.{day_in}

-- ---- days

day_order : (m d n e : ℕ) (y z : ℤ) → y ≡ z → m ≡ n → (r : Ordering) → MatchOrdering r (d < e) (d ≡ e) (e < d)
    → MatchOrdering r (day_number y m d <ℤ day_number z n e) (day_number y m d ≡ day_number z n e) (day_number z n e <ℤ day_number y m d)
day_order m d n e y z f g Less h = omega (arith, ints)
day_order m d n e y z f g Equal h = omega (arith, ints)
day_order m d n e y z f g Greater h = omega (arith, ints)

month_order : (m d n e : ℕ) (y z : ℤ) → d ≤ 31 → e ≤ 31 → y ≡ z → (r : Ordering) → MatchOrdering r (m < n) (m ≡ n) (n < m)
    → MatchOrdering (ordering_then r (nat_cmp d e)) (day_number y m d <ℤ day_number z n e) (day_number y m d ≡ day_number z n e) (day_number z n e <ℤ day_number y m d)
month_order m d n e y z p q f Less h = omega (arith, ints)
month_order m d n e y z p q f Equal h = day_order m d n e y z f h (nat_cmp d e) (ranked d e _ refl)
month_order m d n e y z p q f Greater h = omega (arith, ints)

year_order : (m d n e : ℕ) (y z : ℤ) → m ≤ 12 → n ≤ 12 → d ≤ 31 → e ≤ 31 → (r : Ordering) → MatchOrdering r (y <ℤ z) (y ≡ z) (z <ℤ y)
    → MatchOrdering (ordering_then (ordering_then r (nat_cmp m n)) (nat_cmp d e)) (day_number y m d <ℤ day_number z n e) (day_number y m d ≡ day_number z n e)
    (day_number z n e <ℤ day_number y m d)
year_order m d n e y z j k p q Less h = omega (arith, ints)
year_order m d n e y z j k p q Equal h = month_order m d n e y z p q h (nat_cmp m n) (ranked m n _ refl)
year_order m d n e y z j k p q Greater h = omega (arith, ints)

days_in_order : (a b : DayOf) → IsCalendarDay a → IsCalendarDay b → day_cmp a b ≡ int_cmp (number_of_day a) (number_of_day b)
days_in_order a b p q =
    int_cmp_is _ _ _ (year_order a.month a.day b.month b.day a.year b.year p.0 q.0 p.1 q.1 (int_cmp a.year b.year) (int_ranked a.year b.year _ refl))

compared_days : (x y : Option DayOf) → IfSome x IsCalendarDay → IfSome y IsCalendarDay → compared int_cmp (option_map number_of_day x) (option_map number_of_day y) ≡ compared day_cmp x y
compared_days None None p q = refl
compared_days None (Some b) p q = refl
compared_days (Some a) None p q = refl
compared_days (Some a) (Some b) p q = ap Some (sym (days_in_order a b p q))

days_among : (x : Option DayOf) (items : List (Option DayOf)) → IfSome x IsCalendarDay → All (λ item. IfSome item IsCalendarDay) items
    → is_among int_cmp (option_map number_of_day x) (map (option_map number_of_day) items) ≡ is_among day_cmp x items
days_among x [] p q = refl
days_among x (i ∷ is) p q =
    ap₂ (λ b c. b || c) (ap is_equal (compared_days x i p (All-head (λ item. IfSome item IsCalendarDay) i is q))) (days_among x is p (All-tail (λ item. IfSome item IsCalendarDay) i is q))

-- ---- dates on a row

numbered_cell : (v : Option CellValue) → option_and_then (row.number_in kind.Date) v ≡ option_map number_of_day (option_and_then day_in v)
numbered_cell None = refl
numbered_cell (Some v) = refl

numbered : (d : DateExprOf) (cells : List CellValue) → number_outcome (number_of_date d) cells ≡ Some (option_map number_of_day (date_outcome d cells))
numbered null_date cells = refl
numbered (date_column place) cells = ap Some (numbered_cell (slice_get cells place))
numbered (date_literal day) cells = refl

pub dates_hold : (o : ComparisonOperator) (a b : DateExprOf) (cells : List CellValue) → IfSome (date_outcome a cells) IsCalendarDay → IfSome (date_outcome b cells) IsCalendarDay
    → truth_outcome (compare_numbers o (number_of_date a) (number_of_date b)) cells ≡ Some (truth_of (holds o (compared day_cmp (date_outcome a cells) (date_outcome b cells))))
dates_hold o a b cells p q =
    let f : Option ℤ → Option ℤ → Truth = λ x y. truth_of (holds o (compared int_cmp x y)) in
    ap₂ (both f) (numbered a cells) (numbered b cells) ∙ ap (λ r. Some (truth_of (holds o r))) (compared_days (date_outcome a cells) (date_outcome b cells) p q)

pub date_is_in : (a : DateExprOf) (items : List (Option DayOf)) (cells : List CellValue) → IfSome (date_outcome a cells) IsCalendarDay → All (λ item. IfSome item IsCalendarDay) items
    → truth_outcome (number_in (number_of_date a) (map (option_map number_of_day) items)) cells ≡ Some (truth_of (is_among day_cmp (date_outcome a cells) items))
date_is_in a items cells p q =
    let f : Option ℤ → Truth = λ x. truth_of (is_among int_cmp x (map (option_map number_of_day) items)) in
    ap (option_map f) (numbered a cells) ∙ ap (λ b. Some (truth_of b)) (days_among (date_outcome a cells) items p q)
