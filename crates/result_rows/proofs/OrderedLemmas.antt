-- Rows that are taken one after another.
use Rattle.std.proofs.Common.{◌≡◌, ℕ, zero, suc, ◌<◌, Bool, true, false, Option, Some, None, cond, List, [], ◌∷◌, length, get_or, drop, refl, sym, ap, ◌∙◌, subst, arith}
use Rattle.std.specs.Prelude.{IfSome}
use Rattle.std.specs.List.{list_any, All}
use Rattle.std.specs.List.Sorted.{IsPermutation}
use Rattle.std.proofs.lemmas.List.Sorted.{IsPermutation-refl, length_permutation}
use Rattle.cell_types.specs.Value.{CellValue}
use Rattle.query_meaning.specs.Laws.{RowsAreInOrder}
use Rattle.query_meaning.specs.Order.{Item, order_faults, rows_cmp, sorted}
use Rattle.row_columns.specs.Picked.{numbered}
use Rattle.sort_rows.specs.Runs.{all_sorted, left_rows, AreInItemOrder, AreNumbersLeft, TakesNext}
use Rattle.sort_rows.specs.declared.streams.SortedRows.{SortedRows}
use Rattle.result_rows.specs.Kept.{shown_of, shown_places, AreShownOf}
use Rattle.result_rows.specs.Ordered.{ordered_view, places_shown, rows_in_order, shown_rows, AreOrdered, HasLeft}
use Rattle.result_rows.specs.Rows.{AreReordered, RowsOf}
use Rattle.result_rows.specs.Selected.{selected_rows}
use Rattle.result_rows.specs.declared.kept.Kept.{Kept}
use Rattle.result_rows.specs.declared.ordered.OrderedRows.TheInside.{Inside}
use Rattle.result_rows.proofs.SelectedLemmas.{as_many_rows, selected_moved, selected_numbers, selected_row_is}

-- ---- what is left of a list

first_left : {X : Type 0} (xs : List X) (n : ℕ) (x d : X) (rest : List X) → drop n xs ≡ x ∷ rest → get_or xs n d ≡ x
first_left [] zero x d rest e = absurd (cc)
first_left [] (suc n) x d rest e = absurd (cc)
first_left (y ∷ xs) zero x d rest e = cc
first_left (y ∷ xs) (suc n) x d rest e = first_left xs n x d rest e

rest_left : {X : Type 0} (xs : List X) (n : ℕ) (x : X) (rest : List X) → drop n xs ≡ x ∷ rest → rest ≡ drop (suc n) xs
rest_left [] zero x rest e = absurd (cc)
rest_left [] (suc n) x rest e = absurd (cc)
rest_left (y ∷ xs) zero x rest e = cc
rest_left (y ∷ xs) (suc n) x rest e = rest_left xs n x rest e

some_left : {X : Type 0} (xs : List X) (n : ℕ) → n < length xs → drop n xs ≡ [] → ⊥
some_left [] n h e = omega (arith, h)
some_left (y ∷ xs) zero h e = absurd (cc)
some_left (y ∷ xs) (suc n) h e = some_left xs n (omega (arith, h)) e

-- ---- rows in order

pub moved : (order : Option SortedRows) (rows : List (List CellValue)) (taken : ℕ) → HasLeft order rows taken → IsPermutation rows (rows_in_order order rows)
moved None rows taken has = IsPermutation-refl rows
moved (Some order) rows taken has = has.2

pub as_many : (order : Option SortedRows) (rows : List (List CellValue)) (taken : ℕ) → HasLeft order rows taken → length rows ≡ length (rows_in_order order rows)
as_many order rows taken has = sym (length_permutation rows (rows_in_order order rows) (moved order rows taken has))

made_is : (b : Bool) (rows made : List (List CellValue)) → cond b None (Some rows) ≡ Some made → rows ≡ made
made_is true rows made e = absurd (cc)
made_is false rows made e = cc

pub all_left : RowsAreInOrder → (items : List Item) (rows : List (List CellValue)) (order : SortedRows) → AreInItemOrder items rows order → HasLeft (Some order) rows 0
all_left law items rows order are =
    let same : sorted (rows_cmp items) rows ≡ all_sorted order rows =
    made_is (list_any (order_faults items) rows) (sorted (rows_cmp items) rows) (all_sorted order rows) are.rows_are in
    (are.sorted_rows, are.left_are, subst (IsPermutation rows) same (law.rows items rows))

-- ---- the columns that are shown

-- rows that are shown are those that are put in order, in another order
pub shown_moved : (inside : Inside) → AreOrdered inside → AreReordered (ordered_view inside).stored (ordered_view inside).rows
shown_moved inside are = record {
  names = refl;
  moved =
      subst (λ rows. IsPermutation rows (ordered_view inside).rows.rows) (sym are.shown)
      (selected_moved (places_shown inside.shown) inside.rows.rows (rows_in_order inside.order inside.rows.rows) (moved inside.order inside.rows.rows inside.taken are.left));
}

pub as_many_shown : (inside : Inside) → AreOrdered inside → length inside.rows.rows ≡ length (ordered_view inside).rows.rows
as_many_shown inside are =
    as_many inside.order inside.rows.rows inside.taken are.left ∙ sym (as_many_rows (places_shown inside.shown) (rows_in_order inside.order inside.rows.rows))

pub is_left : (inside : Inside) → inside.taken < length (ordered_view inside).rows.rows → inside.taken < length (rows_in_order inside.order inside.rows.rows)
is_left inside more = let many = as_many_rows (places_shown inside.shown) (rows_in_order inside.order inside.rows.rows) in omega (arith, more, many)

-- a number of one of the rows is that of one that is shown
pub within_shown : (inside : Inside) (number : ℕ) → AreOrdered inside → number < length inside.rows.rows → number < length (ordered_view inside).stored.rows
within_shown inside number are h =
    let many = as_many_rows (places_shown inside.shown) inside.rows.rows in
    let long = ap length are.shown in
    omega (arith, h, many, long)

-- and that is the next one, where the row is
pub next_shown : (inside : Inside) (number : ℕ) → AreOrdered inside → number < length inside.rows.rows → inside.taken < length (rows_in_order inside.order inside.rows.rows)
    → get_or inside.rows.rows number [] ≡ get_or (rows_in_order inside.order inside.rows.rows) inside.taken []
    → get_or (ordered_view inside).stored.rows number [] ≡ get_or (ordered_view inside).rows.rows inside.taken []
next_shown inside number are h more is =
    ap (λ rows. get_or rows number []) are.shown
    ∙ selected_row_is (places_shown inside.shown) inside.rows.rows (rows_in_order inside.order inside.rows.rows) number inside.taken h more is

-- rows with these numbers, as they are shown
pub numbers_within : (inside : Inside) (numbers : List ℕ) → AreOrdered inside → All (λ n. n < length inside.rows.rows) numbers
    → All (λ n. n < length (shown_rows inside.rows inside.shown).rows) numbers
numbers_within inside numbers are within =
    subst (λ long. All (λ n. n < long) numbers) (sym (ap length are.shown ∙ as_many_rows (places_shown inside.shown) inside.rows.rows)) within

pub numbers_shown : (inside : Inside) (left : List (List CellValue)) (numbers : List ℕ) → AreOrdered inside → AreNumbersLeft inside.rows.rows left numbers
    → numbered numbers (shown_rows inside.rows inside.shown).rows ≡ selected_rows (places_shown inside.shown) left
numbers_shown inside left numbers are is =
    ap (numbered numbers) are.shown ∙ selected_numbers (places_shown inside.shown) inside.rows.rows numbers is.within ∙ ap (selected_rows (places_shown inside.shown)) is.rows_are

abbrev pub rows_counted : Option ℕ → List (List ℕ) → List (List CellValue) → RowsOf
rows_counted count names rows = record { names = names; rows = rows; count = count }

-- columns that are shown of rows
pub shown_rows_are : (rows : RowsOf) (shown : Option Kept) → IfSome shown (AreShownOf rows.rows) → (shown_of rows shown).rows ≡ selected_rows (shown_places shown) rows.rows
shown_rows_are rows None are = refl
shown_rows_are rows (Some shown) are = are.rows_are

-- ---- a row is taken

pub takes : (rows : List (List CellValue)) (old new : SortedRows) (taken number : ℕ) → HasLeft (Some old) rows taken → TakesNext rows old new (Some number)
    → get_or rows number [] ≡ get_or (all_sorted old rows) taken []
takes rows old new taken number has next = sym (first_left (all_sorted old rows) taken _ [] (left_rows new rows) (sym has.1 ∙ next.1))

pub leaves : (rows : List (List CellValue)) (old new : SortedRows) (taken number : ℕ) → HasLeft (Some old) rows taken → TakesNext rows old new (Some number) → HasLeft (Some new) rows (suc taken)
leaves rows old new taken number has next = (
  next.2,
  rest_left (all_sorted old rows) taken _ (left_rows new rows) (sym has.1 ∙ next.1) ∙ ap (drop (suc taken)) (sym next.3),
  subst (IsPermutation rows) (sym next.3) has.2,
)

pub not_ended : (rows : List (List CellValue)) (old : SortedRows) (taken : ℕ) → HasLeft (Some old) rows taken → taken < length (all_sorted old rows) → left_rows old rows ≡ [] → ⊥
not_ended rows old taken has h none = some_left (all_sorted old rows) taken h (sym has.1 ∙ none)
