-- The order of rows by items.
use Rattle.std.proofs.Common.{◌≡◌, ◌↔◌, Bool, true, false, cond, Option, Some, None, List, [], ◌∷◌, refl, ap}
use Rattle.std.specs.Prelude.{is_none}
use Rattle.std.specs.Cmp.{IsTotalOrder, IsStrictWeakOrder, then_total, on_total, back_total}
use Rattle.std.specs.List.{Any, list_any}
use Rattle.std.specs.List.Sorted.{IsSorted, IsStable}
use Rattle.std.specs.Ordering.{is_lt}
use Rattle.std.proofs.lemmas.Bool.{false≢true}
use Rattle.std.proofs.lemmas.List.Folds.{Any-from_list_any, list_any-from_Any}
use Rattle.std.proofs.lemmas.List.Sorted.{ranks_by}
use Rattle.cell_types.specs.Value.{CellValue, value_cmp}
use Rattle.row_eval.specs.Outcome.{outcome}
use Rattle.cell_types.proofs.CaseLaws.{cond-None_none}
use Rattle.query_meaning.specs.Order.{Item, directed, item_value, order_faults, ordered, rows_cmp, sorted}
use Rattle.query_meaning.proofs.SortLemmas.{sorted_in_order, sorted_stable}

module _ (values : IsTotalOrder value_cmp) where
  directed_total : (descending : Bool) → IsTotalOrder (directed descending)
  directed_total false = values
  directed_total true = back_total values

  rows_total : (items : List Item) → IsTotalOrder (rows_cmp items)
  rows_total [] = record { antisymm = λ x y. refl; trans = λ x y z p q. p; congr = λ x y z e. refl }
  rows_total (item ∷ items) = then_total (on_total (item_value item) (directed_total item.1)) (rows_total items)

  rows_order : (items : List Item) → IsStrictWeakOrder (λ a b. is_lt (rows_cmp items a b))
  rows_order items = ranks_by (rows_total items) (λ row. row)

  pub rising : (items : List Item) (rows : List (List CellValue)) → IsSorted (rows_cmp items) (sorted (rows_cmp items) rows)
  rising items rows = sorted_in_order (rows_cmp items) (rows_order items) rows

  pub stable : (items : List Item) (rows : List (List CellValue)) → IsStable (rows_cmp items) rows (sorted (rows_cmp items) rows)
  stable items rows = sorted_stable (rows_cmp items) (rows_order items) rows

-- ---- a division by zero

none_is : (o : Option CellValue) → is_none o ≡ true → o ≡ None
none_is None e = refl
none_is (Some v) e = absurd (false≢true e)

some_item : (items : List Item) (row : List CellValue) → Any (λ item. is_none (outcome item.0 row) ≡ true) items → Any (λ item. outcome item.0 row ≡ None) items
some_item items row (k, item, h, is, f) = (k, item, h, is, none_is (outcome item.0 row) f)

some_fault : (items : List Item) (row : List CellValue) → Any (λ item. outcome item.0 row ≡ None) items → Any (λ item. is_none (outcome item.0 row) ≡ true) items
some_fault items row (k, item, h, is, f) = (k, item, h, is, ap is_none f)

any_none : (items : List Item) (rows : List (List CellValue)) → Any (λ row. order_faults items row ≡ true) rows → Any (λ row. Any (λ item. outcome item.0 row ≡ None) items) rows
any_none items rows (k, row, h, is, f) = (k, row, h, is, some_item items row (Any-from_list_any (λ item. is_none (outcome item.0 row)) items f))

any_fault : (items : List Item) (rows : List (List CellValue)) → Any (λ row. Any (λ item. outcome item.0 row ≡ None) items) rows → Any (λ row. order_faults items row ≡ true) rows
any_fault items rows (k, row, h, is, f) = (k, row, h, is, list_any-from_Any (λ item. is_none (outcome item.0 row)) items (some_fault items row f))

pub fault : (items : List Item) (rows : List (List CellValue)) → (ordered items rows ≡ None) ↔ Any (λ row. Any (λ item. outcome item.0 row ≡ None) items) rows
fault items rows = (
  λ none. any_none items rows (Any-from_list_any (order_faults items) rows (cond-None_none (list_any (order_faults items) rows) (sorted (rows_cmp items) rows) none)),
  λ any. ap (λ b. cond b None (Some (sorted (rows_cmp items) rows))) (list_any-from_Any (order_faults items) rows (any_fault items rows any)),
)
