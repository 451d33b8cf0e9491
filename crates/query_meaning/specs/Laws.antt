-- What holds of the numbers of expressions, and of filters, orders, groups and aggregates.
use Rattle.std.specs.Prelude.{◌≡◌, ◌≢◌, ℕ, ℤ, pos, ◌+ℤ◌, ◌↔◌, ◌++◌, false, List, [], ◌∷◌, Some, None, Ok, length}
use Rattle.std.specs.List.{All, Any, Contains, IsDistinct, flat_map}
use Rattle.std.specs.List.Sorted.{IsPermutation, IsSorted, IsStable}
use Rattle.std.specs.Ordering.{is_lt}
use Rattle.cell_types.specs.Value.{CellValue, null, integer, decimal, value_cmp, value_eq}
use Rattle.odata_parse.specs.Tree.{ExprOf}
use Rattle.typed_trees.specs.TypedTree as typed
use Rattle.typed_trees.specs.TypedTree.{NumberExprOf, TruthExprOf, TypedExprOf}
use Rattle.odata_types.specs.Columns.{InputOf}
use Rattle.odata_types.specs.Input.{IsInput, IsQueried, IsRowOf}
use Rattle.odata_types.specs.Typing.{filter_typing, typing}
use Rattle.row_eval.specs.Bounds.{IsWithin, NumbersFit, TruthFits}
use Rattle.row_eval.specs.declared.truth.Truth.TheVariants.{True}
use Rattle.odata_query.specs.declared.aggregate.Aggregate.{Aggregate}
use Rattle.odata_query.specs.declared.aggregate.Aggregate.TheVariants.{SumOfIntegers, SumOfDecimals, Min, Max, CountDistinct}
use Rattle.row_eval.specs.Outcome.{both, number_outcome, outcome, truth_outcome}
use Rattle.query_meaning.specs.Apply.{computed_value, group_values, rows_of_group, same_values, value_at, values_at}
use Rattle.query_meaning.specs.Filter.{passing}
use Rattle.query_meaning.specs.Order.{Item, ordered, rows_cmp, sorted}

-- Of an expression that fits the columns of an input, each number that is computed on a row of the input fits 128 bits, and a value is not greater in size
-- than its bound.
pub record BoundsHold : Type 0 where
  pub expressions : (inputs : List InputOf) (row : List CellValue) (e : ExprOf) (t : TypedExprOf)
      → IsInput inputs → IsRowOf inputs row → IsQueried e → typing inputs e ≡ Ok t → NumbersFit t row
  pub filters : (inputs : List InputOf) (row : List CellValue) (e : ExprOf) (t : TruthExprOf)
      → IsInput inputs → IsRowOf inputs row → IsQueried e → filter_typing inputs e ≡ Ok t → TruthFits t row
  pub integers : (inputs : List InputOf) (row : List CellValue) (e : ExprOf) (n : NumberExprOf) (bound : ℕ)
      → IsInput inputs → IsRowOf inputs row → IsQueried e → typing inputs e ≡ Ok (typed.integer n bound) → IsWithin bound (number_outcome n row)
  pub decimals : (inputs : List InputOf) (row : List CellValue) (e : ExprOf) (n : NumberExprOf) (bound : ℕ)
      → IsInput inputs → IsRowOf inputs row → IsQueried e → typing inputs e ≡ Ok (typed.decimal n bound) → IsWithin bound (number_outcome n row)

-- A filter has no rows to give just where it divides by zero on some row. Else a row is kept just where it is one of the rows and its outcome is
-- true. What is kept of rows and of rows after them is what is kept of the first, and then what is kept of the others: so the rows that are
-- kept stay in their order, each as often as it was there.
pub record TrueRowsPass : Type 0 where
  pub fault : (e : TruthExprOf) (rows : List (List CellValue)) → (passing e rows ≡ None) ↔ Any (λ row. truth_outcome e row ≡ None) rows
  pub kept : (e : TruthExprOf) (rows kept : List (List CellValue)) (row : List CellValue) → passing e rows ≡ Some kept
      → Contains kept row ↔ (Contains rows row × (truth_outcome e row ≡ Some True))
  pub one : (e : TruthExprOf) (row : List CellValue) → truth_outcome e row ≡ Some True → passing e (row ∷ []) ≡ Some (row ∷ [])
  pub parts : (e : TruthExprOf) (front back : List (List CellValue)) → passing e (front ++ back) ≡ both (λ xs ys. xs ++ ys) (passing e front) (passing e back)

-- An order faults just where an item divides by zero on some row. Else it is the rows, none less than the one before it by the items in turn, and rows that
-- tie as they stood.
pub record RowsAreInOrder : Type 0 where
  pub fault : (items : List Item) (rows : List (List CellValue)) → (ordered items rows ≡ None) ↔ Any (λ row. Any (λ item. outcome item.0 row ≡ None) items) rows
  pub rows : (items : List Item) (rows : List (List CellValue)) → IsPermutation rows (sorted (rows_cmp items) rows)
  pub rising : (items : List Item) (rows : List (List CellValue)) → IsSorted (rows_cmp items) (sorted (rows_cmp items) rows)
  pub stable : (items : List Item) (rows : List (List CellValue)) → IsStable (rows_cmp items) rows (sorted (rows_cmp items) rows)

-- Each row is in one group, that of its own values: no two groups have the same values, and each has a row. A row alone is the group of its values, and of
-- rows and rows after them a group has those of the first, and then those of the others: so its rows stay in their order, each as often as it was there.
-- The groups come by their first rows: those of rows come first, and then those that begin after them. All groups together are the rows.
pub record RowsAreInGroups : Type 0 where
  pub distinct : (places : List ℕ) (rows : List (List CellValue)) → IsDistinct same_values (group_values places rows)
  pub grouped : (places : List ℕ) (rows : List (List CellValue)) (row : List CellValue) → Contains rows row → Contains (group_values places rows) (values_at places row)
  pub filled : (places : List ℕ) (rows : List (List CellValue)) (values : List CellValue) → Contains (group_values places rows) values
      → Any (λ row. values_at places row ≡ values) rows
  pub members : (places : List ℕ) (rows : List (List CellValue)) (values row : List CellValue)
      → Contains (rows_of_group places rows values) row ↔ (Contains rows row × (values ≡ values_at places row))
  pub alone : (places : List ℕ) (row : List CellValue) → rows_of_group places (row ∷ []) (values_at places row) ≡ row ∷ []
  pub parts : (places : List ℕ) (front back : List (List CellValue)) (values : List CellValue)
      → rows_of_group places (front ++ back) values ≡ rows_of_group places front values ++ rows_of_group places back values
  pub first : (places : List ℕ) (front back : List (List CellValue))
      → (later : List (List CellValue)) × (group_values places (front ++ back) ≡ group_values places front ++ later)
  pub one : (places : List ℕ) (rows : List (List CellValue)) → IsPermutation rows (flat_map (rows_of_group places rows) (group_values places rows))

-- two sums together, where null adds nothing
abbrev pub added : CellValue → CellValue → CellValue
added null b = b
added (integer m) (integer n) = integer (m +ℤ n)
added (decimal m) (decimal n) = decimal (m +ℤ n)
added a _ = a

-- The sum of the numbers of a kind in a column: of no rows it is null, of one row the number there, and null where the row has none. Of rows and rows
-- after them it is the sum of the first and the sum of the others, together.
pub record NumbersAddUp (kind : ℤ → CellValue) (sum : ℕ → Aggregate) : Type 0 where
  pub none : (place : ℕ) → computed_value [] (sum place) ≡ null
  pub one : (place : ℕ) (row : List CellValue) (n : ℤ) → value_at row place ≡ kind n → computed_value (row ∷ []) (sum place) ≡ kind n
  pub no_number : (place : ℕ) (row : List CellValue) → ((n : ℤ) → value_at row place ≢ kind n) → computed_value (row ∷ []) (sum place) ≡ null
  pub parts : (place : ℕ) (front back : List (List CellValue))
      → computed_value (front ++ back) (sum place) ≡ added (computed_value front (sum place)) (computed_value back (sum place))

abbrev pub SumsAddUp : Type 0
SumsAddUp = NumbersAddUp integer SumOfIntegers × NumbersAddUp decimal SumOfDecimals

-- some row has the value in the column, and it is not null
abbrev pub StandsInColumn : ℕ → List (List CellValue) → CellValue → Type 0
StandsInColumn place rows v = (v ≢ null) × Any (λ row. value_at row place ≡ v) rows

-- The least and the greatest of a column are null where each row has null there. Else they are values that rows have there, and no value there is below
-- the least or above the greatest.
pub record ExtremesAreValues : Type 0 where
  pub none : (place : ℕ) (rows : List (List CellValue)) → All (λ row. value_at row place ≡ null) rows
      → (computed_value rows (Min place) ≡ null) × (computed_value rows (Max place) ≡ null)
  pub least : (place : ℕ) (rows : List (List CellValue)) (v : CellValue) → StandsInColumn place rows v
      → StandsInColumn place rows (computed_value rows (Min place)) × (is_lt (value_cmp v (computed_value rows (Min place))) ≡ false)
  pub greatest : (place : ℕ) (rows : List (List CellValue)) (v : CellValue) → StandsInColumn place rows v
      → StandsInColumn place rows (computed_value rows (Max place)) × (is_lt (value_cmp (computed_value rows (Max place)) v) ≡ false)

-- The distinct values of a column are those that rows have there, each once, and null is none of them: their count is the length of any list of just these.
abbrev pub DistinctValuesAreCounted : Type 0
DistinctValuesAreCounted = (place : ℕ) (rows : List (List CellValue)) (values : List CellValue) → IsDistinct value_eq values
    → ((v : CellValue) → Contains values v ↔ StandsInColumn place rows v) → computed_value rows (CountDistinct place) ≡ integer (pos (length values))
