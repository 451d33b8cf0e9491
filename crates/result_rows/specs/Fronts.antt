-- Rows that come before a pivot in an order (OData 4.01 URL Conventions, section 5.1.5).
use Rattle.std.specs.Prelude.{◌≡◌, ◌+◌, ◌<◌, ◌≤◌, ℕ, Bool, true, false, not, List, drop, length, take}
use Rattle.std.specs.List.{prefix_len, AllByRecursion}
use Rattle.std.specs.Ordering.{is_lt}
use Rattle.std.specs.declared.cmp.Ordering.{Ordering}
use Rattle.cell_types.specs.Value.{CellValue}
use Rattle.order_columns.specs.Plain.{columns_cmp}
use Rattle.sort_rows.specs.Runs.{rows_of_run, stream_rows, IsStream}
use Rattle.order_columns.specs.declared.plain.PlainItem.{PlainItem}
use Rattle.sort_rows.specs.declared.streams.Stream.{Stream}
use Rattle.sort_rows.specs.declared.streams.Stream.TheVariants.{Run, Two'}

-- a row is less than a pivot, or ties with it where ties count too
abbrev pub precedes : List PlainItem → List CellValue → Bool → List CellValue → Bool
precedes columns pivot true row = not (is_lt (columns_cmp columns pivot row))
precedes columns pivot false row = is_lt (columns_cmp columns row pivot)

-- the first `n` elements pass a test, and no other does
pub record IsFirstPart {X : Type 0} (test : X → Bool) (xs : List X) (n : ℕ) : Type 0 where
  pub within : n ≤ length xs
  pub front : AllByRecursion (λ x. test x ≡ true) (take n xs)
  pub others : AllByRecursion (λ x. test x ≡ false) (drop n xs)

-- how many of the rows that are left are less than a pivot
abbrev pub less_len : List PlainItem → List (List CellValue) → List CellValue → Stream → ℕ
less_len columns rows pivot (Run run taken) = prefix_len (precedes columns pivot false) (rows_of_run rows (drop taken run.items))
less_len columns rows pivot (Two' p earlier q later first len) = less_len columns rows pivot earlier + less_len columns rows pivot later

-- The first `n` elements are those that are less than a pivot, and after them some that tie with it: none if `ties` is 0, and all if `left` is not.
pub record IsSplitAt {X : Type 0} (cmp : X → X → Ordering) (pivot : X) (ties : ℕ) (xs : List X) (n left : ℕ) : Type 0 where
  pub within : n ≤ length xs
  pub passed : AllByRecursion (λ x. is_lt (cmp pivot x) ≡ false) (take n xs)
  pub others : AllByRecursion (λ x. is_lt (cmp x pivot) ≡ false) (drop n xs)
  pub no_tie : ties ≡ 0 → AllByRecursion (λ x. is_lt (cmp x pivot) ≡ true) (take n xs)
  pub all_ties : 0 < left → AllByRecursion (λ x. is_lt (cmp pivot x) ≡ true) (drop n xs)

-- The rows that are less than a pivot are taken, and of those that tie with it the first ones, at most `ties`: of these `left` are not needed.
pub record PassesFront (columns : List PlainItem) (rows : List (List CellValue)) (pivot : List CellValue) (ties : ℕ) (old new : Stream) (left : ℕ) : Type 0 where
  pub stream : IsStream columns rows new
  pub count : ℕ
  pub count_is : count + left ≡ less_len columns rows pivot old + ties
  pub at_most : left ≤ ties
  pub cut : IsSplitAt (columns_cmp columns) pivot ties (stream_rows columns rows old) count left
  pub rows_are : stream_rows columns rows new ≡ drop count (stream_rows columns rows old)
