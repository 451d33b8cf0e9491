-- The blocks that tests admit, by their summaries.
use Rattle.std.proofs.Common.{◌≡◌, inl, inr, ℕ, suc, zero, ◌+◌, ◌*◌, ◌/◌, ◌<◌, ◌≤◌, Bool, true, false, cond, None, List, [], ◌∷◌, ◌++◌, length, drop, get_or, refl, sym, ap, ◌∙◌, arith, append-nil}
use Rattle.std.specs.Prelude.{count_by, filter, nat_lt, slice_index_or}
use Rattle.std.specs.List.{All, range_with_len}
use Rattle.std.proofs.lemmas.Bool.{cases_lt, lt-ltb}
use Rattle.std.proofs.lemmas.List.{get_or_default, get_or_past, length-drop, length-take, map-id}
use Rattle.std.proofs.lemmas.List.Elements.{All-drop, All-take}
use Rattle.std.proofs.lemmas.List.FromFn.{filter_of_map_range_with_len_more, get_or-range_with_len, length-range_with_len}
use Rattle.std.proofs.lemmas.List.Sums.{length-filter}
use Rattle.block_summary.specs.declared.block.TheConstants.{BLOCK_ROWS}
use Rattle.cell_types.specs.declared.comparison.ComparisonOperator.{ComparisonOperator}
use Rattle.cell_types.specs.declared.comparison.ComparisonOperator.TheVariants.{Equal, NotEqual, GreaterOrEqual, LessOrEqual}
use Rattle.block_summary.specs.Blocks.{block_at, block_count}
use Rattle.block_summary.specs.Laws.{OneRange}
use Rattle.block_summary.specs.Ranges.{RangeOf, column_of, is_null, no_range, range_of, AreAllNull, AreRangesOf}
use Rattle.block_summary.specs.Tests.{admits}
use Rattle.cell_types.specs.Column.{ColumnOf}
use Rattle.cell_types.specs.Value.{CellValue, null}
use Rattle.table_store.specs.Fits.{HasTableRows, IsTableRow}
use Rattle.table_store.specs.Summaries.{AreSummariesOf}
use Rattle.table_store.specs.Table.{TableOf}
use Rattle.query_plan.specs.Scan.{TestOf, admits_all, admitted_blocks, block_numbers}
use Rattle.query_exec.specs.Admitted.{admitted_numbers, null_range, ranges_admit}

-- the numbers so far are those of the first summaries that admit the tests
abbrev pub AreAdmitted : List TestOf → List (List RangeOf) → ℕ → List ℕ → Type 0
AreAdmitted tests summaries i numbers = numbers ≡ filter (λ n. ranges_admit tests (slice_index_or summaries n [])) (range_with_len 0 i)

module _ (tests : List TestOf) (summaries : List (List RangeOf)) (i : ℕ) (ranges : List RangeOf) (numbers : List ℕ) (inside : i < length summaries)
    (at : ranges ≡ get_or summaries i ranges) (so_far : AreAdmitted tests summaries i numbers) where
  one_more : filter (λ n. ranges_admit tests (slice_index_or summaries n [])) (range_with_len 0 (i + 1)) ≡ numbers ++ cond (ranges_admit tests ranges) (i ∷ []) []
  one_more =
      let p : ℕ → Bool = λ n. ranges_admit tests (slice_index_or summaries n []) in
      rw (← (map-id (range_with_len 0 (i + 1))), filter_of_map_range_with_len_more p (λ n. n) 0 i i (omega arith))
      (rw (map-id (range_with_len 0 i), ← so_far, get_or_default summaries i [] ranges inside, ← at) refl)

  pub one_admitted : ranges_admit tests ranges ≡ true → AreAdmitted tests summaries (i + 1) (numbers ++ i ∷ [])
  one_admitted is = rw (one_more, is) refl

  pub one_passed_over : ranges_admit tests ranges ≡ false → AreAdmitted tests summaries (i + 1) numbers
  one_passed_over is = rw (one_more, is) (sym (append-nil numbers))

-- ---- a column that is not there

all_null : (rows : List (List CellValue)) (col : ℕ) → All (λ row. length row ≤ col) rows → AreAllNull (column_of rows col)
all_null [] col short i = refl
all_null (row ∷ rows) col short zero = get_or_past row col null (short 0 row (omega arith))
all_null (row ∷ rows) col short (suc i) = all_null rows col (λ k d h. short (suc k) d (omega (arith, h))) i

first_counts : (v : CellValue) (vs : List CellValue) → v ≡ null → 0 < count_by is_null (v ∷ vs)
first_counts v vs is = rw is (omega (arith, length-filter is_null (null ∷ vs)))

has_nulls : (rows : List (List CellValue)) (col : ℕ) → 0 < length rows → All (λ row. length row ≤ col) rows → 0 < count_by is_null (column_of rows col)
has_nulls [] col some short = absurd (omega (arith, some))
has_nulls (row ∷ rows) col some short = first_counts (slice_index_or row col null) (column_of rows col) (get_or_past row col null (short 0 row (omega arith)))

nulls_admit : (op : ComparisonOperator) (n : ℕ) (v : CellValue) → nat_lt 0 n ≡ true → admits op null_range v ≡ admits op (record { least = None; greatest = None; null_count = n }) v
nulls_admit Equal n null h = sym h
nulls_admit GreaterOrEqual n null h = sym h
nulls_admit LessOrEqual n null h = sym h
nulls_admit NotEqual n null h = refl
nulls_admit NotEqual n v h = rw h refl
nulls_admit op n v h = refl

-- ---- the blocks of a table

module _ (law : OneRange) (ranges : List RangeOf) (rows : List (List CellValue)) (are : AreRangesOf ranges rows) (wide : All (λ row. length row ≡ length ranges) rows)
    (some : 0 < length rows) where
  -- a test is admitted by the ranges of a block just where it is by the cells of its rows
  same_test : (op : ComparisonOperator) (col : ℕ) (literal : CellValue) → admits op (slice_index_or ranges col null_range) literal ≡ admits op (range_of (column_of rows col)) literal
  same_test op col literal = elim (cases_lt col (length ranges)) [
    | inl less ↦
        ap (λ (r : RangeOf). admits op r literal)
        (get_or_default ranges col null_range no_range less ∙ law.one (slice_index_or ranges col no_range) (column_of rows col) (are col less))
    | inr beyond ↦
        let cells = column_of rows col in
        let short : All (λ row. length row ≤ col) rows = λ k d h. let here = wide k d h in omega (arith, here, beyond) in
        let nulls = all_null rows col short in
        ap (λ (r : RangeOf). admits op r literal) (get_or_past ranges col null_range beyond)
        ∙ nulls_admit op (count_by is_null cells) literal (lt-ltb 0 (count_by is_null cells) (has_nulls rows col some short))
        ∙ ap (λ (r : RangeOf). admits op r literal)
        (law.one (record { least = None; greatest = None; null_count = count_by is_null cells }) cells (record { least = nulls; greatest = nulls; null_count = refl }))
  ]

  same_tests : (tests : List TestOf) → ranges_admit tests ranges ≡ admits_all tests rows
  same_tests [] = refl
  same_tests (t ∷ ts) = rw (same_test t.op t.column t.literal, same_tests ts) refl

same_filter : (p q : ℕ → Bool) (ns : List ℕ) → All (λ n. p n ≡ q n) ns → filter p ns ≡ filter q ns
same_filter p q [] each = refl
same_filter p q (n ∷ ns) each = rw (each 0 n (omega arith), same_filter p q ns (λ k d h. each (suc k) d (omega arith))) refl

row_width : (columns : List ColumnOf) (row : List CellValue) → IsTableRow columns row → length row ≡ length columns
row_width [] [] is = refl
row_width (c ∷ columns) (v ∷ row) is = ap suc (row_width columns row is.2)
row_width columns row is = absurd is

inside_rows : (rows number : ℕ) → number < (rows + 4_095) / 4_096 → number * 4_096 < rows
inside_rows rows number h = omega arith

some_rows : (rows : List (List CellValue)) (number : ℕ) → number < block_count (length rows) → 0 < length (block_at rows number)
some_rows rows number h = omega (arith, inside_rows (length rows) number h, length-take BLOCK_ROWS (drop (number * BLOCK_ROWS) rows), length-drop (number * BLOCK_ROWS) rows)

-- the summaries that admit the tests are those of the blocks that do
pub admitted_are : OneRange → (tests : List TestOf) (table : TableOf) (summaries : List (List RangeOf)) → HasTableRows table → AreSummariesOf table summaries
    → admitted_numbers tests summaries ≡ admitted_blocks tests table.rows
admitted_are law tests table summaries fit are =
    let rows = table.rows in
    let columns = table.schema.columns in
    ap (λ n. filter (λ k. ranges_admit tests (slice_index_or summaries k [])) (range_with_len 0 n)) are.count
    ∙ same_filter (λ k. ranges_admit tests (slice_index_or summaries k [])) (λ k. admits_all tests (block_at rows k)) (block_numbers rows)
    (λ k d h.
    let number = get_or (block_numbers rows) k d in
    let inside : k < block_count (length rows) = omega (arith, h, length-range_with_len 0 (block_count (length rows))) in
    let less : number < block_count (length rows) = omega (arith, inside, get_or-range_with_len 0 (block_count (length rows)) k d inside) in
    let count = are.count in
    let known = are.each number (omega (arith, less, count)) in
    let each = All-take (IsTableRow columns) BLOCK_ROWS (drop (number * BLOCK_ROWS) rows) (All-drop (IsTableRow columns) (number * BLOCK_ROWS) rows fit.each) in
    same_tests law (slice_index_or summaries number []) (block_at rows number) known.each
    (λ j e g. row_width columns (get_or (block_at rows number) j e) (each j e g) ∙ sym known.width)
    (some_rows rows number less) tests)
