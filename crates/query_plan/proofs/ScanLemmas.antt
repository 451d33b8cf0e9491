-- What a scan reads.
use Rattle.std.proofs.Common.{◌≡◌, inl, inr, ℕ, zero, suc, ◌+◌, ◌*◌, ◌-◌, ◌/◌, ◌<◌, ◌≤◌, Bool, true, false, ◌&&◌, cond, eqb, Option, Some, None, List, [], ◌∷◌, ◌++◌, length, take, drop, get_or, refl, sym, ap, ◌∙◌, arith}
use Rattle.std.specs.Prelude.{count_by, filter}
use Rattle.std.specs.List.{All, range_with_len}
use Rattle.std.proofs.Math.Seq.{take-add}
use Rattle.std.proofs.lemmas.Bool.{and_parts, cases_Bool, true≢false}
use Rattle.std.proofs.lemmas.List.{drop-drop, length-append, take_all}
use Rattle.std.proofs.lemmas.List.Elements.{All-append, All-drop, All-nil, All-take}
use Rattle.block_summary.specs.declared.block.TheConstants.{BLOCK_ROWS}
use Rattle.block_summary.specs.Blocks.{block_at, block_count}
use Rattle.block_summary.specs.Laws.{OneRange, SkipsNothing}
use Rattle.block_summary.specs.Ranges.{column_of, range_of}
use Rattle.block_summary.specs.Tests.{admits}
use Rattle.cell_types.specs.Value.{CellValue, null}
use Rattle.typed_trees.specs.TypedTree.{TruthExprOf}
use Rattle.odata_types.specs.Input.{IsTableRow}
use Rattle.query_plan.specs.Laws.{BareScansReadAll, ScansReadTableRows, UnadmittedBlocksPassNone}
use Rattle.query_plan.specs.Scan.{TestOf, admits_all, admitted_blocks, bare, block_numbers, passes_test, passes_tests, reached, read_blocks, rows_of_blocks, up_to}
use Rattle.query_meaning.specs.Filter.{passes_each}

abbrev Row : Type 0
Row = List CellValue

-- ---- all blocks have all rows

pieces : (rows : List Row) (first count : ℕ) → rows_of_blocks rows (range_with_len first count) ≡ take (count * BLOCK_ROWS) (drop (first * BLOCK_ROWS) rows)
pieces rows first zero = let none : 0 ≡ 0 * BLOCK_ROWS = omega arith in ap (λ n. take n (drop (first * BLOCK_ROWS) rows)) none
pieces rows first (suc count) =
    let behind : (first + 1) * BLOCK_ROWS ≡ first * BLOCK_ROWS + BLOCK_ROWS = omega arith in
    let more : BLOCK_ROWS + count * BLOCK_ROWS ≡ suc count * BLOCK_ROWS = omega arith in
    let from = drop (first * BLOCK_ROWS) rows in
    ap (λ xs. take BLOCK_ROWS from ++ xs) (pieces rows (first + 1) count
    ∙ ap (λ n. take (count * BLOCK_ROWS) (drop n rows)) behind
    ∙ ap (take (count * BLOCK_ROWS)) (sym (drop-drop BLOCK_ROWS (first * BLOCK_ROWS) rows)))
    ∙ sym (take-add BLOCK_ROWS (count * BLOCK_ROWS) from)
    ∙ ap (λ n. take n from) more

enough : (rows : ℕ) → rows ≤ (rows + 4_095) / 4_096 * 4_096
enough rows = omega arith

pub all_rows : (rows : List Row) → rows_of_blocks rows (block_numbers rows) ≡ rows
all_rows rows =
    let start : 0 * BLOCK_ROWS ≡ 0 = omega arith in
    pieces rows 0 (block_count (length rows))
    ∙ ap (λ n. take (block_count (length rows) * BLOCK_ROWS) (drop n rows)) start
    ∙ take_all (block_count (length rows) * BLOCK_ROWS) rows (enough (length rows))

pub no_test_fails : (rows : List Row) (numbers : List ℕ) → filter (λ number. admits_all [] (block_at rows number)) numbers ≡ numbers
no_test_fails rows [] = refl
no_test_fails rows (number ∷ numbers) = ap (λ ns. number ∷ ns) (no_test_fails rows numbers)

pub bare_blocks : (conditions : List TruthExprOf) (rows : List Row) → read_blocks bare conditions rows ≡ block_numbers rows
bare_blocks conditions rows = no_test_fails rows (block_numbers rows)

pub bare_rows : (conditions : List TruthExprOf) (rows : List Row) → rows_of_blocks rows (read_blocks bare conditions rows) ≡ rows
bare_rows conditions rows = ap (rows_of_blocks rows) (bare_blocks conditions rows) ∙ all_rows rows

pub bare_scans_read_all : BareScansReadAll
bare_scans_read_all = record { blocks = bare_blocks; rows = all_rows }

-- ---- the rows that are read are rows of the table

module _ (rows : List Row) where
  pub few_admitted : (p : ℕ → Bool) (numbers : List ℕ) → length (rows_of_blocks rows (filter p numbers)) ≤ length (rows_of_blocks rows numbers)
  few_admitted p [] = omega arith
  few_admitted p (number ∷ numbers) =
      let kept = length-append (block_at rows number) (rows_of_blocks rows (filter p numbers)) in
      let all = length-append (block_at rows number) (rows_of_blocks rows numbers) in
      elim (cases_Bool (p number)) [
        | inl e ↦ rw e (omega (arith, kept, all, few_admitted p numbers))
        | inr e ↦ rw e (omega (arith, all, few_admitted p numbers))
      ]

  few_reached : (conditions : List TruthExprOf) (room : ℕ) (numbers : List ℕ) → length (rows_of_blocks rows (reached conditions room rows numbers)) ≤ length (rows_of_blocks rows numbers)
  few_reached conditions room [] = omega arith
  few_reached conditions room (number ∷ numbers) =
      let more = reached conditions (room - count_by (passes_each conditions) (block_at rows number)) rows numbers in
      let kept = length-append (block_at rows number) (rows_of_blocks rows more) in
      let all = length-append (block_at rows number) (rows_of_blocks rows numbers) in
      let fewer : length (rows_of_blocks rows more) ≤ length (rows_of_blocks rows numbers) = few_reached conditions (room - count_by (passes_each conditions) (block_at rows number)) numbers in
      elim (cases_Bool (eqb room 0)) [
        | inl e ↦ rw e (omega arith)
        | inr e ↦ rw e (omega (arith, kept, all, fewer))
      ]

  few_up_to : (stop : Option ℕ) (conditions : List TruthExprOf) (numbers : List ℕ) → length (rows_of_blocks rows (up_to stop conditions rows numbers)) ≤ length (rows_of_blocks rows numbers)
  few_up_to None conditions numbers = omega arith
  few_up_to (Some room) conditions numbers = few_reached conditions room numbers

  each_row : (P : Row → Type 0) → All P rows → (numbers : List ℕ) → All P (rows_of_blocks rows numbers)
  each_row P all [] = All-nil P
  each_row P all (number ∷ numbers) =
      All-append P (block_at rows number) (rows_of_blocks rows numbers) (All-take P BLOCK_ROWS (drop (number * BLOCK_ROWS) rows) (All-drop P (number * BLOCK_ROWS) rows all))
      (each_row P all numbers)

pub scans_read_table_rows : ScansReadTableRows
scans_read_table_rows schema scan conditions rows are =
    let admitted = admitted_blocks scan.tests rows in
    let few = few_up_to rows scan.stop conditions admitted in
    let fewer = few_admitted rows (λ number. admits_all scan.tests (block_at rows number)) (block_numbers rows) in
    let whole : length (rows_of_blocks rows (block_numbers rows)) ≡ length rows = ap length (all_rows rows) in
    record {
      each = each_row rows (IsTableRow schema.columns) are.each (read_blocks scan conditions rows);
      count = omega (arith, few, fewer, whole, are.count);
    }

-- ---- blocks that are not admitted

pub false_unless : (a b : Bool) → (a ≡ true → b ≡ true) → b ≡ false → a ≡ false
false_unless false b f h = refl
false_unless true b f h = sym (f refl) ∙ h

pub none_here : (b : Bool) (row : Row) (rows : List Row) → cond b (row ∷ rows) rows ≡ [] → b ≡ false
none_here true row rows h = cc
none_here false row rows h = refl

pub none_there : (b : Bool) (row : Row) (rows : List Row) → cond b (row ∷ rows) rows ≡ [] → rows ≡ []
none_there true row rows h = cc
none_there false row rows h = h

-- what passes p passes q, and nothing passes q
pub none_of_less : (p q : Row → Bool) → ((row : Row) → p row ≡ true → q row ≡ true) → (rows : List Row) → filter q rows ≡ [] → filter p rows ≡ []
none_of_less p q f [] h = refl
none_of_less p q f (row ∷ rows) h =
    let fails : p row ≡ false = false_unless (p row) (q row) (f row) (none_here (q row) row (filter q rows) h) in
    rw fails (none_of_less p q f rows (none_there (q row) row (filter q rows) h))

none_passes : (t : TestOf) (rows : List Row)
    → ((i : ℕ) → i < length (column_of rows t.column) → passes_test (get_or (column_of rows t.column) i null ∷ []) (record t { column = 0 }) ≡ false)
    → filter (λ row. passes_test row t) rows ≡ []
none_passes t [] each = refl
none_passes t (row ∷ rows) each =
    let fails : passes_test row t ≡ false = each 0 (omega arith) in
    rw fails (none_passes t rows (λ i h. each (suc i) (omega (arith, h))))

pub none_unadmitted : OneRange → SkipsNothing → UnadmittedBlocksPassNone
none_unadmitted range skips [] rows h = absurd (true≢false h)
none_unadmitted range skips (t ∷ tests) rows h =
    let cells = column_of rows t.column in
    elim (cases_Bool (admits t.op (range_of cells) t.literal)) [
      | inl e ↦
          none_of_less (passes_tests (t ∷ tests)) (passes_tests tests) (λ row h. (and_parts (passes_test row t) (passes_tests tests row) h).1) rows
          (none_unadmitted range skips tests rows (sym (ap (λ b. b && admits_all tests rows) e) ∙ h))
      | inr e ↦
          none_of_less (passes_tests (t ∷ tests)) (λ row. passes_test row t) (λ row h. (and_parts (passes_test row t) (passes_tests tests row) h).0) rows
          (none_passes t rows (skips t.op (range_of cells) cells t.literal (range.made cells) e))
    ]
