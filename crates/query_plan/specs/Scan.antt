-- What a plan reads of a table: blocks of rows, each with a summary, which is the range of each column.
use Rattle.std.specs.Prelude.{ℕ, ◌-◌, ◌==◌, ◌&&◌, Bool, List, [], ◌∷◌, Option, Some, None, count_by, filter, if◌then◌else◌, is_none, length, map, slice_index_or}
use Rattle.std.specs.List.{flat_map, list_all, range_with_len}
use Rattle.cell_types.specs.Value.{CellValue, null, value_view}
use Rattle.cell_types.specs.declared.comparison.ComparisonOperator.{ComparisonOperator}
use Rattle.block_summary.specs.Blocks.{block_at, block_count}
use Rattle.block_summary.specs.Ranges.{column_of, range_of}
use Rattle.block_summary.specs.Tests.{admits, test_passes as passes_comparison}
use Rattle.typed_trees.specs.TypedTree.{TruthExprOf}
use Rattle.query_plan.specs.declared.scan.ColumnTest.{ColumnTest}
use Rattle.query_plan.specs.declared.scan.Scan.{Scan}
use Rattle.query_meaning.specs.Filter.{passes_each}

-- a column, by its number, compared with a literal
pub record TestOf : Type 0 where
  pub column : ℕ
  pub op : ComparisonOperator
  pub literal : CellValue

abbrev pub test_view : ColumnTest → TestOf
test_view t = record { column = t.column; op = t.test.op; literal = value_view t.test.literal }

-- tests of the summaries, and of how many rows that pass the conditions of the plan the last is looked for
pub record ScanOf : Type 0 where
  pub tests : List TestOf
  pub stop : Option ℕ

abbrev pub scan_view : Scan → ScanOf
scan_view scan = record { tests = map test_view scan.tests.items; stop = scan.stop }

-- the scan that reads every block
abbrev pub bare : ScanOf
bare = record { tests = []; stop = None }

abbrev pub is_bare : ScanOf → Bool
is_bare scan = (length scan.tests == 0) && is_none scan.stop

-- ---- blocks that are admitted

-- the cell of the row passes the test
abbrev pub passes_test : List CellValue → TestOf → Bool
passes_test row t = passes_comparison t.op (slice_index_or row t.column null) t.literal

abbrev pub passes_tests : List TestOf → List CellValue → Bool
passes_tests tests row = list_all (passes_test row) tests

-- the summary of these rows admits all tests
abbrev pub admits_all : List TestOf → List (List CellValue) → Bool
admits_all tests rows = list_all (λ t. admits t.op (range_of (column_of rows t.column)) t.literal) tests

-- the numbers of the blocks of a table
abbrev pub block_numbers : List (List CellValue) → List ℕ
block_numbers rows = range_with_len 0 (block_count (length rows))

abbrev pub admitted_blocks : List TestOf → List (List CellValue) → List ℕ
admitted_blocks tests rows = filter (λ number. admits_all tests (block_at rows number)) (block_numbers rows)

-- ---- blocks up to a stop

-- Of blocks those up to that of the row that is number `room` among the rows that pass the conditions, counted from 1: a block is reached
-- where fewer than `room` rows of the blocks before it pass.
abbrev pub reached : List TruthExprOf → ℕ → List (List CellValue) → List ℕ → List ℕ
reached conditions room rows [] = []
reached conditions room rows (number ∷ numbers) =
    if room == 0 then []
    else number ∷ reached conditions (room - count_by (passes_each conditions) (block_at rows number)) rows numbers

abbrev pub up_to : Option ℕ → List TruthExprOf → List (List CellValue) → List ℕ → List ℕ
up_to None conditions rows numbers = numbers
up_to (Some room) conditions rows numbers = reached conditions room rows numbers

-- the blocks that a scan reads for conditions, in order
abbrev pub read_blocks : ScanOf → List TruthExprOf → List (List CellValue) → List ℕ
read_blocks scan conditions rows = up_to scan.stop conditions rows (admitted_blocks scan.tests rows)

-- the rows of blocks
abbrev pub rows_of_blocks : List (List CellValue) → List ℕ → List (List CellValue)
rows_of_blocks rows numbers = flat_map (block_at rows) numbers
