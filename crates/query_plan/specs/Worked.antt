-- What some queries ask of the summaries of blocks, and the blocks that they need, on a table of three cities and one of four prices.
use Rattle.std.specs.Prelude.{◌≡◌, ℕ, pos, neg_ℤ, true, List, [], ◌∷◌, codes, length, Option, Some}
use Rattle.block_summary.specs.Blocks.{block_at}
use Rattle.block_summary.specs.Ranges.{column_of, range_of}
use Rattle.cell_types.specs.Value.{CellValue, null, integer, text, boolean, date, decimal}
use Rattle.cell_types.specs.declared.comparison.ComparisonOperator.{ComparisonOperator}
use Rattle.cell_types.specs.declared.comparison.ComparisonOperator.TheVariants.{Equal, NotEqual, GreaterThan, GreaterOrEqual, LessThan, LessOrEqual}
use Rattle.cell_types.specs.declared.kind.NumberKind.TheVariants as numbers
use Rattle.typed_trees.specs.TypedTree as typed
use Rattle.typed_trees.specs.TypedTree.{NumberExprOf, TruthExprOf, number_of_date}
use Rattle.odata_query.specs.Aggregate.{filter_rows, group_rows}
use Rattle.odata_query.specs.Query.{TypedOf}
use Rattle.query_plan.specs.Needed.{needed_blocks, pushed_tests}
use Rattle.query_plan.specs.Scan.{TestOf}
use Rattle.query_meaning.specs.Worked.{cities, every, pop, beyond, populous, never_counted, divided}

-- a comparison of `Pop` and one of `Price` with a literal
abbrev pub pop_is : ComparisonOperator → NumberExprOf → TruthExprOf
pop_is operator literal = typed.compare_numbers operator (typed.number_column numbers.Integer 2) literal

abbrev pub price_is : NumberExprOf → TruthExprOf
price_is literal = typed.compare_numbers GreaterThan (typed.number_column numbers.Decimal 1) literal

-- `Name eq 'Oslo'`
abbrev pub in_oslo : TruthExprOf
in_oslo = typed.compare_texts Equal (typed.text_column 1) (typed.text_literal (codes "Oslo"))

abbrev pub five : NumberExprOf
five = typed.number_literal (pos 5)

-- a test of the column with a number
abbrev pub test : ℕ → ComparisonOperator → CellValue → TestOf
test column op literal = record { column = column; op = op; literal = literal }

-- what is asked of the summaries for `$filter` with a condition
abbrev pub Pushes : TruthExprOf → List TestOf → Type 0
Pushes e tests = pushed_tests (record every { filter = Some e }) ≡ tests

pub record WorkedTests : Type 0 where
  -- `Pop eq 5`, `Pop ne 5`, `Pop gt 5`, `Pop ge 5`, `Pop lt 5`, `Pop le 5`
  pub equal : Pushes (pop_is Equal five) (test 2 Equal (integer (pos 5)) ∷ [])
  pub not_equal : Pushes (pop_is NotEqual five) (test 2 NotEqual (integer (pos 5)) ∷ [])
  pub greater : Pushes (pop_is GreaterThan five) (test 2 GreaterThan (integer (pos 5)) ∷ [])
  pub at_least : Pushes (pop_is GreaterOrEqual five) (test 2 GreaterOrEqual (integer (pos 5)) ∷ [])
  pub less : Pushes (pop_is LessThan five) (test 2 LessThan (integer (pos 5)) ∷ [])
  pub at_most : Pushes (pop_is LessOrEqual five) (test 2 LessOrEqual (integer (pos 5)) ∷ [])
  -- `Pop gt -5` and `Pop eq null`
  pub below_zero : Pushes (pop_is GreaterThan (typed.negated five)) (test 2 GreaterThan (integer (neg_ℤ (pos 5))) ∷ [])
  pub of_null : Pushes never_counted (test 2 Equal null ∷ [])
  -- `Name eq 'Oslo'`, `Open eq true`, `Since lt 2024-02-29`
  pub of_text : Pushes in_oslo (test 1 Equal (text (codes "Oslo")) ∷ [])
  pub of_truth : Pushes (typed.compare_truths Equal (typed.truth_column 3) (typed.truth_literal true)) (test 3 Equal (boolean true) ∷ [])
  pub of_date : Pushes (typed.compare_numbers LessThan (number_of_date (typed.date_column 4)) (number_of_date (typed.date_literal (record { year = pos 2024; month = 2; day = 29 }))))
      (test 4 LessThan (date (pos 2024) 2 29) ∷ [])
  -- of the prices `Price gt 2.5`, `Price gt -2.5` and `Price gt 10`
  pub of_decimal : Pushes (price_is (typed.number_literal (pos 2_500_000))) (test 1 GreaterThan (decimal (pos 2_500_000)) ∷ [])
  pub below_zero_too : Pushes (price_is (typed.negated (typed.number_literal (pos 2_500_000)))) (test 1 GreaterThan (decimal (neg_ℤ (pos 2_500_000))) ∷ [])
  pub whole : Pushes (price_is (typed.scaled (typed.number_literal (pos 10)))) (test 1 GreaterThan (decimal (pos 10_000_000)) ∷ [])
  -- `Pop gt Id`, `5 lt Pop` and `not (Pop gt 5)`
  pub of_columns : Pushes (pop_is GreaterThan (typed.number_column numbers.Integer 0)) []
  pub turned : Pushes (typed.compare_numbers LessThan five (typed.number_column numbers.Integer 2)) []
  pub opposite : Pushes (typed.negation populous) []
  -- `Pop gt 5 and Name eq 'Oslo'`, `Pop gt 5 or Name eq 'Oslo'`, and `Pop gt 5 and 10 div (Id sub 1) gt 0`, which may divide by zero
  pub joined : Pushes (typed.conjunction populous in_oslo) (test 2 GreaterThan (integer (pos 5)) ∷ test 1 Equal (text (codes "Oslo")) ∷ [])
  pub either : Pushes (typed.disjunction populous in_oslo) []
  pub faulty : Pushes (typed.conjunction populous divided) []
  -- `$apply=filter(Id gt 9)&$filter=Pop gt 5`, and `$apply=groupby((Id))&$filter=Id gt 9`
  pub applied : pushed_tests (record every { apply = filter_rows beyond ∷ []; filter = Some populous })
      ≡ test 0 GreaterThan (integer (pos 9)) ∷ test 2 GreaterThan (integer (pos 5)) ∷ []
  pub grouped : pushed_tests (record every { apply = group_rows (0 ∷ []) [] ∷ []; filter = Some beyond }) ≡ []

-- ---- blocks

-- the greatest value of the first column in the block with a number
abbrev pub greatest_in : List (List CellValue) → ℕ → Option CellValue
greatest_in rows block = (range_of (column_of (block_at rows block) 0)).greatest

-- what a query needs of any table of 10,000 rows, which are three blocks
abbrev pub Needs : TypedOf → List ℕ → Type 0
Needs q blocks = (rows : List (List CellValue)) → length rows ≡ 10_000 → needed_blocks q rows ≡ blocks

pub record WorkedBlocks : Type 0 where
  -- `$top=5`, `$skip=4096&$top=1` and `$top=0`
  pub first : Needs (record every { top = Some 5 }) (0 ∷ [])
  pub skipped : Needs (record every { skip = 4_096; top = Some 1 }) (0 ∷ 1 ∷ [])
  pub none : Needs (record every { top = Some 0 }) []
  -- `$orderby=Pop desc&$top=1` and `$count=true&$top=5`
  pub ordered : Needs (record every { order = (pop, true) ∷ []; top = Some 1 }) (0 ∷ 1 ∷ 2 ∷ [])
  pub counted : Needs (record every { count = true; top = Some 5 }) (0 ∷ 1 ∷ 2 ∷ [])
  -- `$filter=10 div (Id sub 1) gt 0&$top=0`
  pub faulty : Needs (record every { filter = Some divided; top = Some 0 }) (0 ∷ 1 ∷ 2 ∷ [])
  -- `$filter=Id gt 9`, where the greatest `Id` of the three blocks is 12, 9 and 10
  pub filtered : (rows : List (List CellValue)) → length rows ≡ 10_000 → greatest_in rows 0 ≡ Some (integer (pos 12)) → greatest_in rows 1 ≡ Some (integer (pos 9))
      → greatest_in rows 2 ≡ Some (integer (pos 10)) → needed_blocks (record every { filter = Some beyond }) rows ≡ 0 ∷ 2 ∷ []
  -- of the three cities: `Id gt 9`, `Pop gt 5`, `Pop eq null`, and `Id gt 9 and 10 div (Id sub 1) gt 0`
  pub ruled_out : needed_blocks (record every { filter = Some beyond }) cities ≡ []
  pub greater : needed_blocks (record every { filter = Some populous }) cities ≡ 0 ∷ []
  pub unknown : needed_blocks (record every { filter = Some never_counted }) cities ≡ 0 ∷ []
  pub divided : needed_blocks (record every { filter = Some (typed.conjunction beyond divided) }) cities ≡ 0 ∷ []
