-- Conditions that compare a column with a literal (OData 4.01 URL Conventions, sections 5.1.1.1.1 to 5.1.1.1.6).
use Rattle.std.specs.Prelude.{ℕ, ℤ, pos, ◌*◌, ◌*ℤ◌, neg_ℤ, unsigned_abs, nat_le, Option, Some, None, if◌then◌else◌, option_and_then, option_map}
use Rattle.cell_types.specs.Kind.{number_cell}
use Rattle.cell_types.specs.Value as value
use Rattle.cell_types.specs.Value.{CellValue}
use Rattle.cell_types.specs.declared.comparison.ComparisonOperator.{ComparisonOperator}
use Rattle.cell_types.specs.declared.kind.NumberKind.{NumberKind}
use Rattle.typed_trees.specs.declared.tree.TheConstants.{MILLIONTHS}
use Rattle.odata_types.specs.declared.types.TheConstants.{MOST_SIZE}
use Rattle.typed_trees.specs.TypedTree.{NumberExprOf, TextExprOf, TruthExprOf, compare_numbers, compare_texts, compare_truths, negated, null_number, null_text, null_truth, number_column, number_literal, scaled, text_column, text_literal, truth_column, truth_literal}
use Rattle.query_plan.specs.Scan.{TestOf}

-- a number whose size is at most 2 to the 126, as that of each number of a query with types is
abbrev pub sized : ℕ → ℤ → Option (Option ℤ)
sized size n = if nat_le size MOST_SIZE then Some (Some n) else None

-- an integer in millionths, or null
abbrev pub scaled_number : Option ℤ → Option (Option ℤ)
scaled_number None = Some None
scaled_number (Some n) = sized (unsigned_abs n * MILLIONTHS) (n *ℤ pos MILLIONTHS)

-- the number of a literal, perhaps after one `-`, or null; where a decimal is asked for, that of an integer in millionths
abbrev pub literal_number : NumberExprOf → Option (Option ℤ)
literal_number null_number = Some None
literal_number (number_literal n) = Some (Some n)
literal_number (negated (number_literal n)) = sized (unsigned_abs n) (neg_ℤ n)
literal_number (scaled e) = option_and_then scaled_number (literal_number e)
literal_number _ = None

-- the value of a literal of a type: that of null too
abbrev pub number_value : NumberKind → NumberExprOf → Option CellValue
number_value kind e = option_and_then (number_cell kind) (literal_number e)

abbrev pub text_value : TextExprOf → Option CellValue
text_value null_text = Some value.null
text_value (text_literal t) = Some (value.text t)
text_value _ = None

abbrev pub truth_value : TruthExprOf → Option CellValue
truth_value null_truth = Some value.null
truth_value (truth_literal b) = Some (value.boolean b)
truth_value _ = None

abbrev pub compared_with : ℕ → ComparisonOperator → Option CellValue → Option TestOf
compared_with place operator literal = option_map (λ v. record { column = place; op = operator; literal = v }) literal

-- the test that a condition is, where it compares a column with a literal
abbrev pub test_of : TruthExprOf → Option TestOf
test_of (compare_numbers operator (number_column kind place) b) = compared_with place operator (number_value kind b)
test_of (compare_texts operator (text_column place) b) = compared_with place operator (text_value b)
test_of (compare_truths operator (truth_column place) b) = compared_with place operator (truth_value b)
test_of _ = None
