-- Columns that conditions name, by their types.
use Rattle.std.specs.Prelude.{◌≡◌, ℕ, List, Option, Some, option_map, slice_get}
use Rattle.std.specs.List.{All}
use Rattle.csvw_meta.specs.Schema.{SchemaOf}
use Rattle.odata_types.specs.Columns.{InputOf}
use Rattle.odata_types.specs.Schema.{inputs_of}
use Rattle.cell_types.specs.declared.kind.NumberKind.{NumberKind}
use Rattle.cell_types.specs.declared.kind.ColumnKind.TheVariants.{Number}
use Rattle.typed_trees.specs.TypedTree.{NumberExprOf, TextExprOf, TruthExprOf, compare_numbers, compare_texts, compare_truths, conjunction, number_column, text_column, truth_column}
use Rattle.typed_trees.specs.Plain.{kind_expr}
use Rattle.odata_types.specs.Typing.{column_expr, type_of}
use Rattle.odata_types.specs.declared.types.ExprType.{ExprType}
use Rattle.odata_types.specs.declared.types.ExprType.TheVariants as kind
use Rattle.query_plan.specs.Plan.{PlanOf, leading}

-- the type of the values of a column, where there is one
abbrev pub column_kind : List InputOf → ℕ → Option ExprType
column_kind inputs place = option_map (λ c. type_of (column_expr place c.column_type)) (slice_get inputs place)

-- the type of a column of numbers of a kind
abbrev pub number_type : NumberKind → ExprType
number_type what = type_of (kind_expr 0 (Number what) 0)

-- where an expression is a column alone, this is there, and has values of the type
abbrev pub IsNumberOver : List InputOf → NumberExprOf → Type 0
IsNumberOver inputs (number_column what place) = column_kind inputs place ≡ Some (number_type what)
IsNumberOver inputs e = Unit {0}

abbrev pub IsTextOver : List InputOf → TextExprOf → Type 0
IsTextOver inputs (text_column place) = column_kind inputs place ≡ Some kind.Text
IsTextOver inputs e = Unit {0}

-- the same of each side of a comparison, and of each side of an `and`
abbrev pub IsTruthOver : List InputOf → TruthExprOf → Type 0
IsTruthOver inputs (truth_column place) = column_kind inputs place ≡ Some kind.Boolean
IsTruthOver inputs (conjunction a b) = IsTruthOver inputs a × IsTruthOver inputs b
IsTruthOver inputs (compare_numbers o a b) = IsNumberOver inputs a × IsNumberOver inputs b
IsTruthOver inputs (compare_texts o a b) = IsTextOver inputs a × IsTextOver inputs b
IsTruthOver inputs (compare_truths o a b) = IsTruthOver inputs a × IsTruthOver inputs b
IsTruthOver inputs e = Unit {0}

-- each filter that the plan begins with compares columns of the table as what they are
abbrev pub IsTypedPlan : SchemaOf → PlanOf → Type 0
IsTypedPlan schema plan = All (IsTruthOver (inputs_of schema)) (leading plan.nodes)
