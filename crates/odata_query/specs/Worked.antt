-- Keys and transformations with their types, or the causes why they have none, on a table with a column of each type.
use Rattle.std.specs.Prelude.{◌≡◌, ℕ, pos, negsuc, true, List, [], ◌∷◌, codes, Some, None, Ok, Err}
use Rattle.cell_types.specs.Value as value
use Rattle.cell_types.specs.Value.{CellValue}
use Rattle.odata_parse.specs.declared.tree.AggregationMethod.{AggregationMethod}
use Rattle.odata_parse.specs.declared.tree.AggregationMethod.TheVariants as method
use Rattle.odata_parse.specs.Tree as tree
use Rattle.odata_parse.specs.Tree.{AggregateItemOf, KeyOf, LiteralOf, TransformationOf, aggregate, aggregated, counted, filter_by, group_by, key_pair, named, single}
use Rattle.odata_types.specs.declared.fault.TypeFault.{TypeFault}
use Rattle.odata_types.specs.declared.fault.TypeFault.TheVariants.{AliasTaken, BadKey, Mismatch, TooLarge, UnknownName}
use Rattle.odata_types.specs.declared.types.ColumnType.{ColumnType}
use Rattle.cell_types.specs.declared.kind.ColumnKind.{ColumnKind}
use Rattle.cell_types.specs.declared.kind.ColumnKind.TheVariants.{Text, Number}
use Rattle.cell_types.specs.declared.kind.NumberKind.TheVariants as numbers
use Rattle.odata_types.specs.declared.types.TheConstants.{COLUMN_SIZE}
use Rattle.odata_types.specs.Columns.{of_size, InputOf}
use Rattle.typed_trees.specs.TypedTree.{truth_column}
use Rattle.odata_query.specs.declared.aggregate.Aggregate.{Aggregate}
use Rattle.odata_query.specs.declared.aggregate.Aggregate.TheVariants.{Count, SumOfIntegers, SumOfDecimals, Min, Max, CountDistinct}
use Rattle.odata_query.specs.Aggregate.{NamedAggregateOf, TypedTransformationOf, aggregate_rows, filter_rows, group_rows}
use Rattle.odata_query.specs.Apply.{apply_typing, count_type}
use Rattle.odata_query.specs.Key.{key_typing}

abbrev pub input : List ℕ → ColumnType → InputOf
input name type = record { name = name; column_type = type }

abbrev pub of : ColumnKind → ColumnType
of kind = of_size kind COLUMN_SIZE

abbrev pub inputs : List InputOf
inputs =
    input (codes "Id") (of (Number numbers.Integer))
    ∷ input (codes "Name") (of Text)
    ∷ input (codes "Open") (of (Number numbers.Boolean))
    ∷ input (codes "Since") (of (Number numbers.Date))
    ∷ input (codes "Price") (of (Number numbers.Decimal))
    ∷ []

-- ---- keys (OData 4.01 URL Conventions, section 4.3.1)

-- a key of these columns has these values, or none
abbrev pub HasKeyValues : List ℕ → KeyOf → List CellValue → Type 0
HasKeyValues places key values = key_typing inputs places key ≡ Ok values

abbrev pub IsBadKey : List ℕ → KeyOf → Type 0
IsBadKey places key = key_typing inputs places key ≡ Err BadKey

-- of one column, the literal alone
abbrev pub only : ℕ → List ℕ
only place = place ∷ []

abbrev pub seven : LiteralOf
seven = tree.number (pos 7)

abbrev pub oslo_literal : LiteralOf
oslo_literal = tree.text (codes "Oslo")

pub record WorkedKeys : Type 0 where
  -- `(7)`, `(-7)`, `('Oslo')`, `(true)`, `(2024-02-29)` and `(2.5)` in columns of their types, and `(7)` in one of decimals
  pub number : HasKeyValues (only 0) (single seven) (value.integer (pos 7) ∷ [])
  pub negative : HasKeyValues (only 0) (single (tree.number (negsuc 6))) (value.integer (negsuc 6) ∷ [])
  pub text : HasKeyValues (only 1) (single oslo_literal) (value.text (codes "Oslo") ∷ [])
  pub boolean : HasKeyValues (only 2) (single (tree.boolean true)) (value.boolean true ∷ [])
  pub date : HasKeyValues (only 3) (single (tree.date (pos 2024) 2 29)) (value.date (pos 2024) 2 29 ∷ [])
  pub decimal : HasKeyValues (only 4) (single (tree.decimal (pos 2_500_000))) (value.decimal (pos 2_500_000) ∷ [])
  pub scaled : HasKeyValues (only 4) (single seven) (value.decimal (pos 7_000_000) ∷ [])
  -- too large is not looked for in a key: 2 to the 126 and one more
  pub great : HasKeyValues (only 0) (single (tree.number (pos 85_070_591_730_234_615_865_843_651_857_942_052_865)))
      (value.integer (pos 85_070_591_730_234_615_865_843_651_857_942_052_865) ∷ [])
  -- `(Id=7)`, `(Name='Oslo',Id=7)` and `(Id=7,Name='Oslo')` for the keys Id, and Id and Name
  pub one_name : HasKeyValues (only 0) (named (key_pair (codes "Id") seven ∷ [])) (value.integer (pos 7) ∷ [])
  pub two_names : HasKeyValues (0 ∷ 1 ∷ []) (named (key_pair (codes "Id") seven ∷ key_pair (codes "Name") oslo_literal ∷ []))
      (value.integer (pos 7) ∷ value.text (codes "Oslo") ∷ [])
  pub other_order : HasKeyValues (0 ∷ 1 ∷ []) (named (key_pair (codes "Name") oslo_literal ∷ key_pair (codes "Id") seven ∷ []))
      (value.integer (pos 7) ∷ value.text (codes "Oslo") ∷ [])
  pub order_of_key : HasKeyValues (1 ∷ 0 ∷ []) (named (key_pair (codes "Id") seven ∷ key_pair (codes "Name") oslo_literal ∷ []))
      (value.text (codes "Oslo") ∷ value.integer (pos 7) ∷ [])
  -- null, literals of other types, and 1 and 32 zeros in a column of decimals
  pub null_value : IsBadKey (only 0) (single tree.null)
  pub text_for_integer : IsBadKey (only 0) (single oslo_literal)
  pub decimal_for_integer : IsBadKey (only 0) (single (tree.decimal (pos 7_000_000)))
  pub number_for_text : IsBadKey (only 1) (single seven)
  pub number_for_boolean : IsBadKey (only 2) (single seven)
  pub text_for_date : IsBadKey (only 3) (single oslo_literal)
  pub huge : IsBadKey (only 4) (single (tree.number (pos 100_000_000_000_000_000_000_000_000_000_000)))
  -- no key, a literal alone for two columns, a column without a value, one too many, another name, one name twice
  pub no_key : IsBadKey [] (single seven)
  pub no_named_key : IsBadKey [] (named [])
  pub single_for_two : IsBadKey (0 ∷ 1 ∷ []) (single seven)
  pub too_few : IsBadKey (0 ∷ 1 ∷ []) (named (key_pair (codes "Id") seven ∷ []))
  pub too_many : IsBadKey (only 0) (named (key_pair (codes "Id") seven ∷ key_pair (codes "Name") oslo_literal ∷ []))
  pub other_name : IsBadKey (only 0) (named (key_pair (codes "Name") seven ∷ []))
  pub other_case : IsBadKey (only 0) (named (key_pair (codes "id") seven ∷ []))
  pub twice : IsBadKey (0 ∷ 1 ∷ []) (named (key_pair (codes "Id") seven ∷ key_pair (codes "Id") seven ∷ []))
  pub null_under_name : IsBadKey (0 ∷ 1 ∷ []) (named (key_pair (codes "Id") seven ∷ key_pair (codes "Name") tree.null ∷ []))

-- ---- transformations (OData Data Aggregation 4.0, section 3)

-- transformations have these types, and a result of these columns; or none, for this cause
abbrev pub HaveTypes : List TransformationOf → List TypedTransformationOf → List InputOf → Type 0
HaveTypes ts typed columns = apply_typing inputs ts ≡ Ok (typed, columns)

abbrev pub FailsToApply : List TransformationOf → TypeFault → Type 0
FailsToApply ts cause = apply_typing inputs ts ≡ Err cause

abbrev pub item : List ℕ → AggregationMethod → AggregateItemOf
item name m = aggregated name m (codes "A")

abbrev pub made : Aggregate → NamedAggregateOf
made a = record { alias = codes "A"; aggregate = a }

-- `aggregate` of one item under the alias `A`, of this type
abbrev pub Aggregates : AggregateItemOf → Aggregate → ColumnType → Type 0
Aggregates x a type = HaveTypes (aggregate (x ∷ []) ∷ []) (aggregate_rows (made a ∷ []) ∷ []) (input (codes "A") type ∷ [])

abbrev pub counted_rows : TransformationOf
counted_rows = aggregate (counted (codes "N") ∷ [])

pub record WorkedTransformations : Type 0 where
  pub nothing : HaveTypes [] [] inputs
  -- `filter(Open)`, `filter(Id)`, `filter(Nobody)`
  pub filter : HaveTypes (filter_by (tree.name (codes "Open")) ∷ []) (filter_rows (truth_column 2) ∷ []) inputs
  pub filter_number : FailsToApply (filter_by (tree.name (codes "Id")) ∷ []) Mismatch
  pub filter_unknown : FailsToApply (filter_by (tree.name (codes "Nobody")) ∷ []) UnknownName
  -- `aggregate(Id with sum as A)` and the like: a sum is of 2 to the 30 numbers at most
  pub sum_of_integers : Aggregates (item (codes "Id") method.Sum) (SumOfIntegers 0) (of_size (Number numbers.Integer) 9_903_520_314_283_042_199_192_993_792)
  pub sum_of_decimals : Aggregates (item (codes "Price") method.Sum) (SumOfDecimals 4) (of_size (Number numbers.Decimal) 9_903_520_314_283_042_199_192_993_792)
  pub least : Aggregates (item (codes "Name") method.Min) (Min 1) (of Text)
  pub greatest : Aggregates (item (codes "Since") method.Max) (Max 3) (of (Number numbers.Date))
  pub greatest_integer : Aggregates (item (codes "Id") method.Max) (Max 0) (of (Number numbers.Integer))
  pub distinct : Aggregates (item (codes "Open") method.CountDistinct) (CountDistinct 2) count_type
  pub count : Aggregates (counted (codes "A")) Count count_type
  pub sum_of_texts : FailsToApply (aggregate (item (codes "Name") method.Sum ∷ []) ∷ []) Mismatch
  pub sum_of_truths : FailsToApply (aggregate (item (codes "Open") method.Sum ∷ []) ∷ []) Mismatch
  pub sum_of_dates : FailsToApply (aggregate (item (codes "Since") method.Sum ∷ []) ∷ []) Mismatch
  pub sum_of_unknown : FailsToApply (aggregate (item (codes "Nobody") method.Sum ∷ []) ∷ []) UnknownName
  -- aliases: of a column, of an earlier item, of a mismatch
  pub column_alias : FailsToApply (aggregate (counted (codes "Id") ∷ []) ∷ []) AliasTaken
  pub own_alias : FailsToApply (aggregate (aggregated (codes "Id") method.Sum (codes "Id") ∷ []) ∷ []) AliasTaken
  pub earlier_alias : FailsToApply (aggregate (item (codes "Id") method.Min ∷ counted (codes "A") ∷ []) ∷ []) AliasTaken
  pub mismatch_first : FailsToApply (aggregate (aggregated (codes "Name") method.Sum (codes "Id") ∷ []) ∷ []) Mismatch
  -- `groupby((Open,Id,Open))`, `groupby((Open),aggregate(Id with sum as A))`
  pub groups : HaveTypes (group_by (codes "Open" ∷ codes "Id" ∷ codes "Open" ∷ []) None ∷ []) (group_rows (2 ∷ 0 ∷ []) [] ∷ [])
      (input (codes "Open") (of (Number numbers.Boolean)) ∷ input (codes "Id") (of (Number numbers.Integer)) ∷ [])
  pub aggregated_groups : HaveTypes (group_by (codes "Open" ∷ []) (Some (item (codes "Id") method.Min ∷ [])) ∷ []) (group_rows (2 ∷ []) (made (Min 0) ∷ []) ∷ [])
      (input (codes "Open") (of (Number numbers.Boolean)) ∷ input (codes "A") (of (Number numbers.Integer)) ∷ [])
  -- the names come before the items: `groupby((Nobody),aggregate(Name with sum as A))`
  pub unknown_group : FailsToApply (group_by (codes "Open" ∷ codes "Nobody" ∷ []) None ∷ []) UnknownName
  pub names_first : FailsToApply (group_by (codes "Nobody" ∷ []) (Some (item (codes "Name") method.Sum ∷ [])) ∷ []) UnknownName
  pub item_then : FailsToApply (group_by (codes "Open" ∷ []) (Some (item (codes "Name") method.Sum ∷ [])) ∷ []) Mismatch
  -- each is given the columns before it: `groupby((Open))/aggregate($count as N)`, `groupby((Open))/filter(Id)`, `aggregate($count as N)/filter(Open)`
  pub counted_groups : HaveTypes (group_by (codes "Open" ∷ []) None ∷ counted_rows ∷ [])
      (group_rows (2 ∷ []) [] ∷ aggregate_rows (record { alias = codes "N"; aggregate = Count } ∷ []) ∷ []) (input (codes "N") count_type ∷ [])
  pub group_hides : FailsToApply (group_by (codes "Open" ∷ []) None ∷ filter_by (tree.name (codes "Id")) ∷ []) UnknownName
  pub aggregate_hides : FailsToApply (counted_rows ∷ filter_by (tree.name (codes "Open")) ∷ []) UnknownName
  -- an alias is free where its column is gone: `aggregate($count as N)/aggregate($count as Id)`
  pub free_alias : HaveTypes (counted_rows ∷ aggregate (counted (codes "Id") ∷ []) ∷ [])
      (aggregate_rows (record { alias = codes "N"; aggregate = Count } ∷ []) ∷ aggregate_rows (record { alias = codes "Id"; aggregate = Count } ∷ []) ∷ [])
      (input (codes "Id") count_type ∷ [])
  -- a sum of sums of sums: the bound of the first is 2 to the 93, of the second 2 to the 123, of the third over 2 to the 126
  pub sum_of_sums : FailsToApply (aggregate (aggregated (codes "Id") method.Sum (codes "A") ∷ []) ∷ aggregate (aggregated (codes "A") method.Sum (codes "B") ∷ [])
      ∷ aggregate (aggregated (codes "B") method.Sum (codes "C") ∷ []) ∷ []) TooLarge
