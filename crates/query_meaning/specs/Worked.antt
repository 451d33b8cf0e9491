-- Queries with their answers, on a table of three cities and one of four prices.
use Rattle.std.specs.Prelude.{◌≡◌, ℕ, pos, neg_ℤ, true, false, List, [], ◌∷◌, codes, Option, Some, None}
use Rattle.cell_types.specs.declared.datatype.DateForm.TheVariants.{YearMonthDay}
use Rattle.cell_types.specs.declared.datatype.BooleanForm.TheVariants.{Standard}
use Rattle.cell_types.specs.Column.{ColumnOf}
use Rattle.cell_types.specs.Datatype as datatype
use Rattle.cell_types.specs.Datatype.{DatatypeOf, boolean_view}
use Rattle.cell_types.specs.Value.{CellValue, null, integer, text, boolean, date, decimal}
use Rattle.csvw_meta.specs.Schema.{SchemaOf}
use Rattle.typed_trees.specs.declared.operator.ArithmeticOperator.TheVariants.{Div, Sub}
use Rattle.cell_types.specs.declared.comparison.ComparisonOperator.TheVariants.{Equal, GreaterThan}
use Rattle.odata_types.specs.declared.types.TheConstants.{COLUMN_SIZE}
use Rattle.cell_types.specs.declared.kind.NumberKind.TheVariants as numbers
use Rattle.typed_trees.specs.TypedTree as typed
use Rattle.typed_trees.specs.TypedTree.{NumberExprOf, TypedExprOf, TruthExprOf}
use Rattle.odata_query.specs.declared.aggregate.Aggregate.{Aggregate}
use Rattle.odata_query.specs.declared.aggregate.Aggregate.TheVariants.{Count, SumOfIntegers, SumOfDecimals, Min, Max, CountDistinct}
use Rattle.odata_query.specs.Aggregate.{NamedAggregateOf, filter_rows, aggregate_rows, group_rows}
use Rattle.odata_query.specs.Query.{TypedOf}
use Rattle.query_meaning.specs.Meaning.{result, number, single, no_row, query_meaning}

abbrev pub column : List ℕ → DatatypeOf → ColumnOf
column name type = record { name = name; titles = []; datatype = type; nulls = codes "" ∷ []; default = []; required = false }

abbrev pub schema : SchemaOf
schema = record {
  url = codes "cities.csv";
  name = codes "cities";
  columns =
      column (codes "Id") datatype.integer
      ∷ column (codes "Name") datatype.text
      ∷ column (codes "Pop") datatype.integer
      ∷ column (codes "Open") (boolean_view Standard)
      ∷ column (codes "Since") (datatype.date YearMonthDay)
      ∷ [];
  key = 0 ∷ [];
}

abbrev pub oslo : List CellValue
oslo = integer (pos 1) ∷ text (codes "Oslo") ∷ integer (pos 700_000) ∷ boolean true ∷ date (pos 1048) 1 1 ∷ []

abbrev pub foo : List CellValue
foo = integer (pos 2) ∷ text (codes "Foo, Bar") ∷ null ∷ boolean false ∷ null ∷ []

abbrev pub nameless : List CellValue
nameless = integer (pos 3) ∷ null ∷ integer (pos 5) ∷ null ∷ date (pos 2024) 2 29 ∷ []

abbrev pub cities : List (List CellValue)
cities = oslo ∷ foo ∷ nameless ∷ []

-- a table of prices
abbrev pub price_schema : SchemaOf
price_schema = record {
  url = codes "prices.csv";
  name = codes "prices";
  columns = column (codes "Id") datatype.integer ∷ column (codes "Price") datatype.decimal ∷ [];
  key = 0 ∷ [];
}

-- 2.5, -0.000001, none and 10
abbrev pub prices : List (List CellValue)
prices =
    (integer (pos 1) ∷ decimal (pos 2_500_000) ∷ [])
    ∷ (integer (pos 2) ∷ decimal (neg_ℤ (pos 1)) ∷ [])
    ∷ (integer (pos 3) ∷ null ∷ [])
    ∷ (integer (pos 4) ∷ decimal (pos 10_000_000) ∷ [])
    ∷ []

-- a query without options
abbrev pub every : TypedOf
every = record { key = None; counting = false; apply = []; filter = None; count = false; order = []; skip = 0; top = None; select = None }

-- the numbers of Id and of Pop
abbrev pub ids : NumberExprOf
ids = typed.number_column numbers.Integer 0

abbrev pub people : NumberExprOf
people = typed.number_column numbers.Integer 2

abbrev pub pop : TypedExprOf
pop = typed.integer people COLUMN_SIZE

abbrev pub number_of_city : TypedExprOf
number_of_city = typed.integer ids COLUMN_SIZE

-- an aggregate and its name in the result
abbrev pub named : List ℕ → Aggregate → NamedAggregateOf
named alias aggregate = record { alias = alias; aggregate = aggregate }

-- `min as L` and `max as M` of a column
abbrev pub least_of : ℕ → NamedAggregateOf
least_of place = named (codes "L") (Min place)

abbrev pub greatest_of : ℕ → NamedAggregateOf
greatest_of place = named (codes "M") (Max place)

-- `Id gt 9`
abbrev pub beyond : TruthExprOf
beyond = typed.compare_numbers GreaterThan ids (typed.number_literal (pos 9))

-- `Pop gt 5`, and `Pop eq null`
abbrev pub populous : TruthExprOf
populous = typed.compare_numbers GreaterThan people (typed.number_literal (pos 5))

abbrev pub never_counted : TruthExprOf
never_counted = typed.compare_numbers Equal people typed.null_number

-- `10 div (Id sub 1) gt 0`
abbrev pub divided : TruthExprOf
divided =
    typed.compare_numbers GreaterThan
    (typed.arithmetic Div (typed.number_literal (pos 10)) (typed.arithmetic Sub ids (typed.number_literal (pos 1))))
    (typed.number_literal (pos 0))

-- what a query without a key gives: these rows under these names, with this count
abbrev pub MeansRows : TypedOf → List (List ℕ) → List (List CellValue) → Option ℕ → Type 0
MeansRows q names rows count = query_meaning schema q cities ≡ Some (result (record { names = names; rows = rows; count = count }))

pub record WorkedQueries : Type 0 where
  -- `$select=Id,Name`
  pub selected : MeansRows (record every { select = Some (0 ∷ 1 ∷ []) }) (codes "Id" ∷ codes "Name" ∷ [])
      ((integer (pos 1) ∷ text (codes "Oslo") ∷ []) ∷ (integer (pos 2) ∷ text (codes "Foo, Bar") ∷ []) ∷ (integer (pos 3) ∷ null ∷ []) ∷ []) None
  -- `$apply=groupby((Open),aggregate(Pop with sum as S,$count as N))`
  pub grouped : MeansRows (record every {
    apply = group_rows (3 ∷ []) (record { alias = codes "S"; aggregate = SumOfIntegers 2 } ∷ record { alias = codes "N"; aggregate = Count } ∷ []) ∷ [];
  }) (codes "Open" ∷ codes "S" ∷ codes "N" ∷ [])
      ((boolean true ∷ integer (pos 700_000) ∷ integer (pos 1) ∷ []) ∷ (boolean false ∷ null ∷ integer (pos 1) ∷ []) ∷ (null ∷ integer (pos 5) ∷ integer (pos 1) ∷ []) ∷ []) None
  -- `$orderby=Pop desc&$select=Id`, and `$orderby=Pop&$select=Id`
  pub descending : MeansRows (record every { order = (pop, true) ∷ []; select = Some (0 ∷ []) }) (codes "Id" ∷ [])
      ((integer (pos 1) ∷ []) ∷ (integer (pos 3) ∷ []) ∷ (integer (pos 2) ∷ []) ∷ []) None
  pub ascending : MeansRows (record every { order = (pop, false) ∷ []; select = Some (0 ∷ []) }) (codes "Id" ∷ [])
      ((integer (pos 2) ∷ []) ∷ (integer (pos 3) ∷ []) ∷ (integer (pos 1) ∷ []) ∷ []) None
  -- `$filter=Pop gt 5&$select=Id`, and `$filter=Pop eq null&$select=Id`
  pub greater : MeansRows (record every { filter = Some populous; select = Some (0 ∷ []) }) (codes "Id" ∷ []) ((integer (pos 1) ∷ []) ∷ []) None
  pub unknown : MeansRows (record every { filter = Some never_counted; select = Some (0 ∷ []) }) (codes "Id" ∷ []) ((integer (pos 2) ∷ []) ∷ []) None
  -- `$filter=10 div (Id sub 1) gt 0&$top=0`: of no row, and yet a division by zero
  pub faulty : query_meaning schema (record every { filter = Some divided; top = Some 0 }) cities ≡ None
  -- `$skip=1&$select=Id`
  pub skipped : MeansRows (record every { skip = 1; select = Some (0 ∷ []) }) (codes "Id" ∷ []) ((integer (pos 2) ∷ []) ∷ (integer (pos 3) ∷ []) ∷ []) None
  -- `$skip=1&$top=1&$select=Id`: the first row is left out, and then one is taken
  pub piece : MeansRows (record every { skip = 1; top = Some 1; select = Some (0 ∷ []) }) (codes "Id" ∷ []) ((integer (pos 2) ∷ []) ∷ []) None
  -- `$orderby=Id desc&$top=1&$select=Id`: rows are put in order before a piece is taken
  pub last : MeansRows (record every { order = (number_of_city, true) ∷ []; top = Some 1; select = Some (0 ∷ []) }) (codes "Id" ∷ []) ((integer (pos 3) ∷ []) ∷ []) None
  -- `$orderby=Pop gt 5 desc,Id desc&$select=Id`: Oslo first; the second item decides between the two others alone
  pub two_items : MeansRows (record every { order = (typed.truth populous, true) ∷ (number_of_city, true) ∷ []; select = Some (0 ∷ []) }) (codes "Id" ∷ [])
      ((integer (pos 1) ∷ []) ∷ (integer (pos 3) ∷ []) ∷ (integer (pos 2) ∷ []) ∷ []) None
  -- `$filter=Pop gt 5&$count=true&$select=Id`, and `/$count?$filter=Pop gt 5`: the rows that pass are counted
  pub filtered_count : MeansRows (record every { filter = Some populous; count = true; select = Some (0 ∷ []) }) (codes "Id" ∷ []) ((integer (pos 1) ∷ []) ∷ []) (Some 1)
  pub filtered_number : query_meaning schema (record every { counting = true; filter = Some populous }) cities ≡ Some (number 1)
  -- `$apply=groupby((Id),aggregate(Pop with sum as S))&$filter=S gt 5&$select=S`: both name columns of what `$apply` gives
  pub after_apply : MeansRows (record every {
    apply = group_rows (0 ∷ []) (named (codes "S") (SumOfIntegers 2) ∷ []) ∷ [];
    filter = Some (typed.compare_numbers GreaterThan (typed.number_column numbers.Integer 1) (typed.number_literal (pos 5)));
    select = Some (1 ∷ []);
  }) (codes "S" ∷ []) ((integer (pos 700_000) ∷ []) ∷ []) None
  -- `$count=true&$top=0`
  pub counted : MeansRows (record every { count = true; top = Some 0 }) (codes "Id" ∷ codes "Name" ∷ codes "Pop" ∷ codes "Open" ∷ codes "Since" ∷ []) [] (Some 3)
  -- `$apply=filter(Id gt 9)/aggregate(Pop with max as M,$count as N)`
  pub empty : MeansRows (record every {
    apply =
        filter_rows beyond ∷ aggregate_rows (record { alias = codes "M"; aggregate = Max 2 } ∷ record { alias = codes "N"; aggregate = Count } ∷ []) ∷ [];
  }) (codes "M" ∷ codes "N" ∷ []) ((null ∷ integer (pos 0) ∷ []) ∷ []) None
  -- `$apply=aggregate(Pop with sum as S,Pop with min as L,Pop with max as M,Name with countdistinct as D)`
  pub aggregated : MeansRows (record every { apply = aggregate_rows (named (codes "S") (SumOfIntegers 2) ∷ least_of 2 ∷ greatest_of 2 ∷ named (codes "D") (CountDistinct 1) ∷ []) ∷ [] })
      (codes "S" ∷ codes "L" ∷ codes "M" ∷ codes "D" ∷ []) ((integer (pos 700_005) ∷ integer (pos 5) ∷ integer (pos 700_000) ∷ integer (pos 2) ∷ []) ∷ []) None
  -- of the prices `$apply=aggregate(Price with sum as S,Price with min as L,Price with max as M)`: 12.499999, -0.000001 and 10
  pub priced : query_meaning price_schema (record every { apply = aggregate_rows (named (codes "S") (SumOfDecimals 1) ∷ least_of 1 ∷ greatest_of 1 ∷ []) ∷ [] }) prices
      ≡ Some (result (record { names = codes "S" ∷ codes "L" ∷ codes "M" ∷ []; rows = (decimal (pos 12_499_999) ∷ decimal (neg_ℤ (pos 1)) ∷ decimal (pos 10_000_000) ∷ []) ∷ []; count = None }))
  -- keys: `(Id=2)` and `(9)`; `/$count`
  pub keyed : query_meaning schema (record every { key = Some (integer (pos 2) ∷ []); select = Some (0 ∷ []) }) cities
      ≡ Some (single (codes "Id" ∷ []) (integer (pos 2) ∷ []))
  pub keyless : query_meaning schema (record every { key = Some (integer (pos 9) ∷ []) }) cities ≡ Some no_row
  pub numbered : query_meaning schema (record every { counting = true; order = (pop, true) ∷ []; top = Some 1 }) cities ≡ Some (number 3)
