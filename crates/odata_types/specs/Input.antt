-- The rows of an input, and the expressions that a query has.
pub use Rattle.cell_types.specs.Rows.{IsShort, IsShortValue, IsTableRow}
use Rattle.std.specs.Prelude.{ℕ, ◌+◌, ◌≤◌, List, [], ◌∷◌, length, unsigned_abs}
use Rattle.cell_types.specs.Value.{CellValue, null, integer, text, boolean, date, decimal}
use Rattle.odata_parse.specs.Tree as tree
use Rattle.odata_parse.specs.Tree.{ExprOf, LiteralOf, OrderItemOf, order_item, TransformationOf, filter_by}
use Rattle.odata_types.specs.declared.types.ColumnType.{ColumnType}
use Rattle.cell_types.specs.declared.kind.ColumnKind.{ColumnKind}
use Rattle.cell_types.specs.declared.kind.ColumnKind.TheVariants.{Text, Number}
use Rattle.cell_types.specs.declared.kind.NumberKind.TheVariants as numbers
use Rattle.odata_types.specs.declared.types.TheConstants.{MOST_SIZE}
use Rattle.odata_types.specs.Columns.{InputOf}

-- a day of the years up to 9999
abbrev pub IsDay : ℕ → ℕ → ℕ → Type 0
IsDay year month day = (year ≤ 9999) × (month ≤ 12) × (day ≤ 31)

-- a value that a column of a type may have
abbrev pub IsOfKind : ColumnKind → ℕ → CellValue → Type 0
IsOfKind kind size null = Unit {0}
IsOfKind (Number numbers.Integer) size (integer n) = unsigned_abs n ≤ size
IsOfKind (Number numbers.Decimal) size (decimal n) = unsigned_abs n ≤ size
IsOfKind Text size (text t) = IsShort t
IsOfKind (Number numbers.Boolean) size (boolean b) = Unit {0}
IsOfKind (Number numbers.Date) size (date y m d) = IsDay (unsigned_abs y) m d
IsOfKind _ _ _ = ⊥

abbrev pub IsOfType : ColumnType → CellValue → Type 0
IsOfType type v = IsOfKind type.kind type.size v

-- a row: a value for each column, of its type
abbrev pub IsRowOf : List InputOf → List CellValue → Type 0
IsRowOf [] [] = Unit {0}
IsRowOf (c ∷ cs) (v ∷ vs) = IsOfType c.column_type v × IsRowOf cs vs
IsRowOf _ _ = ⊥

-- the numbers of a column are not too large
abbrev pub IsBounded : ColumnType → Type 0
IsBounded type = type.size ≤ MOST_SIZE

-- an input: no column's numbers are too large
abbrev pub IsInput : List InputOf → Type 0
IsInput [] = Unit {0}
IsInput (c ∷ cs) = IsBounded c.column_type × IsInput cs

abbrev pub nodes : ExprOf → ℕ
nodes (tree.literal v) = 1
nodes (tree.name n) = 1
nodes (tree.unary o a) = nodes a + 1
nodes (tree.binary o a b) = nodes a + nodes b + 1
nodes (tree.in_list a vs) = nodes a + length vs + 1
nodes (tree.unary_call f a) = nodes a + 1
nodes (tree.binary_call f a b) = nodes a + nodes b + 1

abbrev pub IsShortLiteral : LiteralOf → Type 0
IsShortLiteral (tree.text t) = IsShort t
IsShortLiteral (tree.date y m d) = IsDay (unsigned_abs y) m d
IsShortLiteral _ = Unit {0}

-- each text in the expression is short, and each date a day
abbrev pub HasShortTexts : ExprOf → Type 0
HasShortTexts (tree.literal v) = IsShortLiteral v
HasShortTexts (tree.name n) = Unit {0}
HasShortTexts (tree.unary o a) = HasShortTexts a
HasShortTexts (tree.binary o a b) = HasShortTexts a × HasShortTexts b
HasShortTexts (tree.in_list a vs) = HasShortTexts a
HasShortTexts (tree.unary_call f a) = HasShortTexts a
HasShortTexts (tree.binary_call f a b) = HasShortTexts a × HasShortTexts b

-- an expression of at most 1,024 nodes with short texts
pub record IsQueried (e : ExprOf) : Type 0 where
  pub few : nodes e ≤ 1_024
  pub short : HasShortTexts e

-- the expression of an item of `$orderby`
abbrev pub IsQueriedItem : OrderItemOf → Type 0
IsQueriedItem (order_item e descending) = IsQueried e

-- the expression of a transformation of `$apply`, where it has one
abbrev pub IsQueriedTransformation : TransformationOf → Type 0
IsQueriedTransformation (filter_by e) = IsQueried e
IsQueriedTransformation _ = Unit {0}
