-- The trees as values that keep no memory: the texts of a tree are lists of bytes.
use Rattle.std.specs.Prelude.{ℕ, ℤ, Bool, List, Option, Some, None, map, string_bytes, Vec}
use Rattle.odata_parse.specs.declared.tree.Literal.{Literal}
use Rattle.odata_parse.specs.declared.tree.Literal.TheVariants.{Null, Boolean, Number, Text, Date, Decimal}
use Rattle.odata_parse.specs.declared.tree.UnaryOperator.{UnaryOperator}
use Rattle.odata_parse.specs.declared.tree.BinaryOperator.{BinaryOperator}
use Rattle.odata_parse.specs.declared.tree.UnaryFunction.{UnaryFunction}
use Rattle.odata_parse.specs.declared.tree.BinaryFunction.{BinaryFunction}
use Rattle.odata_parse.specs.declared.tree.Expr.{Expr}
use Rattle.odata_parse.specs.declared.tree.OrderItem.{OrderItem}
use Rattle.odata_parse.specs.declared.tree.SelectItem.{SelectItem}
use Rattle.odata_parse.specs.declared.tree.SelectItem.TheVariants.{All, Name as SelectedName}
use Rattle.odata_parse.specs.declared.tree.AggregationMethod.{AggregationMethod}
use Rattle.odata_parse.specs.declared.tree.AggregateItem.{AggregateItem}
use Rattle.odata_parse.specs.declared.tree.AggregateItem.TheVariants.{Column, Count}
use Rattle.odata_parse.specs.declared.tree.Transformation.{Transformation}
use Rattle.odata_parse.specs.declared.tree.Transformation.TheVariants.{Filter, Aggregate, GroupBy}
use Rattle.odata_parse.specs.declared.tree.KeyPair.{KeyPair}
use Rattle.odata_parse.specs.declared.tree.Key.{Key}
use Rattle.odata_parse.specs.declared.tree.Key.TheVariants.{Single, Named}
use Rattle.odata_parse.specs.declared.tree.Expr.TheVariants.{Literal as LiteralVariant, Name, Unary', Binary', In', UnaryCall', BinaryCall'}

-- a value written in an expression; a date is its year, month and day, a decimal its millionths
pub data LiteralOf : Type 0 where
  null : LiteralOf
  boolean : Bool → LiteralOf
  number : ℤ → LiteralOf
  text : List ℕ → LiteralOf
  date : ℤ → ℕ → ℕ → LiteralOf
  decimal : ℤ → LiteralOf

abbrev pub literal_view : Literal → LiteralOf
literal_view Null = null
literal_view (Boolean b) = boolean b
literal_view (Number n) = number n
literal_view (Text t) = text (string_bytes t)
literal_view (Date d) = date d.year d.month d.day
literal_view (Decimal n) = decimal n

-- an expression
pub data ExprOf : Type 0 where
  literal : LiteralOf → ExprOf
  name : List ℕ → ExprOf
  unary : UnaryOperator → ExprOf → ExprOf
  binary : BinaryOperator → ExprOf → ExprOf → ExprOf
  in_list : ExprOf → List LiteralOf → ExprOf
  unary_call : UnaryFunction → ExprOf → ExprOf
  binary_call : BinaryFunction → ExprOf → ExprOf → ExprOf

abbrev pub expr_view : Expr → ExprOf
expr_view (LiteralVariant v) = literal (literal_view v)
expr_view (Name t) = name (string_bytes t)
expr_view (Unary' o p a) = unary o (expr_view a)
expr_view (Binary' o p a q b) = binary o (expr_view a) (expr_view b)
expr_view (In' p a vs) = in_list (expr_view a) (map literal_view vs.items)
expr_view (UnaryCall' f p a) = unary_call f (expr_view a)
expr_view (BinaryCall' f p a q b) = binary_call f (expr_view a) (expr_view b)

-- an item of `$orderby`: its expression, and whether it descends
pub data OrderItemOf : Type 0 where
  order_item : ExprOf → Bool → OrderItemOf

abbrev pub order_item_view : OrderItem → OrderItemOf
order_item_view i = order_item (expr_view i.expression) i.descending

abbrev pub order_by_view : {A : Type 0} → Vec OrderItem A → List OrderItemOf
order_by_view items = map order_item_view items.items

-- an item of `$select`
pub data SelectItemOf : Type 0 where
  all_columns : SelectItemOf
  selected : List ℕ → SelectItemOf

abbrev pub select_item_view : SelectItem → SelectItemOf
select_item_view All = all_columns
select_item_view (SelectedName t) = selected (string_bytes t)

abbrev pub selection_view : {A : Type 0} → Vec SelectItem A → List SelectItemOf
selection_view items = map select_item_view items.items

-- an item of `aggregate`: a column, its method and the alias, or the alias of the count
pub data AggregateItemOf : Type 0 where
  aggregated : List ℕ → AggregationMethod → List ℕ → AggregateItemOf
  counted : List ℕ → AggregateItemOf

abbrev pub aggregate_item_view : AggregateItem → AggregateItemOf
aggregate_item_view (Column column m alias) = aggregated (string_bytes column) m (string_bytes alias)
aggregate_item_view (Count alias) = counted (string_bytes alias)

abbrev pub aggregation_view : {A : Type 0} → Vec AggregateItem A → List AggregateItemOf
aggregation_view items = map aggregate_item_view items.items

-- a transformation of `$apply`
pub data TransformationOf : Type 0 where
  filter_by : ExprOf → TransformationOf
  aggregate : List AggregateItemOf → TransformationOf
  group_by : List (List ℕ) → Option (List AggregateItemOf) → TransformationOf

abbrev pub aggregate_view : {A : Type 0} → Option (Vec AggregateItem A) → Option (List AggregateItemOf)
aggregate_view None = None
aggregate_view (Some items) = Some (map aggregate_item_view items.items)

abbrev pub transformation_view : Transformation → TransformationOf
transformation_view (Filter e) = filter_by (expr_view e)
transformation_view (Aggregate items) = aggregate (map aggregate_item_view items.items)
transformation_view (GroupBy names items) = group_by (map string_bytes names.items) (aggregate_view items)

abbrev pub apply_view : {A : Type 0} → Vec Transformation A → List TransformationOf
apply_view transformations = map transformation_view transformations.items

-- a column of a key and its value
pub data KeyPairOf : Type 0 where
  key_pair : List ℕ → LiteralOf → KeyPairOf

abbrev pub key_pair_view : KeyPair → KeyPairOf
key_pair_view p = key_pair (string_bytes p.name) (literal_view p.value)

-- a key
pub data KeyOf : Type 0 where
  single : LiteralOf → KeyOf
  named : List KeyPairOf → KeyOf

abbrev pub key_view : Key → KeyOf
key_view (Single v) = single (literal_view v)
key_view (Named pairs) = named (map key_pair_view pairs.items)
