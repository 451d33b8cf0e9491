-- Transformations with their types, whichever memory keeps them (OData Data Aggregation 4.0, section 3).
use Rattle.std.specs.Prelude.{ℕ, List, map, string_bytes, Vec}
use Rattle.odata_types.specs.declared.types.ColumnType.{ColumnType}
use Rattle.typed_trees.specs.TypedTree.{TruthExprOf, boxed_truth}
use Rattle.odata_query.specs.declared.aggregate.Aggregate.{Aggregate}
use Rattle.odata_query.specs.declared.aggregate.NamedAggregate.{NamedAggregate}
use Rattle.odata_query.specs.declared.aggregate.TypedTransformation.{TypedTransformation}
use Rattle.odata_query.specs.declared.aggregate.TypedTransformation.TheVariants as typed
use Rattle.odata_query.specs.declared.item.Item.{Item}

-- an aggregate and its name in the result
pub record NamedAggregateOf : Type 0 where
  pub alias : List ℕ
  pub aggregate : Aggregate

abbrev pub named_view : NamedAggregate → NamedAggregateOf
named_view made = record { alias = string_bytes made.alias; aggregate = made.aggregate }

abbrev pub aggregates_view : {A : Type 0} → Vec NamedAggregate A → List NamedAggregateOf
aggregates_view made = map named_view made.items

-- the rows on which a condition is true; one row of aggregates; a row for each group of rows with the same values in some columns, which are these
-- values and then aggregates of the group
pub data TypedTransformationOf : Type 0 where
  filter_rows : TruthExprOf → TypedTransformationOf
  aggregate_rows : List NamedAggregateOf → TypedTransformationOf
  group_rows : List ℕ → List NamedAggregateOf → TypedTransformationOf

abbrev pub typed_transformation_view : TypedTransformation → TypedTransformationOf
typed_transformation_view (typed.Filter e) = filter_rows (boxed_truth e)
typed_transformation_view (typed.Aggregate made) = aggregate_rows (map named_view made.items)
typed_transformation_view (typed.GroupBy places made) = group_rows places.items (map named_view made.items)

abbrev pub transformations_view : {A : Type 0} → Vec TypedTransformation A → List TypedTransformationOf
transformations_view made = map typed_transformation_view made.items

-- an aggregate with its alias and its type
pub record ItemOf : Type 0 where
  pub alias : List ℕ
  pub aggregate : Aggregate
  pub column_type : ColumnType

abbrev pub item_view : Item → ItemOf
item_view item = record { alias = item.alias.now; aggregate = item.aggregate; column_type = item.column_type }

abbrev pub items_view : {A : Type 0} → Vec Item A → List ItemOf
items_view items = map item_view items.items
