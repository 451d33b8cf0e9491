-- Queries on a table, and the same with types (OData 4.01 URL Conventions, section 5.1).
use Rattle.std.specs.Prelude.{ℕ, Bool, List, [], ◌∷◌, Option, Some, None, Result, Ok, map, option_map, Vec}
use Rattle.cell_types.specs.declared.value.Value.{Value}
use Rattle.cell_types.specs.Value.{CellValue, value_view}
use Rattle.csvw_meta.specs.Schema.{SchemaOf}
use Rattle.odata_parse.specs.Tree.{ExprOf, expr_view, KeyOf, key_view, OrderItemOf, order_item, order_item_view, SelectItemOf, selection_view, TransformationOf, apply_view}
use Rattle.odata_types.specs.declared.fault.TypeFault.{TypeFault}
use Rattle.odata_types.specs.declared.types.InputColumn.{InputColumn}
use Rattle.odata_types.specs.Columns.{InputOf, inputs_view}
use Rattle.odata_types.specs.Result.{◌>>=◌}
use Rattle.odata_types.specs.Schema.{inputs_of}
use Rattle.typed_trees.specs.TypedTree.{TruthExprOf, TypedExprOf, boxed_truth, typed_view}
use Rattle.odata_types.specs.Typing.{filter_typing, typing}
use Rattle.odata_query.specs.declared.aggregate.TypedTransformation.{TypedTransformation}
use Rattle.odata_query.specs.declared.query.OrderBy.{OrderBy}
use Rattle.odata_query.specs.declared.query.Query.{Query}
use Rattle.odata_query.specs.declared.query.Typed.{Typed}
use Rattle.odata_query.specs.Aggregate.{TypedTransformationOf, typed_transformation_view, transformations_view}
use Rattle.odata_query.specs.Apply.{apply_typing}
use Rattle.odata_query.specs.Key.{optional_key_typing}
use Rattle.odata_query.specs.Selection.{optional_selection_typing}

-- a key or the options of a query on a table; an item of `$orderby` is an expression and whether it descends
pub record QueryOf : Type 0 where
  pub key : Option KeyOf
  pub counting : Bool
  pub apply : List TransformationOf
  pub filter : Option ExprOf
  pub count : Bool
  pub order : List OrderItemOf
  pub skip : ℕ
  pub top : Option ℕ
  pub select : Option (List SelectItemOf)

abbrev pub query_view : Query → QueryOf
query_view q = record {
  key = option_map key_view q.key;
  counting = q.counting;
  apply = apply_view q.apply;
  filter = option_map expr_view q.filter;
  count = q.count;
  order = map order_item_view q.order.items;
  skip = q.skip;
  top = q.top;
  select = option_map selection_view q.select;
}

-- the same with types: the values of the key's columns in the key's order, and columns by their numbers
pub record TypedOf : Type 0 where
  pub key : Option (List CellValue)
  pub counting : Bool
  pub apply : List TypedTransformationOf
  pub filter : Option TruthExprOf
  pub count : Bool
  pub order : List (TypedExprOf × Bool)
  pub skip : ℕ
  pub top : Option ℕ
  pub select : Option (List ℕ)

abbrev pub values_view : {A : Type 0} → Vec Value A → List CellValue
values_view values = map value_view values.items

abbrev pub optional_values : {A : Type 0} → Option (Vec Value A) → Option (List CellValue)
optional_values values = option_map values_view values

abbrev pub optional_numbers : {A : Type 0} → Option (Vec ℕ A) → Option (List ℕ)
optional_numbers numbers = option_map (λ made. made.items) numbers

abbrev pub order_view : OrderBy → TypedExprOf × Bool
order_view item = (typed_view item.expression, item.descending)

abbrev pub query_typed_view : Typed → TypedOf
query_typed_view q = record {
  key = optional_values q.key;
  counting = q.counting;
  apply = transformations_view q.apply;
  filter = option_map boxed_truth q.filter;
  count = q.count;
  order = map order_view q.order.items;
  skip = q.skip;
  top = q.top;
  select = optional_numbers q.select;
}

-- a transformation, or more, and the columns of the result
abbrev pub transformed_view : {A : Type 0} → TypedTransformation × Vec InputColumn A → TypedTransformationOf × List InputOf
transformed_view made = (typed_transformation_view made.0, inputs_view made.1.items)

abbrev pub applied_view : {A B : Type 0} → Vec TypedTransformation A × Vec InputColumn B → List TypedTransformationOf × List InputOf
applied_view made = (transformations_view made.0, inputs_view made.1.items)

-- a filter, where there is one
abbrev pub optional_typing : List InputOf → Option ExprOf → Result (Option TruthExprOf) TypeFault
optional_typing inputs None = Ok None
optional_typing inputs (Some e) = filter_typing inputs e >>= λ t. Ok (Some t)

abbrev pub item_typing : List InputOf → OrderItemOf → Result (TypedExprOf × Bool) TypeFault
item_typing inputs (order_item e descending) = typing inputs e >>= λ t. Ok (t, descending)

-- items one after another
abbrev pub order_typing : List InputOf → List OrderItemOf → Result (List (TypedExprOf × Bool)) TypeFault
order_typing inputs [] = Ok []
order_typing inputs (item ∷ items) = item_typing inputs item >>= λ t. order_typing inputs items >>= λ ts. Ok (t ∷ ts)

-- the query with types, or the first cause: of the key, of `$apply`, and of `$filter`, `$orderby` and `$select` on the columns of its result
abbrev pub query_typing : SchemaOf → QueryOf → Result TypedOf TypeFault
query_typing schema q = optional_key_typing (inputs_of schema) schema.key q.key >>= λ key.
    apply_typing (inputs_of schema) q.apply >>= λ applied.
    optional_typing applied.1 q.filter >>= λ filter.
    order_typing applied.1 q.order >>= λ order.
    optional_selection_typing applied.1 q.select >>= λ select.
    Ok (record {
      key = key;
      counting = q.counting;
      apply = applied.0;
      filter = filter;
      count = q.count;
      order = order;
      skip = q.skip;
      top = q.top;
      select = select;
    })
