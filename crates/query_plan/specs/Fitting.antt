-- What must hold of rows before a step may compute on them: each column is there, and each number that is computed fits 128 bits.
use Rattle.std.specs.Prelude.{◌≡◌, ◌<◌, List, [], ◌∷◌, length, Some, IfSome}
use Rattle.std.specs.List.{All, filter_map}
use Rattle.cell_types.specs.Value.{CellValue}
use Rattle.csvw_meta.specs.Schema.{SchemaOf}
use Rattle.odata_query.specs.declared.aggregate.Aggregate.{Aggregate}
use Rattle.odata_query.specs.declared.aggregate.Aggregate.TheVariants.{Count, SumOfIntegers, SumOfDecimals, Min, Max, CountDistinct}
use Rattle.row_eval.specs.Bounds.{NumbersFit, TruthFits}
use Rattle.row_eval.specs.Row.{cell, decimal_in, integer_in}
use Rattle.query_meaning.specs.Meaning.{ResultOf}
use Rattle.query_meaning.specs.Order.{Item, plain_column}
use Rattle.query_plan.specs.Plan.{NodeOf, PlanOf, aggregating, choosing, filtering, grouping, node_result, projecting, slicing, sorting, table_result}
use Rattle.query_meaning.specs.Fitting.{AreSummable, AreTableRows}

abbrev pub AggregateFits : ResultOf → Aggregate → Type 0
AggregateFits r Count = Unit {0}
AggregateFits r (SumOfIntegers place) = (place < length r.names) × AreSummable (filter_map (λ row. cell integer_in row place) r.rows) (length r.rows)
AggregateFits r (SumOfDecimals place) = (place < length r.names) × AreSummable (filter_map (λ row. cell decimal_in row place) r.rows) (length r.rows)
AggregateFits r (Min place) = place < length r.names
AggregateFits r (Max place) = place < length r.names
AggregateFits r (CountDistinct place) = place < length r.names

-- items on a result: each number that is computed fits, and where an item is a column alone, this is there
pub record AreFitItems (items : List Item) (r : ResultOf) : Type 0 where
  pub numbers : All (λ row. All (λ item. NumbersFit item.0 row) items) r.rows
  pub columns : All (λ item. IfSome (plain_column item.0) (λ place. place < length r.names)) items

-- a step on a result
abbrev pub IsFitNode : NodeOf → ResultOf → Type 0
IsFitNode (filtering e) r = All (TruthFits e) r.rows
IsFitNode (aggregating aggregates) r = All (λ a. AggregateFits r a.aggregate) aggregates
IsFitNode (grouping places aggregates) r = All (λ place. place < length r.names) places × All (λ a. AggregateFits r a.aggregate) aggregates
IsFitNode (sorting items) r = AreFitItems items r
IsFitNode (choosing items most) r = AreFitItems items r
IsFitNode (slicing s) r = Unit {0}
IsFitNode (projecting places) r = All (λ place. place < length r.names) places

-- each step on what those before it give
abbrev pub NodesFit : List NodeOf → ResultOf → Type 0
NodesFit [] r = Unit {0}
NodesFit (n ∷ ns) r = IsFitNode n r × ((made : ResultOf) → node_result n r ≡ Some made → NodesFit ns made)

abbrev pub IsFitFor : SchemaOf → PlanOf → Type 0
IsFitFor schema plan = (rows : List (List CellValue)) → AreTableRows schema rows → NodesFit plan.nodes (table_result schema rows)
