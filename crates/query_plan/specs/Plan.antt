-- Plans, and what they mean: each step is a function from a whole result to a result, or to none, which is a division by zero.
use Rattle.std.specs.Prelude.{◌≡◌, ℕ, Bool, true, false, List, [], ◌∷◌, ◌++◌, Option, Some, None, drop, length, map, option_and_then, option_map, take, if◌then◌else◌, Vec}
use Rattle.std.specs.Option.{unwrap_or}
use Rattle.cell_types.specs.Value.{CellValue}
use Rattle.csvw_meta.specs.Schema.{SchemaOf}
use Rattle.typed_trees.specs.TypedTree.{TruthExprOf, boxed_truth}
use Rattle.odata_query.specs.Aggregate.{NamedAggregateOf, aggregates_view, TypedTransformationOf, filter_rows, aggregate_rows, group_rows}
use Rattle.odata_query.specs.Query.{TypedOf, order_view}
use Rattle.query_plan.specs.declared.plan.Node.{Node}
use Rattle.query_plan.specs.declared.plan.Node.TheVariants as node
use Rattle.query_plan.specs.declared.plan.Plan.{Plan}
use Rattle.query_plan.specs.declared.plan.Slice.{Slice}
use Rattle.query_meaning.specs.Apply.{computed_values, group_values, names_at, rows_of_group, values_at}
use Rattle.query_meaning.specs.Filter.{passing}
use Rattle.query_meaning.specs.Meaning.{MeaningOf, ResultOf, first_rows, number, query_meaning, result, table_names}
use Rattle.query_meaning.specs.Order.{Item, ordered}
use Rattle.query_plan.specs.Scan.{ScanOf, bare, read_blocks, rows_of_blocks, scan_view}

-- a piece of the rows, and whether the number of all of them is the count
pub record SliceOf : Type 0 where
  pub skip : ℕ
  pub top : Option ℕ
  pub counts : Bool

-- a step, whichever memory keeps it
pub data NodeOf : Type 0 where
  filtering : TruthExprOf → NodeOf
  aggregating : List NamedAggregateOf → NodeOf
  grouping : List ℕ → List NamedAggregateOf → NodeOf
  sorting : List Item → NodeOf
  choosing : List Item → ℕ → NodeOf
  slicing : SliceOf → NodeOf
  projecting : List ℕ → NodeOf

abbrev pub slice_view : Slice → SliceOf
slice_view s = record { skip = s.skip; top = s.top; counts = s.counts }

abbrev pub node_view : Node → NodeOf
node_view (node.Filter e) = filtering (boxed_truth e)
node_view (node.Aggregate aggregates) = aggregating (aggregates_view aggregates)
node_view (node.Group places aggregates) = grouping places.items (aggregates_view aggregates)
node_view (node.Sort items) = sorting (map order_view items.items)
node_view (node.Best items most) = choosing (map order_view items.items) most
node_view (node.Slice s) = slicing (slice_view s)
node_view (node.Project places) = projecting places.items

-- what is read of a table, and the steps on its rows, in turn
pub record PlanOf : Type 0 where
  pub scan : ScanOf
  pub nodes : List NodeOf

abbrev pub plan_view : Plan → PlanOf
plan_view plan = record { scan = scan_view plan.scan; nodes = map node_view plan.nodes.items }

-- ---- what a step makes of a result

-- the rows: those on which a condition is true; one row of aggregates; a row for each group, of its values and then its aggregates; the rows in order; the
-- first of these, up to a count, though the items are evaluated on every row; a piece of the rows; the values of some columns
abbrev pub node_rows : NodeOf → List (List CellValue) → Option (List (List CellValue))
node_rows (filtering e) rows = passing e rows
node_rows (aggregating aggregates) rows = Some (computed_values aggregates rows ∷ [])
node_rows (grouping places aggregates) rows =
    Some (map (λ values. values ++ computed_values aggregates (rows_of_group places rows values)) (group_values places rows))
node_rows (sorting items) rows = ordered items rows
node_rows (choosing items most) rows = option_map (take most) (ordered items rows)
node_rows (slicing s) rows = Some (first_rows s.top (drop s.skip rows))
node_rows (projecting places) rows = Some (map (values_at places) rows)

abbrev pub node_names : NodeOf → List (List ℕ) → List (List ℕ)
node_names (aggregating aggregates) names = map (λ a. a.alias) aggregates
node_names (grouping places aggregates) names = names_at places names ++ map (λ a. a.alias) aggregates
node_names (projecting places) names = names_at places names
node_names _ names = names

abbrev pub counted : SliceOf → ResultOf → Option ℕ
counted s r = if s.counts then Some (length r.rows) else r.count

abbrev pub node_count : NodeOf → ResultOf → Option ℕ
node_count (slicing s) r = counted s r
node_count _ r = r.count

abbrev pub node_result : NodeOf → ResultOf → Option ResultOf
node_result n r = option_map (λ rows. record { names = node_names n r.names; rows = rows; count = node_count n r }) (node_rows n r.rows)

-- one step after another: none below is none above
abbrev pub nodes_result : List NodeOf → ResultOf → Option ResultOf
nodes_result [] r = Some r
nodes_result (n ∷ ns) r = option_and_then (nodes_result ns) (node_result n r)

-- the rows of a table under the names of its columns, uncounted
abbrev pub table_result : SchemaOf → List (List CellValue) → ResultOf
table_result schema rows = record { names = table_names schema; rows = rows; count = None }

-- the conditions of the filters that the steps begin with
abbrev pub leading : List NodeOf → List TruthExprOf
leading (filtering e ∷ nodes) = e ∷ leading nodes
leading _ = []

-- the blocks that a plan reads of a table, in order: those that its tests admit, up to its stop
abbrev pub needed : PlanOf → List (List CellValue) → List ℕ
needed plan rows = read_blocks plan.scan (leading plan.nodes) rows

-- the steps on the rows of these
abbrev pub plan_result : SchemaOf → PlanOf → List (List CellValue) → Option ResultOf
plan_result schema plan rows = nodes_result plan.nodes (table_result schema (rows_of_blocks rows (needed plan rows)))

-- ---- the steps of a query, in its own order

abbrev pub transformation_node : TypedTransformationOf → NodeOf
transformation_node (filter_rows e) = filtering e
transformation_node (aggregate_rows aggregates) = aggregating aggregates
transformation_node (group_rows places aggregates) = grouping places aggregates

abbrev pub apply_nodes : List TypedTransformationOf → List NodeOf
apply_nodes transformations = map transformation_node transformations

abbrev pub filter_nodes : Option TruthExprOf → List NodeOf
filter_nodes None = []
filter_nodes (Some e) = filtering e ∷ []

abbrev pub order_nodes : List Item → List NodeOf
order_nodes [] = []
order_nodes (item ∷ items) = sorting (item ∷ items) ∷ []

-- no step, where all rows are asked for and no count
abbrev pub piece_nodes : SliceOf → ℕ → Option ℕ → Bool → List NodeOf
piece_nodes s ℕ.zero None false = []
piece_nodes s _ _ _ = slicing s ∷ []

abbrev pub slice_nodes : SliceOf → List NodeOf
slice_nodes s = piece_nodes s s.skip s.top s.counts

abbrev pub asked_slice : TypedOf → SliceOf
asked_slice q = record { skip = q.skip; top = q.top; counts = q.count }

abbrev pub select_nodes : Option (List ℕ) → List NodeOf
select_nodes None = []
select_nodes (Some places) = projecting places ∷ []

-- for `/$count` the rows are counted, and neither their columns nor they are kept
abbrev pub count_nodes : List NodeOf
count_nodes = projecting [] ∷ slicing (record { skip = 0; top = Some 0; counts = true }) ∷ []

abbrev pub naive_plan : TypedOf → PlanOf
naive_plan q = record {
  scan = bare;
  nodes =
      apply_nodes q.apply
      ++ filter_nodes q.filter
      ++ (if q.counting then count_nodes else order_nodes q.order ++ slice_nodes (asked_slice q) ++ select_nodes q.select);
}

-- steps after others
abbrev pub Adds : {A : Type 0} → Vec Node A → List NodeOf → Vec Node A → Type 0
Adds old made new = map node_view new.items ≡ map node_view old.items ++ made

-- ---- a plan for a query

-- what the result of a plan answers: `/$count` asks for the count alone
abbrev pub answer_of : Bool → ResultOf → MeaningOf
answer_of true r = number (unwrap_or r.count 0)
answer_of false r = result r

-- on the rows of any table the plan answers what the query means
abbrev pub MeansQuery : PlanOf → TypedOf → Type 0
MeansQuery plan q = (schema : SchemaOf) (rows : List (List CellValue))
    → option_map (answer_of q.counting) (plan_result schema plan rows) ≡ query_meaning schema q rows
