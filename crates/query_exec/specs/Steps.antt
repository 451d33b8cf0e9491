-- Steps of a plan on rows.
use Rattle.std.specs.Prelude.{◌≡◌, ℕ, List, Option, Some, None, Result, Ok, Err}
use Rattle.cell_types.specs.Value.{CellValue}
use Rattle.row_eval.specs.declared.fault.EvalFault.{EvalFault}
use Rattle.row_eval.specs.declared.fault.EvalFault.TheVariants.{DivisionByZero, NoMemory}
use Rattle.query_meaning.specs.Meaning.{ResultOf}
use Rattle.odata_query.specs.Aggregate.{NamedAggregateOf}
use Rattle.result_rows.specs.Rows.{OrderedOf}
use Rattle.query_plan.specs.Plan.{NodeOf, aggregating, grouping}

-- rows in their order, none of which was taken: those that there are
pub record IsInOrder (made : Option ResultOf) (given : OrderedOf) : Type 0 where
  pub rows_are : made ≡ Some given.rows
  pub untaken : given.taken ≡ 0

-- they are, and a division by zero just where there are none
abbrev pub GivesInOrder : Option ResultOf → Result OrderedOf EvalFault → Type 0
GivesInOrder made (Ok given) = IsInOrder made given
GivesInOrder made (Err DivisionByZero) = made ≡ None
GivesInOrder made (Err NoMemory) = Unit {0}

-- rows under their names, uncounted
abbrev pub without_count : List (List ℕ) → List (List CellValue) → ResultOf
without_count names rows = record { names = names; rows = rows; count = None }

-- one row of aggregates, or a row for each group
abbrev pub aggregate_node : Option (List ℕ) → List NamedAggregateOf → NodeOf
aggregate_node None aggregates = aggregating aggregates
aggregate_node (Some places) aggregates = grouping places aggregates
