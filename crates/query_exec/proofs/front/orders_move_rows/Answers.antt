use Rattle.query_plan.specs.Plan.{needed, table_result}
use Rattle.query_plan.specs.Scan.{rows_of_blocks}
use Rattle.query_exec.proofs.OrderLemmas.{nodes_move}
use Rattle.query_exec.proofs.front.orders_move_rows.Goals as goal

pub returns : goal.returns
returns c = λ plan table rows is.
    nodes_move c.rows_are_in_order.ensures plan.nodes (table_result table.schema (rows_of_blocks table.rows (needed plan table.rows))) rows is
