-- The conditions of a plan fit the rows of a block.
use Rattle.std.proofs.Common.{◌≡◌, ℕ, ◌<◌, List, [], ◌∷◌, ◌++◌, length, get_or, drop, map, take, refl, ap, append_assoc, arith}
use Rattle.std.specs.Prelude.{None, Some, IfSome, Option, option_map, option_to_list}
use Rattle.std.specs.List.{All}
use Rattle.std.proofs.lemmas.List.{length-map}
use Rattle.cell_types.specs.Value.{CellValue}
use Rattle.csvw_meta.specs.Schema.{SchemaOf}
use Rattle.typed_trees.specs.TypedTree.{TruthExprOf}
use Rattle.table_store.specs.Fits.{HasTableRows, IsTableRow}
use Rattle.table_store.specs.Table.{TableOf}
use Rattle.query_plan.specs.Fitting.{IsFitFor, NodesFit}
use Rattle.query_meaning.specs.Fitting.{AreTableRows}
use Rattle.query_plan.specs.Laws.{NodesInTurn}
use Rattle.query_meaning.specs.Meaning.{first_rows, selected_names, table_names}
use Rattle.query_meaning.specs.Order.{Item}
use Rattle.query_plan.specs.Plan.{NodeOf, PlanOf, counted, projecting, select_nodes, slice_view, slicing, sorting, table_result}
use Rattle.query_plan.specs.Rewrite.{chosen}
use Rattle.query_plan.specs.declared.plan.Slice.{Slice}
use Rattle.query_exec.specs.declared.run.Run.{Run}
use Rattle.block_filter.specs.Conditions.{ConditionsFit, ConditionsInTurn}
use Rattle.query_exec.specs.Conditions.{condition_nodes}
use Rattle.query_exec.specs.Run.{conditions_of, places_of, steps_of, HasTakenBlocks}
use Rattle.query_exec.specs.Sink.{FitNames}
use Rattle.query_exec.specs.Steps.{without_count}
use Rattle.query_exec.proofs.ConditionLemmas.{conditions_give}

-- the rows of a table are rows that a plan is for
pub are_rows : (table : TableOf) → HasTableRows table → AreTableRows table.schema table.rows
are_rows table rows = record { each = rows.each; count = rows.count }

-- so is one of them
one_row : (schema : SchemaOf) (row : List CellValue) → IsTableRow schema.columns row → AreTableRows schema (row ∷ [])
one_row schema row is = record { each = λ k d h. let first : k ≡ 0 = omega arith in rw first is; count = omega arith }

-- what the conditions compute on a row fits
conditions_fit : (es : List TruthExprOf) (above : List NodeOf) (names : List (List ℕ)) (count : Option ℕ) (row : List CellValue)
    → NodesFit (condition_nodes es ++ above) (record { names = names; rows = row ∷ []; count = count }) → ConditionsFit es row
conditions_fit [] above names count row h = tt
conditions_fit (e ∷ es) above names count row h = (
  h.0 0 [] (omega arith),
  λ passed. conditions_fit es above names count row (h.1 (record { names = names; rows = row ∷ []; count = count })
      (ap (option_map (λ rows. record { names = names; rows = rows; count = count })) passed)),
)

pub block_fits : (run : Run) (plan : PlanOf) (table : TableOf) (handed : ℕ) (block : TableOf) → HasTakenBlocks run plan table handed → HasTableRows block
    → block.schema ≡ table.schema → All (ConditionsFit (conditions_of run)) block.rows
block_fits run plan table handed block has rows same k d h =
    let row = get_or block.rows k d in
    let above = select_nodes (places_of run) ++ steps_of run in
    conditions_fit (conditions_of run) above (table_names table.schema) None row
    (rw (← (append_assoc (condition_nodes (conditions_of run)) (select_nodes (places_of run)) (steps_of run)), has.plan_is) (has.fits (row ∷ []) (one_row table.schema row (rw same at (rows.each k d h)))))

-- ---- the columns that a plan picks after its conditions

picked_within : (picked : Option (List ℕ)) (steps : List NodeOf) (schema : SchemaOf) (rows : List (List CellValue))
    → NodesFit (select_nodes picked ++ steps) (table_result schema rows) → IfSome picked (All (λ place. place < length schema.columns))
picked_within None steps schema rows fit = tt
picked_within (Some places) steps schema rows fit = rw (length-map schema.columns (λ column. column.name)) at fit.0

no_rows : (schema : SchemaOf) → AreTableRows schema []
no_rows schema = record { each = λ k d h. absurd (omega (arith, h)); count = omega arith }

-- no rows fit what comes after the conditions
after_conditions : NodesInTurn → ConditionsInTurn → (es : List TruthExprOf) (picked : Option (List ℕ)) (steps : List NodeOf) (schema : SchemaOf) (plan : PlanOf)
    → condition_nodes es ++ select_nodes picked ++ steps ≡ plan.nodes → IsFitFor schema plan → NodesFit (select_nodes picked ++ steps) (table_result schema [])
after_conditions law turn es picked steps schema plan is fits =
    let r = table_result schema [] in
    law.above_fit (condition_nodes es) (select_nodes picked ++ steps) r r
    (rw (← (append_assoc (condition_nodes es) (select_nodes picked) steps), is) (fits [] (no_rows schema))) (conditions_give es r [] [] (turn.none es))

-- are columns of the table
pub places_within : NodesInTurn → ConditionsInTurn → (es : List TruthExprOf) (picked : Option (List ℕ)) (steps : List NodeOf) (schema : SchemaOf) (plan : PlanOf)
    → condition_nodes es ++ select_nodes picked ++ steps ≡ plan.nodes → IsFitFor schema plan → IfSome picked (All (λ place. place < length schema.columns))
places_within law turn es picked steps schema plan is fits = picked_within picked steps schema [] (after_conditions law turn es picked steps schema plan is fits)

-- and no rows in these fit the steps after them
picked_fit : (picked : Option (List ℕ)) (steps : List NodeOf) (schema : SchemaOf) → NodesFit (select_nodes picked ++ steps) (table_result schema [])
    → NodesFit steps (without_count (selected_names picked (table_names schema)) [])
picked_fit None steps schema fit = fit
picked_fit (Some places) steps schema fit = fit.1 (without_count (selected_names (Some places) (table_names schema)) []) refl

pub steps_fit : NodesInTurn → ConditionsInTurn → (es : List TruthExprOf) (picked : Option (List ℕ)) (steps : List NodeOf) (schema : SchemaOf) (plan : PlanOf)
    → condition_nodes es ++ select_nodes picked ++ steps ≡ plan.nodes → IsFitFor schema plan → NodesFit steps (without_count (selected_names picked (table_names schema)) [])
steps_fit law turn es picked steps schema plan is fits = picked_fit picked steps schema (after_conditions law turn es picked steps schema plan is fits)

-- ---- after an order

pub after_order : (items : List Item) (most : Option ℕ) (nodes : List NodeOf) (names : List (List ℕ)) → NodesFit (chosen (sorting items) most ∷ nodes) (without_count names []) → FitNames names nodes
after_order items None nodes names fit = record { result = without_count names []; names_are = refl; fit = fit.1 (without_count names []) refl }
after_order items (Some most) nodes names fit = record { result = without_count names (take most []); names_are = refl; fit = fit.1 (without_count names (take most [])) refl }

pub after_piece : (slice : Option Slice) (nodes : List NodeOf) (names : List (List ℕ)) → FitNames names (map (λ s. slicing (slice_view s)) (option_to_list slice) ++ nodes) → FitNames names nodes
after_piece None nodes names fits = fits
after_piece (Some slice) nodes names fits =
    let r = fits.result in
    record {
      result = record { names = r.names; rows = first_rows slice.top (drop slice.skip r.rows); count = counted (slice_view slice) r };
      names_are = fits.names_are;
      fit = fits.fit.1 _ refl;
    }
