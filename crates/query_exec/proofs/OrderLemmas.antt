-- An order at the end of the steps, and the rows as they stood before it.
use Rattle.std.proofs.Common.{◌≡◌, ℕ, true, Option, Some, None, List, [], ◌∷◌, ◌++◌, map, append_assoc, inl, inr, refl, sym, ap, ◌∙◌}
use Rattle.std.specs.Prelude.{option_and_then}
use Rattle.std.specs.List.{list_any}
use Rattle.std.proofs.lemmas.Bool.{cases_Bool}
use Rattle.query_meaning.specs.Apply.{names_at, values_at}
use Rattle.std.proofs.lemmas.List.Sorted.{IsPermutation-map, IsPermutation-refl}
use Rattle.cell_types.proofs.CaseLaws.{cond-None_some}
use Rattle.typed_trees.specs.TypedTree.{TruthExprOf}
use Rattle.query_meaning.specs.Laws.{RowsAreInOrder}
use Rattle.query_meaning.specs.Order.{Item, order_faults, ordered, rows_cmp, sorted}
use Rattle.query_plan.specs.Plan.{NodeOf, PlanOf, filtering, node_result, node_view, nodes_result, projecting, select_nodes, sorting, table_result}
use Rattle.result_rows.specs.Rows.{AreReordered, OrderedOf, RowsOf}
use Rattle.table_store.specs.Table.{TableOf}
use Rattle.query_exec.specs.declared.run.Run.{Run}
use Rattle.query_exec.specs.Answer.{before_order, only_select, unless_order, unordered_answer}
use Rattle.query_exec.specs.Conditions.{condition_nodes}
use Rattle.result_rows.specs.Kept.{kept_names}
use Rattle.query_exec.specs.Run.{conditions_of, passed_answer, passed_rows, places_of, steps_of, HasPassed, HasTakenBlocks, IsUnordered, KeepsUnordered}
use Rattle.query_exec.specs.Sink.{sink_kept, sink_nodes, SinkEnds}
use Rattle.query_exec.specs.Steps.{without_count}
use Rattle.query_exec.proofs.ConditionLemmas.{mapped_of, parts_give, some_of}
use Rattle.query_exec.proofs.ReadLemmas.{no_steps, read_rows}

-- ---- steps without an order at their end

selects_stay : (nodes : List NodeOf) → only_select nodes ≡ true → before_order nodes ≡ nodes
selects_stay [] all = refl
selects_stay (projecting places ∷ nodes) all = rw all refl
selects_stay (node ∷ nodes) all = absurd (cc)

node_stays : (node : NodeOf) (nodes : List NodeOf) → unless_order node ≡ node ∷ [] → before_order (node ∷ nodes) ≡ node ∷ before_order nodes
node_stays node nodes stays = elim (cases_Bool (only_select nodes)) [
  | inl e ↦ rw (e, stays, selects_stay nodes e) refl
  | inr e ↦ rw e refl
]

conditions_stay : (es : List TruthExprOf) (nodes : List NodeOf) → before_order (condition_nodes es ++ nodes) ≡ condition_nodes es ++ before_order nodes
conditions_stay [] nodes = refl
conditions_stay (e ∷ es) nodes = node_stays (filtering e) (condition_nodes es ++ nodes) refl ∙ ap (λ l. filtering e ∷ l) (conditions_stay es nodes)

selected_stay : (picked : Option (List ℕ)) (nodes : List NodeOf) → before_order (select_nodes picked ++ nodes) ≡ select_nodes picked ++ before_order nodes
selected_stay None nodes = refl
selected_stay (Some places) nodes = node_stays (projecting places) nodes refl

before_sink : (es : List TruthExprOf) (picked : Option (List ℕ)) (nodes : List NodeOf)
    → before_order (condition_nodes es ++ select_nodes picked ++ nodes) ≡ condition_nodes es ++ select_nodes picked ++ before_order nodes
before_sink es picked nodes =
    ap before_order (append_assoc (condition_nodes es) (select_nodes picked) nodes) ∙ conditions_stay es (select_nodes picked ++ nodes)
    ∙ ap (λ l. condition_nodes es ++ l) (selected_stay picked nodes) ∙ sym (append_assoc (condition_nodes es) (select_nodes picked) (before_order nodes))

-- the answer before an order is what the sink makes of the rows that passed before it puts them in order
pub unordered_is : (run : Run) (plan : PlanOf) (table : TableOf) (blocks : ℕ) → HasTakenBlocks run plan table blocks → map node_view run.steps.items ≡ []
    → unordered_answer plan table
    ≡ option_and_then (λ rows. nodes_result (before_order (sink_nodes run.sink)) (without_count (kept_names (sink_kept run.sink)) rows)) (passed_rows run (read_rows plan table))
unordered_is run plan table blocks has none =
    let es = conditions_of run in
    let picked = places_of run in
    let all = read_rows plan table in
    let r = table_result table.schema all in
    let nodes = before_order (sink_nodes run.sink) in
    ap (λ ns. nodes_result (before_order ns) r) (sym has.plan_is)
    ∙ rw (no_steps run none, before_sink es picked (sink_nodes run.sink), has.columns.names_are) (parts_give es picked nodes r all)

-- ---- at the end

-- where no steps are left, what the sink made is the answer
pub made_unordered : (old new : Run) (sunk made : OrderedOf) → SinkEnds old.sink sunk → new.steps ≡ old.steps → made.taken ≡ 0
    → (map node_view old.steps.items ≡ [] → made ≡ sunk) → KeepsUnordered old new made
made_unordered old new sunk made ends same untaken is = record {
  steps = same;
  untaken = untaken;
  unordered_is = λ none passed has. ends.stored_is passed has.pushed ∙ ap (λ (o : OrderedOf). Some o.stored) (sym (is none));
}

pub ended_unordered : (run new : Run) (plan : PlanOf) (table : TableOf) (blocks : ℕ) (given : OrderedOf) → HasTakenBlocks run plan table blocks
    → HasPassed run (passed_rows run (read_rows plan table)) → passed_answer run (passed_rows run (read_rows plan table)) ≡ Some given.rows → KeepsUnordered run new given
    → IsUnordered new plan table given
ended_unordered run new plan table blocks given has passed answer keeps =
    let some = some_of (λ rows. nodes_result (steps_of run) (without_count (kept_names (sink_kept run.sink)) rows)) (passed_rows run (read_rows plan table)) given.rows answer in
    record {
      untaken = keeps.untaken;
      unordered_is = λ none.
          let before : map node_view run.steps.items ≡ [] = ap (λ (s : _). map node_view s.items) (sym keeps.steps) ∙ none in
          unordered_is run plan table blocks has before
          ∙ rw some.1 (keeps.unordered_is before some.0 (rw some.1 at passed));
    }

-- ---- an order moves rows

itself : (made : Option RowsOf) (rows : RowsOf) → made ≡ Some rows → (before : RowsOf) × (made ≡ Some before) × AreReordered before rows
itself made rows is = (rows, is, record { names = refl; moved = IsPermutation-refl rows.rows })

pub one_order : RowsAreInOrder → (items : List Item) (r rows : RowsOf) → node_result (sorting items) r ≡ Some rows → AreReordered r rows
one_order law items r rows is =
    let made = mapped_of {B = RowsOf} (λ rs. record { names = r.names; rows = rs; count = r.count }) (ordered items r.rows) rows is in
    rw (← made.2, ← (cond-None_some (list_any (order_faults items) r.rows) (sorted (rows_cmp items) r.rows) made.0 made.1)) (record { names = refl; moved = law.rows items r.rows })

-- columns that are selected of moved rows are moved
selects_move : (nodes : List NodeOf) (before r rows : RowsOf) → only_select nodes ≡ true → AreReordered before r → nodes_result nodes r ≡ Some rows
    → (made : RowsOf) × (nodes_result nodes before ≡ Some made) × AreReordered made rows
selects_move [] before r rows all moved is = let same : r ≡ rows = cc in (before, refl, rw same at moved)
selects_move (projecting places ∷ nodes) before r rows all moved is =
    selects_move nodes (record { names = names_at places before.names; rows = map (values_at places) before.rows; count = before.count })
    (record { names = names_at places r.names; rows = map (values_at places) r.rows; count = r.count }) rows all
    (record { names = ap (names_at places) moved.names; moved = IsPermutation-map (values_at places) before.rows r.rows moved.moved }) is
selects_move (node ∷ nodes) before r rows all moved is = absurd (cc)

last_moves : RowsAreInOrder → (node : NodeOf) (nodes : List NodeOf) (r rows : RowsOf) → only_select nodes ≡ true → nodes_result (node ∷ nodes) r ≡ Some rows
    → (before : RowsOf) × (nodes_result (unless_order node ++ nodes) r ≡ Some before) × AreReordered before rows
last_moves law (sorting items) nodes r rows all is =
    let step = some_of (nodes_result nodes) (node_result (sorting items) r) rows is in
    selects_move nodes r step.0 rows all (one_order law items r step.0 step.1) step.2
last_moves law node nodes r rows all is = itself _ rows is

pub nodes_move : RowsAreInOrder → (nodes : List NodeOf) (r rows : RowsOf) → nodes_result nodes r ≡ Some rows
    → (before : RowsOf) × (nodes_result (before_order nodes) r ≡ Some before) × AreReordered before rows
nodes_move law [] r rows is = itself _ rows is
nodes_move law (node ∷ nodes) r rows is = elim (cases_Bool (only_select nodes)) [
  | inl e ↦ rw e (last_moves law node nodes r rows e is)
  | inr e ↦
      (let step = some_of (nodes_result nodes) (node_result node r) rows is in
      let rest = nodes_move law nodes step.0 rows step.2 in
      rw (e, step.1) rest)
]
