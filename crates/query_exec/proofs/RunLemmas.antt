-- What the calls of a run give after the blocks that were handed in.
use Rattle.std.proofs.Common.{◌≡◌, ◌⊎◌, inl, inr, ℕ, ◌+◌, ◌<◌, true, false, Option, Some, None, List, ◌++◌, length, drop, map, refl, sym, ap, ◌∙◌, subst, arith}
use Rattle.std.specs.Prelude.{IsErrAnd, Result, Ok, Err, count_by, is_some, max, option_map}
use Rattle.std.proofs.Math.Nat.{le-max_right, max-eq_left, max-eq_right}
use Rattle.std.proofs.lemmas.Bool.{cases_lt}
use Rattle.std.proofs.lemmas.Option.{slice_get_within}
use Rattle.cell_types.specs.Value.{CellValue}
use Rattle.typed_trees.specs.TypedTree.{TruthExprOf}
use Rattle.table_store.specs.Fits.{HasTableRows}
use Rattle.table_store.specs.Table.{TableOf}
use Rattle.row_columns.specs.Picked.{numbered}
use Rattle.block_filter.specs.declared.block.Passed.{Passed}
use Rattle.block_filter.specs.Conditions.{passing_all, rows_joined, ConditionsInTurn}
use Rattle.block_filter.specs.Passing.{ArePassing}
use Rattle.query_meaning.specs.Filter.{passes_each}
use Rattle.query_meaning.specs.Meaning.{first_rows}
use Rattle.query_plan.specs.Fitting.{NodesFit}
use Rattle.odata_types.specs.Laws.{TablesAreInputs}
use Rattle.query_plan.specs.Laws.{NodesInTurn, ScansReadTableRows}
use Rattle.query_plan.specs.Plan.{PlanOf, needed, node_view, nodes_result}
use Rattle.result_rows.specs.Rows.{OrderedOf, RowsOf}
use Rattle.query_exec.specs.declared.fault.ExecFault.{ExecFault}
use Rattle.query_exec.specs.declared.fault.ExecFault.TheVariants.{DivisionByZero, NoMemory, Failed}
use Rattle.query_exec.specs.declared.run.Run.{Run}
use Rattle.query_exec.specs.Steps.{without_count, GivesInOrder}
use Rattle.query_exec.specs.Fault.{exec_fault}
use Rattle.row_eval.specs.declared.fault.EvalFault.{EvalFault}
use Rattle.row_eval.specs.declared.fault.EvalFault.TheVariants as eval
use Rattle.result_rows.specs.Kept.{kept_names, AreKeptOf}
use Rattle.result_rows.specs.Selected.{selected_rows}
use Rattle.query_exec.specs.Run.{conditions_of, handed_block, handed_rows, next_block, passed_answer, passed_rows, places_of, run_length, wanted_block, HasPassed, HasTakenBlocks, HasTakenIn, IsRunAnswer, IsReady, MayTakeIn, RunGoesOn, StandsFor, StepsTo}
use Rattle.query_exec.specs.Sink.{room_behind, sink_kept, sink_nodes, spare_of, AreFound, SinkGives, HasPushed, MayFinish, MayPush, PushesOn}
use Rattle.query_exec.proofs.ConditionLemmas.{mapped_of, none_mapped}
use Rattle.query_exec.proofs.CountLemmas.{few_pass, passed_count}
use Rattle.query_exec.proofs.DayLemmas.{table_days}
use Rattle.query_exec.proofs.FitLemmas.{block_fits}
use Rattle.query_exec.proofs.NeededLemmas.{is_block, is_no_block, none_behind}
use Rattle.query_exec.proofs.OrderLemmas.{ended_unordered}
use Rattle.query_exec.proofs.ReadLemmas.{answer_is, block_read, handed_are_rows, is_ready, one_block_more, passed_fit, wanted_is_next, whole_read}

-- ---- calls

max_cases : (a b : ℕ) → (max a b ≡ a) ⊎ (max a b ≡ b)
max_cases a b = elim (cases_lt a b) [
  | inl less ↦ inr (max-eq_right (omega (arith, less)))
  | inr more ↦ inl (max-eq_left more)
]

-- the call after which no block is needed is the last
last_none : (plan : PlanOf) (table : TableOf) (handed : ℕ) → handed < run_length plan table → next_block plan table handed ≡ None → handed + 1 ≡ run_length plan table
last_none plan table handed within beyond =
    let over = none_behind (needed plan table.rows) handed beyond in
    omega (arith, within, over, max_cases 1 (length (needed plan table.rows)))

last_block : (plan : PlanOf) (table : TableOf) (handed number : ℕ) → next_block plan table handed ≡ Some number → next_block plan table (handed + 1) ≡ None
    → handed + 1 ≡ run_length plan table
last_block plan table handed number next beyond =
    let over = none_behind (needed plan table.rows) (handed + 1) beyond in
    let inside = slice_get_within (needed plan table.rows) handed number next in
    omega (arith, over, inside, max_cases 1 (length (needed plan table.rows)))

some_next : (next : Option ℕ) → is_some next ≡ true → (number : ℕ) × (next ≡ Some number)
some_next None is = absurd (cc)
some_next (Some number) is = (number, refl)

-- of `handed` calls before
pub answers : (run new : Run) (plan : PlanOf) (table : TableOf) (handed blocks : ℕ) (result : Result (Option OrderedOf) ExecFault) → HasTakenBlocks run plan table blocks
    → ((number : ℕ) → next_block plan table blocks ≡ Some number → blocks ≡ handed + 1) → (next_block plan table blocks ≡ None → handed + 1 ≡ run_length plan table)
    → RunGoesOn run new result → StepsTo plan table handed new result
answers run new plan table handed blocks (Ok None) has more last goes =
    let next = some_next (next_block plan table blocks) (ap is_some (sym (wanted_is_next run plan table blocks has)) ∙ goes.0) in
    let one : blocks ≡ handed + 1 = more next.0 next.1 in
    let inside = slice_get_within (needed plan table.rows) blocks next.0 next.1 in
    let within : handed + 1 < run_length plan table = omega (arith, inside, one, le-max_right 1 (length (needed plan table.rows))) in
    (within, record { read = subst (λ (r : Run). HasTakenBlocks r plan table (handed + 1)) (sym goes.1) (subst (HasTakenBlocks run plan table) one has); goes_on = within })
answers run new plan table handed blocks (Ok (Some given)) has more last goes =
    let beyond = sym (wanted_is_next run plan table blocks has) ∙ goes.0 in
    let passed = whole_read run plan table blocks has beyond in
    let answer = goes.1 _ passed in
    (last beyond, answer_is run plan table blocks has ∙ answer, ended_unordered run new plan table blocks given has passed answer goes.2)
answers run new plan table handed blocks (Err DivisionByZero) has more last goes =
    let beyond = sym (wanted_is_next run plan table blocks has) ∙ goes.0 in
    (last beyond, answer_is run plan table blocks has ∙ goes.1 _ (whole_read run plan table blocks has beyond))
answers run new plan table handed blocks (Err NoMemory) has more last goes = goes
answers run new plan table handed blocks (Err Failed) has more last goes = goes

module _ (run : Run) (plan : PlanOf) (table : TableOf) (handed : ℕ) (stands : StandsFor run plan table handed) where
  -- ---- without a block

  pub after_none : (next : Run) (result : Result (Option OrderedOf) ExecFault) → None ≡ handed_block plan table handed → RunGoesOn run next result
      → StepsTo plan table handed next result
  after_none next result is goes =
      let beyond = is_no_block plan table handed is in
      answers run next plan table handed handed result stands.read
      (λ number h. absurd (cc (beyond, h))) (λ h. last_none plan table handed stands.goes_on beyond) goes

  pub ready_behind_none : NodesInTurn → ScansReadTableRows → wanted_block run ≡ None → IsReady run
  ready_behind_none turn scans beyond = is_ready turn scans run plan table handed stands.read beyond

  -- ---- after a block

  module _ (law : ConditionsInTurn) (block : TableOf) (is : Some block ≡ handed_block plan table handed) where
    read_behind : (new : Run) → HasTakenIn run new block.rows → HasTakenBlocks new plan table (handed + 1)
    read_behind new taken =
        let at = is_block plan table handed block is in
        block_read law run new plan table handed at.0 stands.read at.1 (subst (λ (b : TableOf). HasTakenIn run new b.rows) at.2 taken)

    pub after_block : (new next : Run) (result : Result (Option OrderedOf) ExecFault) → HasTakenIn run new block.rows → RunGoesOn new next result
        → StepsTo plan table handed next result
    after_block new next result taken goes =
        let at = is_block plan table handed block is in
        answers new next plan table handed (handed + 1) result (read_behind new taken) (λ number h. refl)
        (λ h. last_block plan table handed at.0 at.1 h) goes

    pub ready_behind_block : NodesInTurn → ScansReadTableRows → (new : Run) → HasTakenIn run new block.rows → wanted_block new ≡ None → IsReady new
    ready_behind_block turn scans new taken beyond = is_ready turn scans new plan table (handed + 1) (read_behind new taken) beyond

    -- what passes of its rows may go to the sink
    pub block_may_be_taken : NodesInTurn → ScansReadTableRows → TablesAreInputs → HasTableRows block → MayTakeIn run block
    block_may_be_taken turn scans inputs rows_are =
        let at = is_block plan table handed block is in
        let schema_is : block.schema ≡ table.schema = ap (λ (b : TableOf). b.schema) at.2 in
        let has = stands.read in
        let whole = handed_rows plan table (handed + 1) in
        let are = handed_are_rows scans plan table (handed + 1) has.are_rows in
        let passed : (rows : List (List CellValue)) → rows_joined (passed_rows run (handed_rows plan table handed)) (passed_rows run block.rows) ≡ Some rows
        → passed_rows run whole ≡ Some rows =
        λ rows e. sym (one_block_more law run plan table handed at.0 at.1)
        ∙ ap (λ (b : TableOf). rows_joined (passed_rows run (handed_rows plan table handed)) (passed_rows run b.rows)) (sym at.2) ∙ e in
        record {
          conditions = block_fits run plan table handed block has rows_are schema_is;
          columns = subst (AreKeptOf (sink_kept run.sink)) (sym schema_is) has.columns;
          days = table_days inputs block rows_are;
          passed = passed_rows run (handed_rows plan table handed);
          has = has.passed;
          few = λ rows e. omega (arith, few_pass (conditions_of run) (places_of run) whole rows (passed rows e), are.count);
          fits = λ rows e.
              turn.below_fit (sink_nodes run.sink) (map node_view run.steps.items) (without_count (kept_names (sink_kept run.sink)) rows)
              (passed_fit turn run plan table handed whole rows has are (passed rows e));
        }

-- ---- a block is taken in

-- what was found, unless a condition divided by zero
found_of : (es : List TruthExprOf) (most : Option ℕ) (rows : List (List CellValue)) (found : Passed) → ArePassing es most rows found → found.faulted ≡ false
    → (passing : List (List CellValue)) × (passing_all es rows ≡ Some passing) × AreFound most rows found passing
found_of es most rows found are works =
    let some = mapped_of (first_rows most) (passing_all es rows) (numbered found.rows rows) (rw works at are.passed) in (
      some.0,
      some.1,
      record { within = are.within; first = sym some.2; count = are.count ∙ sym (passed_count es rows some.0 some.1) },
    )

-- rows passed before where no condition divided by zero
pub some_passed : (run : Run) (passed : Option (List (List CellValue))) → HasPassed run passed → run.faulted ≡ false
    → (rows : List (List CellValue)) × (passed ≡ Some rows) × HasPushed run.sink rows
some_passed run None has works = absurd (cc (works, has.faulted))
some_passed run (Some rows) has works = (rows, refl, has.pushed)

pub may_push : (run : Run) (block : TableOf) (found : Passed) → MayTakeIn run block → ArePassing (conditions_of run) (spare_of run.sink) block.rows found
    → run.faulted ≡ false → found.faulted ≡ false → MayPush run.sink block found
may_push run block found may are works still =
    let new = found_of (conditions_of run) (spare_of run.sink) block.rows found are still in
    let old = some_passed run may.passed may.has works in
    let joined : rows_joined may.passed (passed_rows run block.rows) ≡ Some (old.0 ++ selected_rows (places_of run) new.0) =
    ap (λ passed. rows_joined passed (passed_rows run block.rows)) old.1
    ∙ ap (λ passed. rows_joined (Some old.0) (option_map (selected_rows (places_of run)) passed)) new.1 in
    record {
      passing = new.0;
      are_found = new.2;
      columns = may.columns;
      days = may.days;
      before = old.0;
      pushed = old.2;
      few = may.few (old.0 ++ selected_rows (places_of run) new.0) joined;
      fits = may.fits (old.0 ++ selected_rows (places_of run) new.0) joined;
    }

none_passed : (run : Run) (passed : Option (List (List CellValue))) → HasPassed run passed → run.faulted ≡ true → passed ≡ None
none_passed run None has faults = refl
none_passed run (Some rows) has faults = absurd (cc (faults, has.faulted))

-- a condition divided by zero on rows before
pub fault_before : (old : Run) (rows : List (List CellValue)) → old.faulted ≡ true → (before : Option (List (List CellValue))) → HasPassed old before
    → rows_joined before (passed_rows old rows) ≡ None
fault_before old rows faults before has = ap (λ passed. rows_joined passed (passed_rows old rows)) (none_passed old before has faults)

joined_none : (passed : Option (List (List CellValue))) → rows_joined passed None ≡ None
joined_none None = refl
joined_none (Some rows) = refl

-- or on these
pub fault_found : (old : Run) (most : Option ℕ) (rows : List (List CellValue)) (found : Passed) → ArePassing (conditions_of old) most rows found → found.faulted ≡ true
    → (before : Option (List (List CellValue))) → HasPassed old before → rows_joined before (passed_rows old rows) ≡ None
fault_found old most rows found are faults before has =
    let none = none_mapped (first_rows most) (passing_all (conditions_of old) rows) (rw faults at are.passed) in rw none (joined_none before)

pub faulted_taken : (old new : Run) (rows : List (List CellValue)) → new ≡ record old { left = new.left; room = new.room; faulted = new.faulted } → new.faulted ≡ true → new.left.items ≡ drop 1 old.left.items
    → new.room ≡ room_behind old.room (count_by (passes_each (conditions_of old)) rows)
    → ((before : Option (List (List CellValue))) → HasPassed old before → rows_joined before (passed_rows old rows) ≡ None) → HasTakenIn old new rows
faulted_taken old new rows is faults left room none = record {
  conditions = rw is refl;
  stage = rw is refl;
  steps = rw is refl;
  columns = rw is (record { places = refl; names = refl; kinds = refl });
  left_are = left;
  room_is = room;
  passed = λ before has. rw (none before has) (record { faulted = faults; pushed = tt });
}

-- rows that pass no more, once a condition divided by zero
pub passed_over : (old new : Run) (rows : List (List CellValue)) → old.faulted ≡ true → old.room ≡ None → new ≡ record old { left = new.left }
    → new.left.items ≡ drop 1 old.left.items → HasTakenIn old new rows
passed_over old new rows faults room is left =
    faulted_taken old new rows
    (subst (λ (r : Run). r ≡ record old { left = r.left; room = r.room; faulted = r.faulted }) (sym is) refl)
    (ap (λ (r : Run). r.faulted) is ∙ faults) left
    (ap (λ (r : Run). r.room) is ∙ room ∙ ap (λ room. room_behind room (count_by (passes_each (conditions_of old)) rows)) (sym room))
    (λ before has. ap (λ passed. rows_joined passed (passed_rows old rows)) (none_passed old before has faults))

pub pushed_taken : (old new : Run) (rows : List (List CellValue)) (found : Passed) → ArePassing (conditions_of old) (spare_of old.sink) rows found → old.faulted ≡ false
    → found.faulted ≡ false → new ≡ record old { left = new.left; room = new.room; sink = new.sink } → new.left.items ≡ drop 1 old.left.items
    → new.room ≡ room_behind old.room found.count → PushesOn old.sink new.sink rows found → HasTakenIn old new rows
pushed_taken old new rows found are works still is left room pushes =
    let more = found_of (conditions_of old) (spare_of old.sink) rows found are still in
    record {
      conditions = rw is refl;
      stage = rw is refl;
      steps = rw (ap (λ (r : Run). r.steps) is, pushes.nodes) refl;
      columns = pushes.columns;
      left_are = left;
      room_is = room ∙ ap (room_behind old.room) are.count;
      passed = λ before has.
          let some = some_passed old before has works in
          rw (some.1, more.1) (record { faulted = ap (λ (r : Run). r.faulted) is ∙ works; pushed = pushes.pushed some.0 more.0 more.2 some.2 });
    }

-- ---- the end

pub may_finish : (run : Run) → IsReady run → run.faulted ≡ false → NodesInTurn → MayFinish run.sink
may_finish run ready works turn =
    let some = some_passed run ready.passed ready.has works in
    record {
      width = ready.width;
      rows = some.0;
      pushed = some.2;
      fits = turn.below_fit (sink_nodes run.sink) (map node_view run.steps.items) (without_count (kept_names (sink_kept run.sink)) some.0) (ready.fits some.0 some.1);
    }

-- a fault at the end is one of the run
pub fault_on : (run new : Run) (fault : EvalFault) (result : Result (Option OrderedOf) ExecFault) → wanted_block run ≡ None → (fault ≡ eval.DivisionByZero → IsRunAnswer run None)
    → IsErrAnd result (λ made. made ≡ exec_fault fault) → RunGoesOn run new result
fault_on run new fault (Ok made) beyond none is = absurd is
fault_on run new eval.DivisionByZero (Err made) beyond none is = rw is (beyond, none refl)
fault_on run new eval.NoMemory (Err made) beyond none is = rw is tt

module _ (run : Run) (ready : IsReady run) (works : run.faulted ≡ false) (turn : NodesInTurn) (sunk : RowsOf) (sinks : SinkGives run.sink sunk) where
  pub steps_fit : NodesFit (map node_view run.steps.items) sunk
  steps_fit =
      let some = some_passed run ready.passed ready.has works in
      turn.above_fit (sink_nodes run.sink) (map node_view run.steps.items) (without_count (kept_names (sink_kept run.sink)) some.0) sunk
      (ready.fits some.0 some.1) (sinks.gives some.0 some.2)

  -- what the steps make of what the sink made is the answer
  pub answer_made : (answer : Option RowsOf) → nodes_result (map node_view run.steps.items) sunk ≡ answer → IsRunAnswer run answer
  answer_made answer is = λ passed has.
      let some = some_passed run passed has works in
      let r = without_count (kept_names (sink_kept run.sink)) some.0 in
      ap (passed_answer run) some.1 ∙ turn.turn (sink_nodes run.sink) (map node_view run.steps.items) r ∙ rw (sinks.gives some.0 some.2) is

  -- a fault of the steps is one of the run
  pub fault_goes_on : (new : Run) (fault : EvalFault) (result : Result (Option OrderedOf) ExecFault) → wanted_block run ≡ None
      → GivesInOrder (nodes_result (map node_view run.steps.items) sunk) (Err fault) → IsErrAnd result (λ made. made ≡ exec_fault fault)
      → RunGoesOn run new result
  fault_goes_on new fault result beyond gives is = fault_on run new fault result beyond (λ e. answer_made None (rw e at gives)) is
