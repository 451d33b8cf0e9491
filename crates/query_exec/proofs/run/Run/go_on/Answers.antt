use Rattle.std.proofs.Common.{◌≡◌, Err, None, map, refl, rules, subst}
use Rattle.query_plan.specs.Plan.{node_view, nodes_result}
use Rattle.query_exec.specs.Steps.{GivesInOrder}
use Rattle.query_exec.specs.Run.{wanted_block}
use Rattle.query_exec.specs.Sink.{SinkFinishes}
use Rattle.query_exec.proofs.OrderLemmas.{made_unordered}
use Rattle.query_exec.proofs.RunLemmas.{answer_made, fault_goes_on, may_finish, steps_fit}
use Rattle.query_exec.proofs.FaultLemmas.{sink_goes_on}
use Rattle.query_exec.proofs.run.Run.go_on.Goals as goal

pub finish-requires : goal.finish-requires
finish-requires c =
    let beyond : wanted_block c.args.self.now ≡ None = search rules in
    rw c.replace-sink.ensures.value (may_finish c.args.self.now (c.requires beyond) c.if-self.false c.nodes_in_turn.ensures)

pub returns-in_err-sunk : goal.returns-in_err-sunk
returns-in_err-sunk c =
    let old = c.args.self.now in
    let beyond : wanted_block old ≡ None = search (rules, c.wanted.ensures, c.is_some.ensures, c.if-is_some.false, c.if-is_some.ensures) in
    sink_goes_on old _ c.in_err-sunk.field-0.0 c.from_residual.result c.if-self.false c.nodes_in_turn.ensures beyond
    (subst (λ s. SinkFinishes s (Err c.in_err-sunk.field-0.0)) c.replace-sink.ensures.value c.in_err-sunk.ensures) c.from_residual.ensures.1

pub apply_all-requires-clause-untaken : goal.apply_all-requires-clause-untaken
apply_all-requires-clause-untaken c = c.in_ok-sunk.ensures.untaken

pub apply_all-requires-clause-fit : goal.apply_all-requires-clause-fit
apply_all-requires-clause-fit c =
    let old = c.args.self.now in
    let beyond : wanted_block old ≡ None = search rules in
    let ends = rw c.replace-sink.ensures.value at c.in_ok-sunk.ensures in
    rw c.deref.ensures.value (steps_fit old (c.requires beyond) c.if-self.false c.nodes_in_turn.ensures c.in_ok-sunk.sunk.rows ends.given_is)

pub returns-in_err-made : goal.returns-in_err-made
returns-in_err-made c =
    let old = c.args.self.now in
    let beyond : wanted_block old ≡ None = search (rules, c.wanted.ensures, c.is_some.ensures, c.if-is_some.false, c.if-is_some.ensures) in
    let ends = rw c.replace-sink.ensures.value at c.in_ok-sunk.ensures in
    let fault = c.in_err-made.field-0.0 in
    let gives = subst (λ steps. GivesInOrder (nodes_result (map node_view steps) c.in_ok-sunk.sunk.rows) (Err fault)) c.deref.ensures.value c.in_err-made.ensures.gives in
    fault_goes_on old (c.requires beyond) c.if-self.false c.nodes_in_turn.ensures c.in_ok-sunk.sunk.rows ends.given_is _ fault c.from_residual-in_err-made.result beyond gives
    c.from_residual-in_err-made.ensures.1

pub returns : goal.returns
returns c =
    let old = c.args.self.now in
    let sunk = c.in_ok-sunk.sunk in
    let beyond : wanted_block old ≡ None = search (rules, c.wanted.ensures, c.is_some.ensures, c.if-is_some.false, c.if-is_some.ensures) in
    let ends = rw c.replace-sink.ensures.value at c.in_ok-sunk.ensures in
    let makes = rw c.deref.ensures.value at c.in_ok-made.ensures.gives in (
      beyond,
      answer_made old (c.requires beyond) c.if-self.false c.nodes_in_turn.ensures sunk.rows ends.given_is _ makes.rows_are,
      made_unordered old _ sunk c.in_ok-made.made ends refl makes.untaken (rw c.deref.ensures.value at c.in_ok-made.ensures.none),
    )
