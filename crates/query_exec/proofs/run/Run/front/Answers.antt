use Rattle.std.proofs.Common.{◌≡◌, [], false, length, map, ap, rules}
use Rattle.std.proofs.lemmas.Bool.{eqb-true}
use Rattle.std.proofs.lemmas.List.{nil_from_length}
use Rattle.query_plan.specs.Plan.{node_view}
use Rattle.query_exec.proofs.FrontLemmas.{ended_front, reading_front}
use Rattle.query_exec.proofs.run.Run.front.Goals as goal

pub returns-in-Reading : goal.returns-in-Reading
returns-in-Reading c =
    let run = c.args.self.now in
    let works : run.faulted ≡ false = search rules in
    let none : map node_view run.steps.items ≡ [] = ap (map node_view) (nil_from_length run.steps.items (eqb-true (length run.steps.items) 0 (search rules))) in
    reading_front c.conditions_in_turn.ensures run c.front.result works none c.front.ensures c.in-Reading.is

pub returns-in-Ended : goal.returns-in-Ended
returns-in-Ended c =
    let run = c.args.self.now in
    let none : map node_view run.steps.items ≡ [] = ap (map node_view) (nil_from_length run.steps.items (eqb-true (length run.steps.items) 0 (search rules))) in
    ended_front run c.in-Ended.rows c.stored_front.result none c.in-Ended.is c.stored_front.ensures.names c.stored_front.ensures.rows c.stored_front.ensures.width
