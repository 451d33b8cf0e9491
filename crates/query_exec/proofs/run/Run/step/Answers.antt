use Rattle.std.proofs.Common.{sym, ◌∙◌}
use Rattle.query_exec.proofs.RunLemmas.{after_block, after_none, block_may_be_taken, ready_behind_block, ready_behind_none}
use Rattle.query_exec.proofs.run.Run.step.Goals as goal
use Rattle.query_exec.proofs.run.Run.step.Goals.{in-Some+in_ok-take_in, in_default}

pub take_in-requires : goal.take_in-requires
take_in-requires c =
    block_may_be_taken c.args.self.now c.requires.0 c.requires.1 c.requires.2 c.requires.3 c.conditions_in_turn.ensures c.in-Some.block (sym c.in-Some.is ∙ c.requires.4)
    c.nodes_in_turn.ensures c.scans_read_table_rows.ensures c.tables_are_inputs.ensures c.values_fit.ensures

pub go_on-requires : goal.go_on-requires
go_on-requires c =
    let old = c.args.self.now in
    elim c.match-block.branch [
      | in-Some+in_ok-take_in w ↦
          rw w.self-is (ready_behind_block old c.requires.0 c.requires.1 c.requires.2 c.requires.3 c.conditions_in_turn.ensures w.in-Some.block (sym w.in-Some.is ∙ c.requires.4)
          c.nodes_in_turn.ensures c.scans_read_table_rows.ensures w.take_in.new.self w.in_ok-take_in.ensures)
      | in_default w ↦
          rw w.self-is (ready_behind_none old c.requires.0 c.requires.1 c.requires.2 c.requires.3 c.nodes_in_turn.ensures c.scans_read_table_rows.ensures)
    ]

pub returns-clause-steps : goal.returns-clause-steps
returns-clause-steps c = λ plan table handed stands is.
    let old = c.args.self.now in
    let new = c.go_on.new.self in
    elim c.match-block.branch [
      | in-Some+in_ok-take_in w ↦
          after_block old plan table handed stands c.conditions_in_turn.ensures w.in-Some.block (sym w.in-Some.is ∙ is) w.take_in.new.self new c.go_on.result
          w.in_ok-take_in.ensures (rw w.self-is at c.go_on.ensures)
      | in_default w ↦
          after_none old plan table handed stands new c.go_on.result (sym w.in_default.is ∙ is)
          (rw w.self-is at c.go_on.ensures)
    ]
