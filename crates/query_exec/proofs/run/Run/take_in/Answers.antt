use Rattle.std.proofs.Common.{◌≡◌, ap, false, refl, rules, ◌∙◌}
use Rattle.query_exec.specs.Sink.{room_behind, spare_of}
use Rattle.query_exec.proofs.RunLemmas.{fault_before, fault_found, faulted_taken, pushed_taken}
use Rattle.query_exec.proofs.run.Run.take_in.Goals as goal
use Rattle.query_exec.proofs.run.Run.take_in.Goals.{then-self-2-via-then-self-2, then-self-2-via-else-self-2+then-found}

pub returns-then-self-2 : goal.returns-then-self-2
returns-then-self-2 c =
    let old = c.args.self.now in
    let rows = c.args.block.now.rows in
    let are = rw (c.spare-most.ensures, c.deref.ensures.value) at c.in_ok-found.ensures in
    faulted_taken old _ rows refl refl c.pop_front-number.ensures.rest (c.room_behind-self.ensures ∙ ap (room_behind old.room) are.count)
    (elim c.then-self-2.branch [
      | then-self-2-via-then-self-2 w ↦ fault_before old rows w.if-self-2.true
      | then-self-2-via-else-self-2+then-found w ↦ fault_found old (spare_of old.sink) rows c.in_ok-found.found are w.if-found.true
    ])

pub returns : goal.returns
returns c =
    let are = rw (c.spare-most.ensures, c.deref.ensures.value) at c.in_ok-found.ensures in
    let works : c.args.self.now.faulted ≡ false = search rules in
    let still : c.in_ok-found.found.faulted ≡ false = search rules in
    pushed_taken c.args.self.now _ c.args.block.now.rows c.in_ok-found.found are works still refl c.pop_front-number.ensures.rest c.room_behind-self.ensures c.in_ok-push.ensures
