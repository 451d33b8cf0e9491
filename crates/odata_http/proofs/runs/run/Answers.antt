use Rattle.std.proofs.Common.{rules, true, false, ◌<◌, ◌++◌, ◌∙◌, length, Ok, Err, arith, refl, take}
use Rattle.std.proofs.lemmas.Result.{err_from_is_err_and}
use Rattle.odata_http.specs.Reply.{IsReply}
use Rattle.odata_http.proofs.RepliesLemmas.{all_join}
use Rattle.odata_http.proofs.SinkLemmas.{piece_sent, rest_sent}
use Rattle.odata_http.proofs.RunLemmas.{running_starts, running_stops, running_fails, running_reads, running_ends, piece_open, piece_closed, piece_fault, rest_over, rest_fault}
use Rattle.odata_http.proofs.RunEnds.{end_run, read_fault_run, limit_run, turn_read, read_end, read_more}
use Rattle.odata_http.proofs.runs.run.Goals as goal

pub loop-turn-init : goal.loop-turn-init
loop-turn-init g c = record {
  running = rw c.new-splitter.ensures (running_starts _ c.one_cut.ensures _ _);
  reads = omega arith;
  failed_reads = refl;
  failed_writes = refl;
  piece = search rules;
}

pub loop-turn-preserved : goal.loop-turn-preserved
loop-turn-preserved g c =
    let turn = turn_read _ _ _ _ _ c.requires.reads c.ranges.limit.fits c.loop-turn-test.true c.loop-turn.invariant.reads c.in-Ok.ensures.reads in
    let read = running_reads c.loop-turn.invariant.running c.in-Ok.ensures.bytes.0 (read_more _ _ _ _ c.if-n-eq0.false c.in-Ok.ensures.ends) in
    let stream = c.loop-turn.splitter ++ take c.in-Ok.n c.read.new.buf in
    let sent = piece_sent (IsReply c.args.catalog.now) g.W.Sink.sink stream c.take_in.new.splitter c.loop-turn.out c.take_in.new.out (Ok false)
    (rw c.if-closed.false at c.in_ok-closed.ensures) in
    record {
      running = piece_open c.cuts_join.ensures read sent;
      reads = turn.0;
      failed_reads = c.in-Ok.ensures.failed ∙ c.loop-turn.invariant.failed_reads;
      failed_writes = sent.2.failed ∙ c.loop-turn.invariant.failed_writes;
      piece = c.read.auto.buf ∙ c.loop-turn.invariant.piece;
    }

pub returns-in-Err : goal.returns-in-Err
returns-in-Err g c =
    let turn = turn_read _ _ _ _ _ c.requires.reads c.ranges.limit.fits c.loop-turn-test.true c.loop-turn.invariant.reads c.in-Err.ensures.reads in
    read_fault_run (running_fails c.loop-turn.invariant.running c.in-Err.ensures.bytes c.in-Err.ensures.ends)
    c.requires.failed_reads (rw c.loop-turn.invariant.failed_reads at c.in-Err.ensures.failed) c.loop-turn.invariant.failed_writes turn.1

pub returns-then-n-eq0 : goal.returns-then-n-eq0
returns-then-n-eq0 g c =
    let turn = turn_read _ _ _ _ _ c.requires.reads c.ranges.limit.fits c.loop-turn-test.true c.loop-turn.invariant.reads c.in-Ok.ensures.reads in
    let none = c.if-n-eq0.true in
    let room : 0 < length c.read.new.buf = omega (arith, c.read.auto.buf, c.loop-turn.invariant.piece) in
    let before = c.loop-turn.invariant.running.over in
    let some = c.requires.ends in
    let ended = running_ends c.loop-turn.invariant.running (rw none at c.in-Ok.ensures.bytes.0)
    (read_end _ _ _ _ none room (omega (arith, before, some)) c.in-Ok.ensures.ends) (c.in-Ok.ensures.bytes.1 none room) in
    let sent = rest_sent g.W.Sink.sink c.loop-turn.splitter c.loop-turn.out c.answer_rest.new.out (Ok c.in_ok-answer_rest.field-0) c.in_ok-answer_rest.ensures.answered in
    end_run (all_join _ c.cuts_join.ensures) (Ok tt) (rest_over ended sent c.loop-turn.invariant.failed_writes)
    c.requires.failed_writes (c.in-Ok.ensures.failed ∙ c.loop-turn.invariant.failed_reads) turn.1

pub returns-in_err-answer_rest : goal.returns-in_err-answer_rest
returns-in_err-answer_rest g c =
    let p = err_from_is_err_and c.from_residual.result c.from_residual.ensures.1 in
    let turn = turn_read _ _ _ _ _ c.requires.reads c.ranges.limit.fits c.loop-turn-test.true c.loop-turn.invariant.reads c.in-Ok.ensures.reads in
    let none = c.if-n-eq0.true in
    let room : 0 < length c.read.new.buf = omega (arith, c.read.auto.buf, c.loop-turn.invariant.piece) in
    let before = c.loop-turn.invariant.running.over in
    let some = c.requires.ends in
    let ended = running_ends c.loop-turn.invariant.running (rw none at c.in-Ok.ensures.bytes.0)
    (read_end _ _ _ _ none room (omega (arith, before, some)) c.in-Ok.ensures.ends) (c.in-Ok.ensures.bytes.1 none room) in
    let fault = c.in_err-answer_rest.field-0.0 in
    let sent = rest_sent g.W.Sink.sink c.loop-turn.splitter c.loop-turn.out c.answer_rest.new.out (Err fault) c.in_err-answer_rest.ensures.answered in
    rw (p.1, p.2) (end_run (all_join _ c.cuts_join.ensures) _ (rest_fault _ fault ended sent c.loop-turn.invariant.failed_writes)
    c.requires.failed_writes (c.in-Ok.ensures.failed ∙ c.loop-turn.invariant.failed_reads) turn.1)

pub returns-in_err-closed : goal.returns-in_err-closed
returns-in_err-closed g c =
    let p = err_from_is_err_and c.from_residual-in_err-closed.result c.from_residual-in_err-closed.ensures.1 in
    let turn = turn_read _ _ _ _ _ c.requires.reads c.ranges.limit.fits c.loop-turn-test.true c.loop-turn.invariant.reads c.in-Ok.ensures.reads in
    let read = running_reads c.loop-turn.invariant.running c.in-Ok.ensures.bytes.0 (read_more _ _ _ _ c.if-n-eq0.false c.in-Ok.ensures.ends) in
    let stream = c.loop-turn.splitter ++ take c.in-Ok.n c.read.new.buf in
    let fault = c.in_err-closed.field-0.0 in
    let sent = piece_sent (IsReply c.args.catalog.now) g.W.Sink.sink stream c.take_in.new.splitter c.loop-turn.out c.take_in.new.out (Err fault)
    c.in_err-closed.ensures in
    rw (p.1, p.2) (end_run (all_join _ c.cuts_join.ensures) _
    (piece_fault c.take_in.new.splitter _ fault c.cuts_join.ensures read sent c.loop-turn.invariant.failed_writes)
    c.requires.failed_writes (c.in-Ok.ensures.failed ∙ c.loop-turn.invariant.failed_reads) turn.1)

pub returns-then-closed : goal.returns-then-closed
returns-then-closed g c =
    let turn = turn_read _ _ _ _ _ c.requires.reads c.ranges.limit.fits c.loop-turn-test.true c.loop-turn.invariant.reads c.in-Ok.ensures.reads in
    let read = running_reads c.loop-turn.invariant.running c.in-Ok.ensures.bytes.0 (read_more _ _ _ _ c.if-n-eq0.false c.in-Ok.ensures.ends) in
    let stream = c.loop-turn.splitter ++ take c.in-Ok.n c.read.new.buf in
    let sent = piece_sent (IsReply c.args.catalog.now) g.W.Sink.sink stream c.take_in.new.splitter c.loop-turn.out c.take_in.new.out (Ok true)
    (rw c.if-closed.true at c.in_ok-closed.ensures) in
    end_run (all_join _ c.cuts_join.ensures) (Ok tt) (piece_closed c.cuts_join.ensures read sent c.loop-turn.invariant.failed_writes)
    c.requires.failed_writes (c.in-Ok.ensures.failed ∙ c.loop-turn.invariant.failed_reads) turn.1

pub returns : goal.returns
returns g c =
    let within = c.loop-turn.auto._turn-end in
    let over = c.loop-turn-test.false in
    let reads = c.loop-turn.invariant.reads in
    limit_run (running_stops c.loop-turn.invariant.running)
    c.loop-turn.invariant.failed_reads c.loop-turn.invariant.failed_writes (omega (arith, within, over, reads))
