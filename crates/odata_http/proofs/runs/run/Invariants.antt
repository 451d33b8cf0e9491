use Rattle.std.proofs.Common.{◌≡◌, ◌+◌, length}
use Rattle.odata_http.specs.Reply.{IsReply}
use Rattle.odata_http.specs.Runs.{course}
use Rattle.odata_http.proofs.RunLemmas.{IsRunning}
use Rattle.odata_http.proofs.runs.run.Given as goal

-- so far, all replies that are certain were written, each turn made a read, and no call failed
abbrev pub invariant-loop-turn : goal.invariant-loop-turn
invariant-loop-turn g l = record {
  running : IsRunning (IsReply l.fn.catalog)
      (course (g.R.Source.source l.fn.input) (g.R.Source.source l.input) (g.W.Sink.sink l.fn.out) (g.W.Sink.sink l.out)) l.splitter;
  reads : (g.R.Source.source l.input).reads ≡ (g.R.Source.source l.fn.input).reads + l._turn;
  failed_reads : (g.R.Source.source l.input).failed_reads ≡ (g.R.Source.source l.fn.input).failed_reads;
  failed_writes : (g.W.Sink.sink l.out).failed_writes ≡ (g.W.Sink.sink l.fn.out).failed_writes;
  piece : length l.piece ≡ 4096;
}
