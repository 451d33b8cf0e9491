use Rattle.std.proofs.Common.{take}
use Rattle.odata_http.specs.Answer.{HasWritten}
use Rattle.odata_serve.specs.Check.{table_lines}
use Rattle.odata_serve.proofs.check.write_lines.Given as goal

-- the lines of the first tables were written
abbrev pub invariant-loop-table : goal.invariant-loop-table
invariant-loop-table g l = HasWritten (g.W.Sink.sink l.fn.out) (g.W.Sink.sink l.out) (table_lines (take l.table-index l.tables))
