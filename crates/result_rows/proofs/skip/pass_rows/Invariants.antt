use Rattle.std.proofs.Common.{◌≡◌, ◌+◌, ◌-◌, ◌≤◌, drop}
use Rattle.std.specs.Prelude.{IfSome}
use Rattle.sort_rows.specs.Runs.{stream_rows, IsRunRow, IsStream}
use Rattle.result_rows.proofs.skip.pass_rows.Given as goal

-- all but `left` of the rows are passed over
abbrev pub invariant-loop-coin : goal.invariant-loop-coin
invariant-loop-coin l = record {
  streams : IsStream l.plain l.columns.rows l.stream;
  above : IfSome l.above (IsRunRow l.plain l.columns.rows);
  at_most : l.left ≤ l.count;
  rest : stream_rows l.plain l.columns.rows l.stream ≡ drop (l.count - l.left) (stream_rows l.plain l.columns.rows l.fn.stream);
}

abbrev pub invariant-loop : goal.invariant-loop
invariant-loop l = record {
  streams : IsStream l.plain l.columns.rows l.stream;
  at_most : l.left ≤ l.count;
  rest : stream_rows l.plain l.columns.rows l.stream ≡ drop (l.count - l.left + l.counter) (stream_rows l.plain l.columns.rows l.fn.stream);
}
