use Rattle.std.proofs.Common.{◌+◌, ◌-◌, arith}
use Rattle.sort_rows.specs.Runs.{stream_rows}
use Rattle.result_rows.proofs.CutLemmas.{one_left}
use Rattle.result_rows.proofs.skip.pass_rows.Goals as goal

pub loop-preserved : goal.loop-preserved
loop-preserved c =
    let rows = c.args.columns.now.rows in
    let plain = c.args.plain.now in
    let gone = c.args.count - c.loop-coin.left + c.loop.counter in
    record {
      streams = c.pass.ensures.stream;
      at_most = c.loop.invariant.at_most;
      rest =
          one_left plain rows c.loop.stream c.pass.new.self gone (c.args.count - c.loop-coin.left + (c.loop.counter + 1)) (stream_rows plain rows c.args.stream.now) c.pass.ensures
          c.loop.invariant.rest (omega arith);
    }
