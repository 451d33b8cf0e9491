use Rattle.std.proofs.Common.{◌+◌, ◌≤◌, length}
use Rattle.odata_hub.specs.Schedules.{HubOf}
use Rattle.odata_hub.specs.Stands.{Models}
use Rattle.hub_scripts.specs.Replay.{stage}
use Rattle.hub_scripts.proofs.ReplayLemmas.{IsPlayedTo}
use Rattle.hub_scripts.proofs.replay.play_lines.Given as goal

-- the lines before the rest were played, from each hub that the first one stands for
abbrev pub invariant-loop-line : goal.invariant-loop-line
invariant-loop-line g l = record {
  played : (start : HubOf) → Models l.fn.hub start
      → IsPlayedTo l.script (stage start (g.F.Folders.folders l.fn.folders)) l.rest l.number (g.W.Sink.sink l.fn.out)
      (record { hub = l.hub; folders = g.F.Folders.folders l.folders; sink = g.W.Sink.sink l.out });
  few : l.number + length l.rest ≤ length l.script + 1;
}

abbrev pub decreases-loop-line : goal.decreases-loop-line
decreases-loop-line g l = length l.rest
