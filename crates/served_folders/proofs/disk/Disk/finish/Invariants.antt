use Rattle.std.proofs.Common.{◌≡◌}
use Rattle.served_folders.proofs.disk.Disk.finish.Given as goal

-- nothing was counted
abbrev pub invariant-loop-on : goal.invariant-loop-on
invariant-loop-on g l = (l.self.loads ≡ l.initial.self.loads) × (l.self.no_metadata ≡ l.initial.self.no_metadata) × (l.self.device ≡ l.initial.self.device)

abbrev pub decreases-loop-on : goal.decreases-loop-on
decreases-loop-on g l = l.loading
