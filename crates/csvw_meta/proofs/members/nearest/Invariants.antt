-- No level so far has the member, so those left decide.
use Rattle.std.proofs.Common.{◌≡◌, map, drop}
use Rattle.serde_json.specs.View.{view}
use Rattle.csvw_meta.specs.Members.{nearest}
use Rattle.csvw_meta.proofs.members.nearest.Given as goal

abbrev pub invariant-loop-level : goal.invariant-loop-level
invariant-loop-level l = nearest l.name (map (λ level. view level.now) l.levels) ≡ nearest l.name (map (λ level. view level.now) (drop l.level-index l.levels))
