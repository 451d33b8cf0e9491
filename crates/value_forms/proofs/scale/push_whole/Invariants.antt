use Rattle.std.proofs.Common.{◌≡◌, length}
use Rattle.value_forms.specs.Scale.{without_first_zeros}
use Rattle.value_forms.proofs.scale.push_whole.Given as goal

abbrev pub invariant-loop-left : goal.invariant-loop-left
invariant-loop-left l = without_first_zeros l.digits ≡ without_first_zeros l.left

abbrev pub decreases-loop-left : goal.decreases-loop-left
decreases-loop-left l = length l.left
