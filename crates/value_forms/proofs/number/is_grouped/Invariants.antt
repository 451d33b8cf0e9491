use Rattle.std.proofs.Common.{◌≡◌, length}
use Rattle.value_forms.specs.Numbers.{is_grouped}
use Rattle.value_forms.proofs.number.is_grouped.Given as goal

-- what is left is grouped just if all is
abbrev pub invariant-loop-left : goal.invariant-loop-left
invariant-loop-left l = is_grouped l.group l.whole ≡ is_grouped l.group l.left

abbrev pub decreases-loop-left : goal.decreases-loop-left
decreases-loop-left l = length l.left
