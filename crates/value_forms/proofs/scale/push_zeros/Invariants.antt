use Rattle.std.proofs.Common.{◌≡◌, ◌++◌}
use Rattle.value_forms.specs.Scale.{zeros}
use Rattle.value_forms.proofs.scale.push_zeros.Given as goal

-- the zeros so far are appended
abbrev pub invariant-loop-zero : goal.invariant-loop-zero
invariant-loop-zero l = l.made.items ≡ l.initial.made.items ++ zeros l._zero
