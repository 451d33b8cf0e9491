use Rattle.std.proofs.Common.{◌≡◌, ◌≤◌, length, take}
use Rattle.cell_types.specs.Decimal.{without_last_zeros}
use Rattle.reply_values.proofs.decimal.without_last_zeros.Given as goal

-- only zeros were left out
abbrev pub invariant-loop-len : goal.invariant-loop-len
invariant-loop-len l = (l.len ≤ length l.digits) × (without_last_zeros (take l.len l.digits) ≡ without_last_zeros l.digits)

abbrev pub decreases-loop-len : goal.decreases-loop-len
decreases-loop-len l = l.len
