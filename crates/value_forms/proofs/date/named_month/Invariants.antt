use Rattle.std.proofs.Common.{◌≡◌, ◌-◌}
use Rattle.value_forms.specs.Dates.{first_month, named_month}
use Rattle.value_forms.proofs.date.named_month.Given as goal

-- the first of the months that are left is the first of all
abbrev pub invariant-loop-number : goal.invariant-loop-number
invariant-loop-number l = named_month l.text ≡ first_month (13 - l.number) l.number l.text
