use Rattle.std.proofs.Common.{◌≡◌, ◌++◌, take}
use Rattle.std.specs.Prelude.{filter}
use Rattle.std.specs.Char.{is_ascii_digit}
use Rattle.value_forms.proofs.number.push_digits.Given as goal

-- the digits so far are appended
abbrev pub invariant-loop-byte : goal.invariant-loop-byte
invariant-loop-byte l = l.made.items ≡ l.initial.made.items ++ filter is_ascii_digit (take l.byte-index l.whole)
