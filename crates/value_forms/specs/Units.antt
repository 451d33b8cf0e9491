-- Numbers with a currency.
use Rattle.std.specs.Prelude.{ℕ, ◌-◌, List, length, take, drop, if◌then◌else◌, nat_eq, Option, Some, None}
use Rattle.std.specs.List.{ends_with, starts_with}
use Rattle.value_forms.specs.declared.unit.Unit.{Unit}
use Rattle.value_forms.specs.Scale.{trimmed_end, trimmed_start}

-- the number after a currency, or before it
abbrev pub after_unit : List ℕ → List ℕ → Option (List ℕ)
after_unit unit text = if starts_with nat_eq text unit then Some (trimmed_start (drop (length unit) text)) else None

abbrev pub before_unit : List ℕ → List ℕ → Option (List ℕ)
before_unit unit text = if ends_with nat_eq text unit then Some (trimmed_end (take (length text - length unit) text)) else None

abbrev pub without_unit : Unit → List ℕ → Option (List ℕ)
without_unit unit text = if unit.is_before then after_unit unit.text.now text else before_unit unit.text.now text
