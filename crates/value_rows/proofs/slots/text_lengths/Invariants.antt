use Rattle.std.proofs.Common.{◌≡◌, ◌+◌, ◌*◌, ◌<◌, ◌≤◌, ℕ, get_or, length}
use Rattle.value_rows.specs.declared.slots.Slot.TheVariants as slots
use Rattle.value_rows.specs.Packed.{IsSpanned}
use Rattle.value_rows.proofs.slots.text_lengths.Given as goal

-- the first texts are between the places, and one of all ends at the second
abbrev pub invariant-loop-i : goal.invariant-loop-i
invariant-loop-i l = record {
  long : length l.lengths ≡ length l.initial.lengths;
  order : l.low ≤ l.high;
  each : (j : ℕ) → j < l.i → IsSpanned (get_or l.slots (l.from + j * l.step) slots.Null) (get_or l.lengths j 0) l.low l.high;
  end : (last : ℕ) × (last < length l.initial.lengths) × (start : ℕ) × (len : ℕ) × (get_or l.slots (l.from + last * l.step) slots.Null ≡ slots.Text start len) × (l.high ≤ start + len);
}
