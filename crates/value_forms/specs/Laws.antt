-- What the definitions of forms stand for.
use Rattle.std.specs.Prelude.{◌≡◌, ◌≤◌, ◌<◌, ◌+◌, ◌*◌, ◌%◌, ℕ}
use Rattle.value_forms.specs.Rounding.{nearest_even}

-- Parts of one are rounded to a number that is no further from them than half of one; and half of one after a number to an even number (ISO 80000-1, annex B,
-- rule A).
pub record RoundsHalfToEven : Type 0 where
  pub above : (parts one : ℕ) → 0 < one → 2 * (nearest_even parts one * one) ≤ 2 * parts + one
  pub below : (parts one : ℕ) → 0 < one → 2 * parts ≤ 2 * (nearest_even parts one * one) + one
  pub even : (number half : ℕ) → 0 < half → nearest_even (number * (2 * half) + half) (2 * half) % 2 ≡ 0
