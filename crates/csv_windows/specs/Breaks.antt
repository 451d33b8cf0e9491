-- The last line break of bytes that is outside double quotes, judged by the number of these alone (RFC 4180, section 2, rules 1, 5 and 6).
use Rattle.std.specs.Prelude.{◌≡◌, ◌⊎◌, ℕ, ◌-◌, ◌%◌, ◌<◌, ◌≤◌, ◌==◌, List, length, take, slice_get, Some}
use Rattle.std.specs.List.{count_by}
use Rattle.csv_grammar.specs.Bytes.{double_quote, line_feed}

-- the first `n` bytes end in an LF, and have an even number of double quotes
abbrev pub IsBreak : List ℕ → ℕ → Type 0
IsBreak bytes n = (0 < n) × (slice_get bytes (n - 1) ≡ Some line_feed) × (count_by (λ b. b == double_quote) (take n bytes) % 2 ≡ 0)

-- and no more of them do; none if none do
pub record IsLastBreak (bytes : List ℕ) (n : ℕ) : Type 0 where
  pub within : n ≤ length bytes
  pub is : (n ≡ 0) ⊎ IsBreak bytes n
  pub last : (m : ℕ) → m ≤ length bytes → IsBreak bytes m → m ≤ n
