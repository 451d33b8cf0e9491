-- The bits of a word of 64, by their places.
use Rattle.std.specs.Prelude.{◌≡◌, ℕ, ◌%◌, ◌^◌, ◌<◌}
use Rattle.std.specs.Int.{bit_at}
use Rattle.std.specs.Int.RustNames.{count_ones}

-- how many bits are set below a place
abbrev pub ones_below : ℕ → ℕ → ℕ
ones_below word place = count_ones (word % 2 ^ place)

-- no bit is set below a place
abbrev pub NoneBelow : ℕ → ℕ → Type 0
NoneBelow word place = (i : ℕ) → i < place → bit_at word i ≡ 0

-- the place of the lowest set bit
pub record IsLowest (word place : ℕ) : Type 0 where
  pub set : bit_at word place ≡ 1
  pub none : NoneBelow word place
