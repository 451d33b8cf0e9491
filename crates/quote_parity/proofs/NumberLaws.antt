-- Crates above may cite this file: laws of numbers alone.
use Rattle.std.proofs.Common.{◌≡◌, ℕ, ◌/◌, ◌<◌, ap, arith}
use Rattle.std.specs.Int.Count.{ones_step}
use Rattle.std.specs.Int.RustNames.{count_ones}
use Rattle.std.proofs.lemmas.Nat.{ones-le}

-- the set bits of one bit
pub count_ones-bit : (b : ℕ) → b < 2 → count_ones b ≡ b
count_ones-bit b h = let half : b / 2 ≡ 0 = omega arith in omega (arith, ones_step b, ap count_ones half, ones-le 0 0 (omega arith))
