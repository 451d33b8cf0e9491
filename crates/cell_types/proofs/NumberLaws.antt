-- Crates above may cite this file: laws of numbers alone.
use Rattle.std.proofs.Common.{◌≡◌, ℕ, ◌+◌, ◌-◌, ◌*◌, ◌<◌, ap, arith}
use Rattle.std.specs.Prelude.{ℤ, pos, negsuc, ◌+ℤ◌, ◌*ℤ◌, unsigned_abs}
use Rattle.std.specs.Int.{int_div_euclid, int_rem_euclid}
use Rattle.std.proofs.lemmas.Int.{ints}

-- the quotient and the rest of a number made of both
pub int_div_euclid-512 : (q : ℤ) (r : ℕ) → r < 512 → int_div_euclid ((q *ℤ pos 512) +ℤ pos r) (pos 512) ≡ q
int_div_euclid-512 (pos n) r h = ap pos (omega arith)
int_div_euclid-512 (negsuc n) r h =
    let at : (negsuc n *ℤ pos 512) +ℤ pos r ≡ negsuc (n * 512 + (511 - r)) = omega (arith, ints) in
    rw at (ap negsuc (omega arith))

pub int_rem_euclid-512 : (q : ℤ) (r : ℕ) → r < 512 → unsigned_abs (int_rem_euclid ((q *ℤ pos 512) +ℤ pos r) (pos 512)) ≡ r
int_rem_euclid-512 (pos n) r h = omega arith
int_rem_euclid-512 (negsuc n) r h =
    let at : (negsuc n *ℤ pos 512) +ℤ pos r ≡ negsuc (n * 512 + (511 - r)) = omega (arith, ints) in
    rw at (omega arith)
