use Rattle.std.proofs.Common.{◌≡◌, ◌<◌, ◌≤◌, ℕ, get_or, length}
use Rattle.row_codes.proofs.codes.text_codes.Given as goal

-- the codes so far, each less than the count
abbrev pub invariant-loop-i : goal.invariant-loop-i
invariant-loop-i l = record {
  each : (i : ℕ) → i < l.i → get_or l.codes.items i 0 ≡ get_or l.texts (get_or l.numbers i 0) 0;
  below : (i : ℕ) → i < l.i → get_or l.codes.items i 0 < l.count;
  long : length l.codes.items ≡ l.i;
  few : l.count ≤ 256;
}
