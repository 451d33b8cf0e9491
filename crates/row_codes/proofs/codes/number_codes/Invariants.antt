use Rattle.std.proofs.Common.{◌≡◌, ◌+◌, ◌<◌, ℕ, None, get_or, length}
use Rattle.block_summary.specs.Types.{numbers_of}
use Rattle.row_codes.specs.Codes.{number_of_code}
use Rattle.row_codes.proofs.codes.number_codes.Given as goal

-- the codes so far
abbrev pub invariant-loop-i : goal.invariant-loop-i
invariant-loop-i l = record {
  each : (i : ℕ) → i < l.i → get_or (numbers_of l.column) (get_or l.numbers i 0) None ≡ number_of_code l.span.least (l.span.last + 1) (get_or l.codes.items i 0);
  below : (i : ℕ) → i < l.i → get_or l.codes.items i 0 < l.span.last + 2;
  long : length l.codes.items ≡ l.i;
}
