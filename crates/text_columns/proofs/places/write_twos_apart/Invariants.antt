use Rattle.std.proofs.Common.{◌≡◌, ◌+◌, ◌<◌, ℕ, get_or}
use Rattle.text_columns.specs.Texts.{start_from}
use Rattle.text_columns.proofs.places.write_twos_apart.Given as goal

abbrev pub invariant-loop-i : goal.invariant-loop-i
invariant-loop-i l = record {
  last : l.last ≡ start_from 0 l.ends (l.first + l.i);
  each : (k : ℕ) → k < l.i → get_or l.out k 0 + start_from 0 l.ends (l.first + k) ≡ get_or l.ends (l.first + k) 0;
}
