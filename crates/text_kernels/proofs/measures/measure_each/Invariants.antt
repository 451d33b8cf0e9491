use Rattle.std.proofs.Common.{◌≡◌, ℕ, ◌<◌}
use Rattle.number_kernels.specs.Lanes.{number_at, IsWanted}
use Rattle.text_kernels.specs.Texts.{measured, text_lane}
use Rattle.text_kernels.proofs.measures.measure_each.Given as goal

-- the numbers of the wanted rows so far
abbrev pub invariant-loop-i : goal.invariant-loop-i
invariant-loop-i l = (k : ℕ) → k < l.i → IsWanted l.wanted k → number_at l.values l.nulls k ≡ measured l.measure (text_lane l.texts k) k
