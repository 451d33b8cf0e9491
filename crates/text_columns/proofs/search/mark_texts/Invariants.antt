use Rattle.std.proofs.Common.{◌≡◌, ◌<◌, ℕ, false, not, get_or}
use Rattle.text_columns.proofs.search.mark_texts.Given as goal

abbrev pub invariant-loop-row : goal.invariant-loop-row
invariant-loop-row l = (k : ℕ) → k < l.row → get_or l.out k false ≡ not (get_or l.nulls k false)
