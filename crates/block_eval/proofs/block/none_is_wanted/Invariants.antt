use Rattle.std.proofs.Common.{◌≡◌, ◌<◌, ℕ, false, get_or}
use Rattle.block_eval.proofs.block.none_is_wanted.Given as goal

-- none of the rows so far is wanted
abbrev pub invariant-loop-is_wanted : goal.invariant-loop-is_wanted
invariant-loop-is_wanted l = (k : ℕ) → k < l.is_wanted-index → get_or l.wanted k false ≡ false
