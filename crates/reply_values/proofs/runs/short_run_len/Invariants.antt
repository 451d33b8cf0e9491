use Rattle.std.proofs.Common.{◌≡◌, ℕ, ◌<◌, false, get_or}
use Rattle.reply_values.specs.Printed.{needs_more}
use Rattle.reply_values.specs.contracts.runs.short_run_len.{JSON-type}
use denote.Param.{number}
use Rattle.reply_values.proofs.runs.short_run_len.Given as goal

abbrev pub invariant-loop-place : goal.invariant-loop-place
invariant-loop-place g l = (k : ℕ) → k < l.place → needs_more (JSON-type (number g.row.JSON)) (get_or l.text k 0) ≡ false
