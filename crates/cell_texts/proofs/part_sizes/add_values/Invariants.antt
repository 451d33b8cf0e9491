use Rattle.std.proofs.Common.{◌≡◌, ◌+◌, ◌<◌, ◌≤◌, ℕ, [], get_or, length}
use Rattle.cell_types.specs.Value.{null}
use Rattle.reply_values.specs.Printed.{printed_value}
use Rattle.reply_values.specs.Size.{told}
use Rattle.cell_texts.specs.contracts.part_sizes.add_values.{JSON-type}
use denote.Param.{number}
use Rattle.cell_texts.proofs.part_sizes.add_values.Given as goal

abbrev pub invariant-loop-i : goal.invariant-loop-i
invariant-loop-i g l =
    ((k : ℕ) → k < l.i → get_or l.sizes k 0
    ≡ told (get_or l.initial.sizes k 0 + length (printed_value (JSON-type (number g.row.JSON)) (get_or (get_or l.rows.rows (l.first + k) []) l.col null))))
    × ((k : ℕ) → l.i ≤ k → get_or l.sizes k 0 ≡ get_or l.initial.sizes k 0)
