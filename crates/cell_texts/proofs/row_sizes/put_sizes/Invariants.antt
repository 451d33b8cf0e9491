use Rattle.std.proofs.Common.{◌≡◌, ◌+◌, ◌<◌, ℕ, [], get_or, length, take}
use Rattle.std.specs.List.{flat_map}
use Rattle.reply_values.specs.Printed.{printed_value}
use Rattle.reply_values.specs.Size.{told}
use Rattle.cell_texts.specs.contracts.row_sizes.put_sizes.{JSON-type}
use denote.Param.{number}
use Rattle.cell_texts.proofs.row_sizes.put_sizes.Given as goal

abbrev pub invariant-loop-col : goal.invariant-loop-col
invariant-loop-col g l = (k : ℕ) → k < length l.sizes
    → get_or l.sizes k 0 ≡ told (l.fn.frame + length (flat_map (printed_value (JSON-type (number g.row.JSON))) (take l.col (get_or l.columns.rows (l.first + k) []))))

abbrev pub invariant-loop-col-2 : goal.invariant-loop-col-2
invariant-loop-col-2 g l = (k : ℕ) → k < length l.sizes
    → get_or l.sizes k 0 ≡ told (l.fn.frame + length (flat_map (printed_value (JSON-type (number g.row.JSON))) (take l.col (get_or l.columns.rows (l.first + k) []))))
