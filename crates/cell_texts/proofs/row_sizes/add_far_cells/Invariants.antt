use Rattle.std.proofs.Common.{◌≡◌, ◌+◌, ◌<◌, ◌≤◌, ℕ, [], get_or, length}
use Rattle.cell_types.specs.Value.{null}
use Rattle.reply_values.specs.Printed.{printed_value}
use Rattle.reply_values.specs.Size.{told}
use Rattle.row_columns.specs.Cell.{cell_view}
use Rattle.row_columns.specs.declared.cell.Cell.TheVariants.{Null}
use Rattle.cell_texts.specs.contracts.row_sizes.add_far_cells.{JSON-type}
use denote.Param.{number}
use Rattle.cell_texts.proofs.row_sizes.add_far_cells.Given as goal

-- the first of them were read
abbrev pub invariant-loop-i : goal.invariant-loop-i
invariant-loop-i g l =
    (length l.cells ≡ 64) × ((k : ℕ) → k < l.i → cell_view (get_or l.cells k Null) ≡ get_or (get_or l.columns.rows (l.first + k) []) l.col null)

abbrev pub invariant-loop-i-2 : goal.invariant-loop-i-2
invariant-loop-i-2 g l =
    ((k : ℕ) → k < l.i → get_or l.sizes k 0
    ≡ told (get_or l.initial.sizes k 0 + length (printed_value (JSON-type (number g.row.JSON)) (get_or (get_or l.columns.rows (l.first + k) []) l.col null))))
    × ((k : ℕ) → l.i ≤ k → get_or l.sizes k 0 ≡ get_or l.initial.sizes k 0)
