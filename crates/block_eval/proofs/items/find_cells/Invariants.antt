use Rattle.std.proofs.Common.{◌≡◌, ◌<◌, ℕ, List, Option}
use Rattle.std.specs.Prelude.{ℤ}
use Rattle.std.specs.Ordering.{int_cmp}
use Rattle.block_summary.specs.declared.bounds.Bounds.{Bounds}
use Rattle.row_eval.specs.Comparison.{is_among}
use Rattle.row_eval.specs.Logic.{truth_of}
use Rattle.block_eval.specs.Bounds.{IsWithinKnown}
use Rattle.block_eval.specs.Columns.{number_at}
use Rattle.block_eval.specs.Items.{HasItems}
use Rattle.block_eval.specs.Lanes.{truth_lane}
use Rattle.block_eval.proofs.items.find_cells.Given as goal

-- the truths of the rows so far
abbrev pub invariant-loop-row : goal.invariant-loop-row
invariant-loop-row l = (known : Option Bounds) (list : List (Option ℤ)) → HasItems known list l.items → (k : ℕ) → k < l.row → IsWithinKnown known (number_at l.values l.nulls k)
    → truth_lane l.out k ≡ truth_of (is_among int_cmp (number_at l.values l.nulls k) list)
