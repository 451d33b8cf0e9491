use Rattle.std.proofs.Common.{◌≡◌, ◌+◌, ◌<◌, ◌≤◌, ℕ, IsTrue, List, get_or, length}
use Rattle.reply_values.specs.Printed.{is_plain_text, printed_text}
use Rattle.reply_values.specs.Size.{told}
use Rattle.cell_texts.specs.contracts.part_sizes.add_lengths.{JSON-type}
use denote.Param.{number}
use Rattle.cell_texts.proofs.part_sizes.add_lengths.Given as goal

abbrev pub invariant-loop-i : goal.invariant-loop-i
invariant-loop-i g l =
    ((k : ℕ) → k < l.i → (t : List ℕ) → get_or l.lengths k 0 ≡ length t → IsTrue (is_plain_text (JSON-type (number g.row.JSON)) t)
    → get_or l.sizes k 0 ≡ told (get_or l.initial.sizes k 0 + length (printed_text (JSON-type (number g.row.JSON)) t)))
    × ((k : ℕ) → l.i ≤ k → get_or l.sizes k 0 ≡ get_or l.initial.sizes k 0)
