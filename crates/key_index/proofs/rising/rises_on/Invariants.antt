-- The keys so far rise, and none is above the last.
use Rattle.key_index.specs.Key.{row_key}
use Rattle.key_index.specs.Keys.{typed_row}
use Rattle.key_index.specs.Rising.{Rises}
use Rattle.key_index.proofs.rising.rises_on.Given as goal

abbrev pub invariant-loop-row : goal.invariant-loop-row
invariant-loop-row l = Rises (λ row. row_key l.places (typed_row row l.columns)) (record { row = l.row; last = l.last })
