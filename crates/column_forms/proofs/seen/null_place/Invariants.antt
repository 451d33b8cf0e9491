use Rattle.std.proofs.Common.{◌≡◌, false, take}
use Rattle.std.specs.List.{list_any}
use Rattle.std.specs.Str.{bytes_eq}
use Rattle.column_forms.specs.CellsSeen.{null_texts}
use Rattle.column_forms.proofs.seen.null_place.Given as goal

-- none of the texts so far is the cell
abbrev pub invariant-loop-place : goal.invariant-loop-place
invariant-loop-place l = list_any (λ text. bytes_eq text l.cell) (take l.place null_texts) ≡ false
