use Rattle.std.proofs.Common.{◌≡◌, false, take}
use Rattle.std.specs.List.{list_any}
use Rattle.cell_types.specs.Value.{null, value_eq, value_view}
use Rattle.key_index.proofs.cells.has_null.Given as goal

-- no value so far is null
abbrev pub invariant-loop-value : goal.invariant-loop-value
invariant-loop-value l = list_any (λ value. value_eq null (value_view value)) (take l.value-index l.key) ≡ false
