use Rattle.std.proofs.Common.{◌≡◌, ◌++◌, length, map, take}
use Rattle.cell_types.specs.Value.{value_view}
use Rattle.aggregate_rows.proofs.groups.push_copies.Given as goal

-- the first values came
abbrev pub invariant-loop-value : goal.invariant-loop-value
invariant-loop-value l = record {
  front : take (length l.fn.values) l.values ≡ l.fn.values;
  values : l.values ≡ l.fn.values ++ map value_view (take l.value-index l.others);
}
