-- No column so far has the name, so those left decide.
use Rattle.std.proofs.Common.{◌≡◌, ◌+◌, map, drop}
use Rattle.serde_json.specs.View.{view}
use Rattle.csvw_meta.specs.Key.{column_place}
use Rattle.csvw_meta.proofs.key.place_of.Given as goal

abbrev pub invariant-loop-i : goal.invariant-loop-i
invariant-loop-i l = column_place (map view l.columns) l.name ≡ l.i + column_place (map view (drop l.i l.columns)) l.name
