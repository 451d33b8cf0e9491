-- No text so far stands twice, so those left decide.
use Rattle.std.proofs.Common.{◌≡◌, map, drop}
use Rattle.serde_json.specs.View.{view}
use Rattle.csvw_meta.specs.Key.{text_or_empty, are_different}
use Rattle.csvw_meta.proofs.key.are_different.Given as goal

abbrev pub invariant-loop-i : goal.invariant-loop-i
invariant-loop-i l = are_different (map text_or_empty (map view l.values)) ≡ are_different (map text_or_empty (map view (drop l.i l.values)))
