-- The places so far, and those that are left.
use Rattle.std.proofs.Common.{◌≡◌, ◌++◌, map, drop}
use Rattle.serde_json.specs.View.{view}
use Rattle.csvw_meta.specs.Key.{text_or_empty, column_place, key_in}
use Rattle.csvw_meta.proofs.key.make_places.Given as goal

abbrev pub invariant-loop-name : goal.invariant-loop-name
invariant-loop-name l = let place = column_place (map view l.columns) in
    l.places.items ++ map place (map text_or_empty (map view (drop l.name-index l.name-items))) ≡ key_in (map view l.columns) (view l.key)
