-- The texts so far, and those that are left.
use Rattle.std.proofs.Common.{◌≡◌, ◌++◌, map, drop, string_bytes}
use Rattle.std.specs.List.{filter_map}
use Rattle.serde_json.specs.Find.{as_str}
use Rattle.serde_json.specs.View.{view}
use Rattle.csvw_meta.specs.Texts.{texts_in}
use Rattle.csvw_meta.proofs.texts.push_texts.Given as goal

abbrev pub invariant-loop-part : goal.invariant-loop-part
invariant-loop-part l = map string_bytes l.texts.items ++ filter_map as_str (map view (drop l.part-index l.part-items)) ≡ map string_bytes l.fn.texts.items ++ texts_in (view l.value)
