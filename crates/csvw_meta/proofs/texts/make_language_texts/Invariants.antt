-- The texts so far, and those that are left.
use Rattle.std.proofs.Common.{◌≡◌, ◌++◌, map, string_bytes}
use Rattle.std.specs.List.{flat_map}
use Rattle.serde_json.specs.View.{view, members_view}
use Rattle.csvw_meta.specs.Texts.{texts_in, member_values}
use Rattle.csvw_meta.proofs.texts.make_language_texts.Given as goal

abbrev pub invariant-loop-value : goal.invariant-loop-value
invariant-loop-value l = map string_bytes l.texts.items ++ flat_map texts_in (map view l.value-iterator) ≡ flat_map texts_in (member_values (members_view l.members.entries))
