-- The values of the map are the members of the object.
use Rattle.std.proofs.Common.{◌≡◌, Some, rules}
use Rattle.std.proofs.lemmas.List.Folds.{list_all-map}
use Rattle.serde_json.specs.Find.{as_object}
use Rattle.serde_json.specs.View.{view, members_view}
use Rattle.csvw_meta.specs.Texts.{is_language_value}
use Rattle.csvw_meta.proofs.MemberLemmas.{member_values-members_view}
use Rattle.std.specs.Map.{values_of}
use Rattle.csvw_meta.proofs.texts.is_titles.Goals as goal

pub returns-in-Some : goal.returns-in-Some
returns-in-Some c =
    let members = c.in-Some.members.now.entries in
    let e : as_object (view c.args.value.now) ≡ Some (members_view members) = search rules in
    rw (e, member_values-members_view members, list_all-map is_language_value view (values_of members)) c.are_language_values.ensures
