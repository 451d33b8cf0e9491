-- The items of an array are the values of its list.
use Rattle.std.proofs.Common.{◌≡◌, Some, option_and_then, sym, rules}
use Rattle.serde_json.specs.Find.{as_array}
use Rattle.serde_json.specs.View.{view, items_view}
use Rattle.csvw_meta.specs.Members.{member}
use Rattle.csvw_meta.proofs.MemberLemmas.{values-items_view}
use Rattle.csvw_meta.proofs.members.array_member.Goals as goal

pub returns-in-Some : goal.returns-in-Some
returns-in-Some c =
    let items = c.in-Some.items.now.items in
    let e : option_and_then as_array (member c.args.name.now (view c.args.value.now)) ≡ Some (items_view items) = search rules in
    rw (e, c.as_slice.ensures.value) (sym (values-items_view items))
