-- The items of an array are the values of its list.
use Rattle.std.proofs.Common.{◌≡◌, Some, sym, rules}
use Rattle.serde_json.specs.Find.{as_array}
use Rattle.serde_json.specs.View.{view, items_view}
use Rattle.csvw_meta.proofs.MemberLemmas.{values-items_view}
use Rattle.csvw_meta.proofs.texts.parts.Goals as goal

pub returns-in-Some : goal.returns-in-Some
returns-in-Some c =
    let values = c.in-Some.values.now.items in
    let e : as_array (view c.args.value.now) ≡ Some (items_view values) = search rules in
    rw (e, c.as_slice.ensures.value) (sym (values-items_view values))
