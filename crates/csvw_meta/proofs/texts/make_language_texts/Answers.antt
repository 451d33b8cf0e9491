-- The values of the map are the members of the object.
use Rattle.std.proofs.Common.{refl}
use Rattle.csvw_meta.proofs.MemberLemmas.{member_values-members_view}
use Rattle.csvw_meta.proofs.texts.make_language_texts.Goals as goal

pub loop-value-init : goal.loop-value-init
loop-value-init c =
    rw (member_values-members_view c.args.members.now.entries, c.new-texts.ensures.items, c.into_iter-value-iterator.ensures.into_iter_gives, c.values-value-items.ensures.rest) refl
