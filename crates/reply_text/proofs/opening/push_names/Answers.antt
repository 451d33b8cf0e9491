use Rattle.std.proofs.Common.{string_bytes}
use Rattle.reply_text.proofs.JoinLemmas.{item_more}
use Rattle.reply_text.proofs.opening.push_names.Goals as goal

pub loop-place-preserved : goal.loop-place-preserved
loop-place-preserved c =
    item_more string_bytes c.args.names.now c.index-names-place.result _ _ _ _ _ c.loop-place.invariant c.loop-place-test.true c.index-names-place.is
    c.in_ok-push_comma.ensures (rw c.as_bytes.ensures.value at c.in_ok-extend_from_slice.ensures.items)
