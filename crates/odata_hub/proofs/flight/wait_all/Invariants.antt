use Rattle.std.proofs.Common.{◌≡◌, ◌++◌, length}
use Rattle.std.specs.Vec.Iter.{into_iter_items, into_iter_len}
use Rattle.odata_http.specs.Answer.{AreSmall}
use Rattle.odata_hub.specs.Streams.{asked}
use Rattle.odata_hub.proofs.flight.wait_all.Given as goal

-- the heads before this one wait, and those after are small
abbrev pub invariant-loop-head : goal.invariant-loop-head
invariant-loop-head l = (into_iter_len l.head-iterator ≡ length (into_iter_items l.head-iterator))
    × AreSmall (into_iter_items l.head-iterator)
    × (l.waiting.items ++ asked l.catalog.value (into_iter_items l.head-iterator)
    ≡ l.initial.waiting.items ++ asked l.catalog.value (into_iter_items l.initial.head-iterator))
