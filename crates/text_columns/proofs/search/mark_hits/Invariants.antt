use Rattle.std.proofs.Common.{◌-◌, ◌+◌, length}
use Rattle.text_columns.specs.Places.{place_list}
use Rattle.text_columns.proofs.SearchLemmas.{AreFound}
use Rattle.text_columns.proofs.search.mark_hits.Given as goal

abbrev pub invariant-loop-found : goal.invariant-loop-found
invariant-loop-found l = AreFound l.nulls (place_list l.ends) l.bytes l.part l.out l.row l.from

abbrev pub decreases-loop-found : goal.decreases-loop-found
decreases-loop-found l = length l.bytes + 1 - l.from
