use Rattle.std.proofs.Common.{ap, length, refl, ◌∙◌}
use Rattle.row_columns.specs.Picked.{numbered}
use Rattle.row_selection.specs.Numbers.{numbers_from}
use Rattle.query_exec.proofs.AggregateLemmas.{aggregate_pushed, block_may_join, block_rows, found_within, numbers_within}
use Rattle.query_exec.proofs.aggregate.AggregateSink.push.Goals as goal

pub take-requires-clause-within : goal.take-requires-clause-within
take-requires-clause-within c = numbers_within c.all.result (length c.args.block.now.rows) (c.all.ensures ∙ ap (numbers_from 0) c.rows.ensures)

pub join-requires-clause-within : goal.join-requires-clause-within
join-requires-clause-within c =
    found_within c.args.self.now c.take.new.self c.args.block.now c.args.found c.all.result c.requires c.in_ok-take.ensures (c.all.ensures ∙ ap (numbers_from 0) c.rows.ensures)

pub join-requires-clause-joins : goal.join-requires-clause-joins
join-requires-clause-joins c =
    block_may_join c.args.self.now c.take.new.self c.args.block.now c.args.found c.all.result c.requires c.in_ok-take.ensures (c.all.ensures ∙ ap (numbers_from 0) c.rows.ensures)

pub returns : goal.returns
returns c =
    let old = c.args.self.now in
    let kept = c.take.new.self in
    let same = c.in_ok-take.ensures.same in
    aggregate_pushed old _ c.args.block.now.rows (numbered c.args.found.rows kept.columns.rows) c.args.found refl refl
    (record { places = same.places; names = same.names; kinds = c.clear.ensures.kinds ∙ same.kinds }) c.clear.ensures.rows
    (block_rows old kept c.args.block.now c.args.found c.all.result c.requires c.in_ok-take.ensures (c.all.ensures ∙ ap (numbers_from 0) c.rows.ensures)) c.in_ok-join.ensures
