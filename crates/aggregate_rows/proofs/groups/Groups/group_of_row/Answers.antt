use Rattle.std.proofs.Common.{[]}
use Rattle.std.specs.Prelude.{slice_index_or}
use Rattle.query_meaning.specs.Apply.{values_at}
use Rattle.aggregate_rows.proofs.BegunLemmas.{is_among}
use Rattle.aggregate_rows.proofs.groups.Groups.group_of_row.Goals as goal

pub returns-in-Some-clause-group : goal.returns-in-Some-clause-group
returns-in-Some-clause-group c = rw c.in-Some.is at c.requires.known

pub returns-in-Some-clause-more : goal.returns-in-Some-clause-more
returns-in-Some-clause-more c =
    let key = values_at c.args.grouping.places.now (slice_index_or c.args.row.columns.now.rows c.args.row.number []) in
    is_among c.values_are_ordered.ensures.equal c.args.grouping.aggregates.now c.args.self.now key c.in-Some.group (rw c.in-Some.is at c.requires.known)
