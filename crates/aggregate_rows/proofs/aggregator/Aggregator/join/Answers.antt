use Rattle.std.proofs.Common.{Some, None, length, refl, sym, ap, ◌∙◌}
use Rattle.std.proofs.lemmas.Result.{on_ok_weaker}
use Rattle.odata_query.specs.Query.{optional_numbers}
use Rattle.row_columns.specs.Picked.{numbered}
use Rattle.aggregate_rows.proofs.GatheredLemmas.{groups_join, groups_may_join}
use Rattle.aggregate_rows.proofs.JoinLemmas.{whole_joined, whole_may_join}
use Rattle.aggregate_rows.proofs.aggregator.Aggregator.join.Goals as goal

pub join_group-requires-clause-joins : goal.join_group-requires-clause-joins
join_group-requires-clause-joins c =
    let more = numbered c.args.numbers.now c.args.columns.now.rows in
    let may = groups_may_join c.args.self.now (length c.args.columns.now.kinds) more c.requires.joins None c.deref.result.now (ap optional_numbers c.in-None.is) c.deref.ensures.value in
    whole_may_join c.deref.result.now may.rows more c.args.self.now.groups (length c.args.columns.now.kinds) may.has may.fits

pub join_rows-requires-clause-joins : goal.join_rows-requires-clause-joins
join_rows-requires-clause-joins c =
    groups_may_join c.args.self.now (length c.args.columns.now.kinds) (numbered c.args.numbers.now c.args.columns.now.rows) c.requires.joins (Some c.deref-in-Some.result.now)
    c.deref-in-Some-2.result.now (ap optional_numbers c.in-Some.is ∙ ap Some (sym c.deref-in-Some.ensures.value)) c.deref-in-Some-2.ensures.value

pub returns-in-None : goal.returns-in-None
returns-in-None c =
    let old = c.args.self.now in
    let more = numbered c.args.numbers.now c.args.columns.now.rows in
    let new = record old { groups = c.join_group.new.self } in
    on_ok_weaker c.join_group.result (λ joined. groups_join old new more None c.deref.result.now refl refl refl (ap optional_numbers c.in-None.is) c.deref.ensures.value
    (λ rows has. whole_joined c.deref.result.now rows more old.groups c.join_group.new.self has joined)) c.join_group.ensures
