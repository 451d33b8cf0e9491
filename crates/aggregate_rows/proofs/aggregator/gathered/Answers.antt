use Rattle.std.proofs.Common.{[], length, map, rules}
use Rattle.std.specs.Prelude.{option_map}
use Rattle.std.proofs.lemmas.Result.{IfOk-weaker}
use Rattle.odata_query.specs.Aggregate.{named_view}
use Rattle.row_columns.specs.Columns.{ColumnsOf}
use Rattle.row_columns.proofs.NumberedLaws.{all_numbered, all_within}
use Rattle.aggregate_rows.proofs.aggregator.gathered.Goals as goal

pub join-requires-clause-within : goal.join-requires-clause-within
join-requires-clause-within c =
    rw (c.all-all.ensures, c.len.ensures) (all_within (length c.args.columns.now.rows))

pub join-requires-clause-joins : goal.join-requires-clause-joins
join-requires-clause-joins c =
    let rows = c.args.columns.now.rows in
    record {
      places = option_map (λ places. places.now) c.args.places;
      aggregates = map named_view c.args.aggregates.now;
      rows = [];
      gathers = c.in_ok-aggregator.ensures;
      within = search rules;
      fits = rw (c.all-all.ensures, c.len.ensures, all_numbered rows) c.requires.fits;
    }

pub finish-requires : goal.finish-requires
finish-requires c =
    let places = option_map (λ places. places.now) c.args.places in
    let aggregates = map named_view c.args.aggregates.now in
    let rows = c.args.columns.now.rows in
    (places, aggregates, rows, (rw (c.all-all.ensures, c.len.ensures, all_numbered rows) at c.in_ok-join.ensures) places aggregates [] c.in_ok-aggregator.ensures)

pub returns : goal.returns
returns c =
    let places = option_map (λ places. places.now) c.args.places in
    let aggregates = map named_view c.args.aggregates.now in
    let rows = c.args.columns.now.rows in
    let joined = (rw (c.all-all.ensures, c.len.ensures, all_numbered rows) at c.in_ok-join.ensures) places aggregates [] c.in_ok-aggregator.ensures in
    record {
      width = IfOk-weaker c.finish.result _ _ (λ (made : ColumnsOf) is. is places aggregates rows joined) c.finish.ensures.width;
      rows = IfOk-weaker c.finish.result _ _ (λ (made : ColumnsOf) is. is places aggregates rows joined) c.finish.ensures.rows;
    }
