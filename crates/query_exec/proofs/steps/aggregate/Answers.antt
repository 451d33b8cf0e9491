use Rattle.std.proofs.Common.{◌≡◌, ◌∙◌, arith, length, map, refl, string_bytes, sym}
use Rattle.std.proofs.lemmas.List.{length-map}
use Rattle.odata_query.specs.Aggregate.{named_view}
use Rattle.aggregate_rows.specs.Gathered.{lent_places}
use Rattle.query_exec.proofs.AggregateLemmas.{aggregate_makes, aggregates_fit, lent_fit, names_as_wide}
use Rattle.query_exec.proofs.steps.aggregate.Goals as goal

pub gathered-requires-clause-places : goal.gathered-requires-clause-places
gathered-requires-clause-places c =
    lent_fit c.args.input.now (length c.columns.result.now.kinds) (sym c.columns.ensures.width) c.args.places (map named_view c.args.aggregates.now) c.requires

pub gathered-requires-clause-fits : goal.gathered-requires-clause-fits
gathered-requires-clause-fits c =
    rw c.columns.ensures.rows
    (aggregates_fit c.args.input.now (length c.columns.result.now.kinds) (sym c.columns.ensures.width) (lent_places c.args.places) (map named_view c.args.aggregates.now) (omega arith) c.requires)

pub aggregate_names-requires : goal.aggregate_names-requires
aggregate_names-requires c =
    let long : length c.args.input.now.names ≡ length c.names.result.now = rw (← c.names.ensures) (length-map c.names.result.now string_bytes) in
    lent_fit c.args.input.now (length c.names.result.now) long c.args.places (map named_view c.args.aggregates.now) c.requires

pub new-requires : goal.new-requires
new-requires c =
    c.in_ok-columns.ensures.width
    ∙ names_as_wide string_bytes (lent_places c.args.places) (map named_view c.args.aggregates.now) (map string_bytes c.names.result.now) c.in_ok-names.names.items c.in_ok-names.ensures

pub returns : goal.returns
returns c =
    let r = c.args.input.now in
    let places = lent_places c.args.places in
    let aggregates = map named_view c.args.aggregates.now in
    rw (c.stored.ensures, c.new.ensures) (record {
      rows_are = aggregate_makes places aggregates r _ (rw c.names.ensures at c.in_ok-names.ensures) (rw c.columns.ensures.rows at c.in_ok-columns.ensures.rows) c.count.ensures;
      untaken = refl;
    })
