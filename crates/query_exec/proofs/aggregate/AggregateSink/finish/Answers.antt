use Rattle.std.proofs.Common.{◌≡◌, map, refl, rules, string_bytes, ◌∙◌}
use Rattle.odata_query.specs.Aggregate.{aggregates_view}
use Rattle.odata_query.specs.Query.{optional_numbers}
use Rattle.aggregate_rows.specs.Gathered.{lent_places}
use Rattle.query_exec.specs.Steps.{without_count}
use Rattle.result_rows.specs.Kept.{kept_names}
use Rattle.query_exec.proofs.AggregateLemmas.{gathered_finishes, names_as_wide}
use Rattle.query_exec.proofs.aggregate.AggregateSink.finish.Goals as goal

pub new-requires : goal.new-requires
new-requires c =
    let s = c.args.self in
    let lent : lent_places c.as_deref.result ≡ optional_numbers s.places = search rules in
    c.in_ok-columns.ensures.width (optional_numbers s.places) (aggregates_view s.aggregates) c.requires.rows c.requires.pushed.gathers
    ∙ names_as_wide string_bytes (optional_numbers s.places) (aggregates_view s.aggregates) (kept_names s.kept) c.in_ok-names.names.items
    (rw (lent, c.as_slice-2.ensures.value, c.as_slice.ensures.value) at c.in_ok-names.ensures)

pub returns : goal.returns
returns c =
    let lent : lent_places c.as_deref.result ≡ optional_numbers c.args.self.places = search rules in
    rw c.new.ensures (gathered_finishes c.args.self (without_count (map string_bytes c.in_ok-names.names.items) c.in_ok-columns.columns.rows)
    (rw (lent, c.as_slice-2.ensures.value, c.as_slice.ensures.value) at c.in_ok-names.ensures) c.in_ok-columns.ensures.rows refl)
