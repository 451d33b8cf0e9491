use Rattle.std.proofs.Common.{◌≡◌, ◌++◌, ℕ, List, sym, ap, ◌∙◌}
use Rattle.std.specs.Cmp.{IsTotalOrder}
use Rattle.cell_types.specs.Value.{CellValue, value_cmp, value_view}
use Rattle.query_meaning.specs.Apply.{computed_value}
use Rattle.row_columns.specs.Picked.{numbered}
use Rattle.aggregate_rows.specs.declared.computed.Extreme.{Extreme}
use Rattle.aggregate_rows.specs.Computed.{aggregate_of, better_value}
use Rattle.aggregate_rows.proofs.ValueLemmas.{extreme_joined}
use Rattle.aggregate_rows.proofs.results.better_extreme.Goals as goal

-- the least or the greatest value becomes that of more rows
becomes : (total : IsTotalOrder value_cmp) (rows more : List (List CellValue)) (place : ℕ) (extreme : Extreme) (old new other : CellValue) → other ≡ computed_value more (aggregate_of extreme place)
    → new ≡ better_value extreme old other → old ≡ computed_value rows (aggregate_of extreme place) → new ≡ computed_value (rows ++ more) (aggregate_of extreme place)
becomes total rows more place e old new other of_more joins is =
    joins ∙ ap (λ v. better_value e v other) is ∙ ap (better_value e (computed_value rows (aggregate_of e place))) of_more ∙ sym (extreme_joined total place rows more e)

pub returns-then-wins : goal.returns-then-wins
returns-then-wins c = λ rows is.
    becomes c.values_are_ordered.ensures.total rows (numbered c.args.rows.numbers.now c.args.rows.columns.now.rows) c.args.place c.args.extreme (value_view c.args.value.now) (value_view c.extreme_in-other.result)
    (value_view c.extreme_in-other.result) c.extreme_in-other.ensures (rw c.if-wins.true at c.wins.ensures) is

pub returns : goal.returns
returns c = λ rows is.
    becomes c.values_are_ordered.ensures.total rows (numbered c.args.rows.numbers.now c.args.rows.columns.now.rows) c.args.place c.args.extreme (value_view c.args.value.now) (value_view c.args.value.now)
    (value_view c.extreme_in-other.result) c.extreme_in-other.ensures (rw c.if-wins.false at c.wins.ensures) is
