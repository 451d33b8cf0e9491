use Rattle.std.proofs.Common.{◌≡◌, Option, Some, None, refl, ap, subst, ◌∙◌}
use Rattle.std.specs.Prelude.{option_map, unwrap_or}
use Rattle.block_summary.specs.Ranges.{HasGreatest, HasLeast}
use Rattle.cell_types.specs.Value.{null, value_view}
use Rattle.cell_types.specs.declared.value.Value.{Value}
use Rattle.cell_types.specs.declared.value.Value.TheVariants.{Null}
use Rattle.row_columns.specs.Picked.{numbered}
use Rattle.aggregate_rows.proofs.EndLemmas.{greatest_end, least_end}
use Rattle.aggregate_rows.proofs.kept.kept_extreme.Goals as goal

view_or : (o : Option Value) → value_view (unwrap_or o Null) ≡ unwrap_or (option_map value_view o) null
view_or None = refl
view_or (Some v) = refl

pub returns-in-Least : goal.returns-in-Least
returns-in-Least c =
    let rows = numbered c.args.numbers.now c.args.columns.now.rows in
    let least = option_map value_view c.ends-least.result.0 in
    rw c.in-Least.is (ap value_view c.unwrap_or.ensures ∙ view_or c.ends-least.result.0
    ∙ least_end c.args.place rows c.extremes_are_values.ensures c.values_are_ordered.ensures.same least (subst (HasLeast least) c.in_ok-column.ensures c.ends-least.ensures.least))

pub returns : goal.returns
returns c =
    let rows = numbered c.args.numbers.now c.args.columns.now.rows in
    let greatest = option_map value_view c.ends-least.result.1 in
    rw c.in-Greatest.is (ap value_view c.unwrap_or-in-Greatest.ensures ∙ view_or c.ends-least.result.1
    ∙ greatest_end c.args.place rows c.extremes_are_values.ensures c.values_are_ordered.ensures.same greatest (subst (HasGreatest greatest) c.in_ok-column.ensures c.ends-least.ensures.greatest))
