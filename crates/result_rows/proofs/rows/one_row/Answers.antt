use Rattle.std.proofs.Common.{◌≡◌, ◌∷◌, [], length, map, take, ap, ◌∙◌, arith}
use Rattle.std.proofs.lemmas.List.{length-map, length-replicate, take_all}
use Rattle.std.proofs.lemmas.Result.{IfOk-weaker}
use Rattle.cell_types.specs.Value.{value_view}
use Rattle.row_columns.specs.Columns.{ColumnsOf}
use Rattle.row_columns.specs.Kinds.{any}
use Rattle.result_rows.proofs.rows.one_row.Goals as goal

pub of_values-requires : goal.of_values-requires
of_values-requires c =
    let values = c.args.values.now in
    let is : c.loop-value.row ≡ map value_view values = c.loop-value.invariant ∙ ap (map value_view) (take_all c.loop-value.value-index values c.loop-value-test.false) in
    omega (arith, ap length is, length-map values value_view)

pub returns-clause-kinds : goal.returns-clause-kinds
returns-clause-kinds c =
    let values = c.args.values.now in
    IfOk-weaker c.of_values.result _ (λ (made : ColumnsOf). length made.kinds ≡ length values) (λ made is. ap (λ (of : ColumnsOf). length of.kinds) is ∙ length-replicate (length values) any) c.of_values.ensures

pub returns-clause-rows : goal.returns-clause-rows
returns-clause-rows c =
    let values = c.args.values.now in
    let views = map value_view values in
    let is : c.loop-value.row ≡ views = c.loop-value.invariant ∙ ap (map value_view) (take_all c.loop-value.value-index values c.loop-value-test.false) in
    IfOk-weaker c.of_values.result _ (λ (made : ColumnsOf). made.rows ≡ views ∷ [])
    (λ made same. ap (λ (of : ColumnsOf). of.rows) same ∙ ap (λ vs. take (length values) vs ∷ []) is ∙ ap (λ vs. vs ∷ []) (take_all (length values) views (omega (arith, length-map values value_view)))) c.of_values.ensures
