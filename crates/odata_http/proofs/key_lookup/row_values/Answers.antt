use Rattle.std.proofs.Common.{◌≡◌, [], ◌∷◌, ℕ, ap, arith, get_or, subst, take, ◌∙◌}
use Rattle.std.proofs.lemmas.List.{map-append}
use Rattle.cell_types.specs.Value.{value_view}
use Rattle.row_eval.specs.Row.{row_view}
use Rattle.odata_http.proofs.KeyLookupLemmas.{row_read, row_wide, value_more}
use Rattle.odata_http.proofs.key_lookup.row_values.Goals as goal

pub loop-col-preserved : goal.loop-col-preserved
loop-col-preserved c =
    let wide = row_wide c.args.table.now.rows c.args.row c.width-width.result c.requires c.width-width.ensures.rows in
    let test = c.loop-col-test.true in
    ap row_view c.in_ok-push.ensures.items
    ∙ map-append value_view c.loop-col.values.items (c.in_ok-value.field-0 ∷ [])
    ∙ value_more c.args.table.now.rows c.args.row c.loop-col.col (row_view c.loop-col.values.items) (value_view c.in_ok-value.field-0) c.requires (omega (arith, test, wide))
    c.loop-col.invariant c.in_ok-value.ensures.value

pub returns-clause-row : goal.returns-clause-row
returns-clause-row c =
    let wide = row_wide c.args.table.now.rows c.args.row c.width-width.result c.requires c.width-width.ensures.rows in
    let test = c.loop-col-test.false in
    let most = c.loop-col.auto.col-end in
    let all : c.loop-col.col ≡ c.width-width.result = omega (arith, test, most) in
    row_read c.args.table.now.rows c.args.row c.width-width.result (row_view c.loop-col.values.items) c.requires wide
    (subst (λ (n : ℕ). row_view c.loop-col.values.items ≡ take n (get_or c.args.table.now.rows c.args.row [])) all c.loop-col.invariant)
