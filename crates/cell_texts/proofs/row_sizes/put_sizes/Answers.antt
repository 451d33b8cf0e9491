use Rattle.std.proofs.Common.{◌≡◌, ◌+◌, ◌<◌, ℕ, List, [], get_or, length, map, refl, subst, sym, ap, ◌∙◌, arith}
use Rattle.cell_types.specs.Value.{CellValue, null}
use Rattle.reply_values.specs.Printed.{printed_value}
use Rattle.cell_texts.proofs.SizeLemmas.{cell_of_few, every_value, few_long, few_wide, filled, value_more}
use Rattle.cell_texts.specs.contracts.row_sizes.put_sizes.{JSON-type}
use denote.Param.{number}
use Rattle.cell_texts.proofs.row_sizes.put_sizes.Goals as goal

pub column-requires : goal.column-requires
column-requires g c =
    let rows = c.args.columns.now.rows in
    let count = length c.fill.new.self in
    subst (λ (rs : List (List CellValue)). (row : ℕ) → row < length rs → c.loop-col.col < length (get_or rs row [])) (sym c.in-Some.ensures)
    (few_wide rows c.args.first count c.width-col-end.result c.loop-col.col (omega arith) (omega arith) (λ row d h. c.rows_are_wide.ensures row d h ∙ sym c.width-col-end.ensures))

pub add_cells-requires : goal.add_cells-requires
add_cells-requires g c =
    let rows = c.args.columns.now.rows in
    let count = length c.fill.new.self in
    ap length c.column.ensures ∙ ap (λ (rs : List (List CellValue)). length (map (λ (row : List CellValue). get_or row c.loop-col.col null) rs)) c.in-Some.ensures
    ∙ few_long rows c.args.first count c.loop-col.col (omega arith) ∙ omega arith

pub loop-col-init : goal.loop-col-init
loop-col-init g c = λ k h. filled _ _ _ k (c.fill.ensures.after (λ y e. e)) h (omega arith)

pub loop-col-preserved : goal.loop-col-preserved
loop-col-preserved g c = λ k h.
    let rows = c.args.columns.now.rows in
    let f = printed_value (JSON-type (number g.row.JSON)) in
    let count = length c.fill.new.self in
    let less : k < count = omega (arith, h, c.add_cells.ensures.long) in
    let values = get_or rows (c.args.first + k) [] in
    let wide : length values ≡ length c.args.columns.now.kinds = c.rows_are_wide.ensures (c.args.first + k) [] (omega (arith, less)) in
    let value = get_or c.column.result k null in
    let is : get_or values c.loop-col.col null ≡ value =
    sym (ap (λ (cs : List CellValue). get_or cs k null) (c.column.ensures ∙ ap (λ (rs : List (List CellValue)). map (λ (row : List CellValue). get_or row c.loop-col.col null) rs) c.in-Some.ensures)
    ∙ cell_of_few rows c.args.first count c.loop-col.col k less (omega arith)) in
    value_more f values value c.args.frame c.loop-col.col _ _ (omega (arith, c.loop-col-test.true, c.width-col-end.ensures, wide)) is
    (c.loop-col.invariant k (omega (arith, less))) (c.add_cells.ensures.each k (omega (arith, less)))

pub loop-col-2-init : goal.loop-col-2-init
loop-col-2-init g c = λ k h. filled _ _ _ k (c.fill.ensures.after (λ y e. e)) h (omega arith)

pub loop-col-2-preserved : goal.loop-col-2-preserved
loop-col-2-preserved g c = λ k h.
    let values = get_or c.args.columns.now.rows (c.args.first + k) [] in
    let less : k < length c.fill.new.self = omega (arith, h, c.add_column.ensures.long) in
    let wide : length values ≡ length c.args.columns.now.kinds = c.rows_are_wide.ensures (c.args.first + k) [] (omega (arith, less)) in
    value_more (printed_value (JSON-type (number g.row.JSON))) values (get_or values c.loop-col-2.col null) c.args.frame c.loop-col-2.col _ _
    (omega (arith, c.loop-col-2-test.true, c.width-col-end-in-None.ensures, wide)) refl (c.loop-col-2.invariant k (omega (arith, less))) (c.add_column.ensures.each k (omega (arith, less)))

pub returns-after-loop-col-clause-sizes : goal.returns-after-loop-col-clause-sizes
returns-after-loop-col-clause-sizes g c = λ k h.
    let values = get_or c.args.columns.now.rows (c.args.first + k) [] in
    let wide : length values ≡ length c.args.columns.now.kinds = c.rows_are_wide.ensures (c.args.first + k) [] (omega arith) in
    every_value (printed_value (JSON-type (number g.row.JSON))) values c.args.frame c.loop-col.col _ (omega (arith, c.loop-col-test.false, c.width-col-end.ensures, wide)) (c.loop-col.invariant k h)

pub returns-after-loop-col-2-clause-sizes : goal.returns-after-loop-col-2-clause-sizes
returns-after-loop-col-2-clause-sizes g c = λ k h.
    let values = get_or c.args.columns.now.rows (c.args.first + k) [] in
    let wide : length values ≡ length c.args.columns.now.kinds = c.rows_are_wide.ensures (c.args.first + k) [] (omega arith) in
    every_value (printed_value (JSON-type (number g.row.JSON))) values c.args.frame c.loop-col-2.col _ (omega (arith, c.loop-col-2-test.false, c.width-col-end-in-None.ensures, wide)) (c.loop-col-2.invariant k h)
