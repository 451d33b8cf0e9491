use Rattle.std.proofs.Common.{◌≡◌, true, false, Some, sym, ap, ◌∙◌, length, arith}
use Rattle.csv_grammar.specs.Raw.{raw_content}
use Rattle.csv_fields.specs.Raw.{raw_view}
use Rattle.cell_types.specs.Column.{column_view}
use Rattle.file_cells.specs.Rows.{is_called}
use Rattle.file_cells.proofs.PlaceLemmas.{slice_get-from_read}
use Rattle.file_cells.proofs.HeaderLemmas.{other_from-here, other_from-past, other_from-long}
use Rattle.file_cells.proofs.header.first_mismatch.Goals as goal

pub returns-then-not-is_called : goal.returns-then-not-is_called
returns-then-not-is_called c =
    let fields = c.args.file.now.header in
    let raw = raw_view c.header.result in
    let col = c.loop-col.col in
    let column = c.index-columns-col.result in
    let at_column = slice_get-from_read c.args.columns.now col column c.loop-col-test.true c.index-columns-col.is in
    let at_raw = c.header.ensures in
    let says : c.as_str.result.now ≡ raw_content raw = c.as_str.ensures.value ∙ c.in_ok-text.ensures.content in
    let other : is_called (column_view column) (raw_content raw) ≡ false =
    ap (is_called (column_view column)) (sym says) ∙ sym c.is_called.ensures ∙ c.if-not-is_called.true in
    sym (other_from-here c.args.columns.now fields col column raw at_column at_raw other) ∙ c.loop-col.invariant.1

pub loop-col-preserved : goal.loop-col-preserved
loop-col-preserved c =
    let fields = c.args.file.now.header in
    let raw = raw_view c.header.result in
    let col = c.loop-col.col in
    let column = c.index-columns-col.result in
    let at_column = slice_get-from_read c.args.columns.now col column c.loop-col-test.true c.index-columns-col.is in
    let at_raw = c.header.ensures in
    let says : c.as_str.result.now ≡ raw_content raw = c.as_str.ensures.value ∙ c.in_ok-text.ensures.content in
    let called : is_called (column_view column) (raw_content raw) ≡ true =
    ap (is_called (column_view column)) (sym says) ∙ sym c.is_called.ensures ∙ c.if-not-is_called.false in
    (omega arith, sym (other_from-past c.args.columns.now fields col column raw at_column at_raw called) ∙ c.loop-col.invariant.1)

pub returns-then-columns-width : goal.returns-then-columns-width
returns-then-columns-width c =
    let fields = c.args.file.now.header in
    let wide = c.width-width.ensures.header in
    let here = other_from-long c.args.columns.now fields c.loop-col.col (omega arith) (omega arith) in
    let same : length c.args.columns.now ≡ c.loop-col.col = omega arith in
    ap (λ k. Some k) same ∙ sym here ∙ c.loop-col.invariant.1
