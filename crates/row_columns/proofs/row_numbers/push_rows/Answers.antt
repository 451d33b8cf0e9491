use Rattle.std.proofs.Common.{◌≡◌, ◌+◌, ◌<◌, List, ℕ, ap, arith, get_or, length, ◌∙◌}
use Rattle.std.proofs.lemmas.List.{get_or-map, length-map}
use Rattle.row_columns.proofs.row_numbers.push_rows.Goals as goal

pub overflow_add-chunk : goal.overflow_add-chunk
overflow_add-chunk c =
    let rows = c.args.chunk.now.rows in
    let k = c.loop-row.row-index in
    let is : c.as_slice-row-items.result.now ≡ rows = c.as_slice-row-items.ensures.value ∙ c.in_ok-rows.ensures in
    let less : k < length rows = omega (arith, c.loop-row-test.true, ap (λ (ns : List ℕ). length ns) is) in
    omega (arith, c.requires k 0 (omega (arith, less, length-map rows (λ row. c.args.chunk.now.start + row))), get_or-map (λ row. c.args.chunk.now.start + row) rows k 0 0 less, ap (λ (ns : List ℕ). get_or ns k 0) is)

pub overflow_cast-chunk : goal.overflow_cast-chunk
overflow_cast-chunk c =
    let rows = c.args.chunk.now.rows in
    let k = c.loop-row.row-index in
    let is : c.as_slice-row-items.result.now ≡ rows = c.as_slice-row-items.ensures.value ∙ c.in_ok-rows.ensures in
    let less : k < length rows = omega (arith, c.loop-row-test.true, ap (λ (ns : List ℕ). length ns) is) in
    omega (arith, c.requires k 0 (omega (arith, less, length-map rows (λ row. c.args.chunk.now.start + row))), get_or-map (λ row. c.args.chunk.now.start + row) rows k 0 0 less, ap (λ (ns : List ℕ). get_or ns k 0) is)
