-- The range of a column, block by block.
use Rattle.std.proofs.Common.{◌≡◌, ◌∙◌, ◌+◌, ◌*◌, ◌<◌, ◌≤◌, ℕ, List, [], ◌++◌, drop, get_or, length, take, sym, ap, ap₂, subst, arith}
use Rattle.std.proofs.lemmas.List.{drop-take, get_or_default, length-map, length-take, map-append, take-append-drop, take-take}
use Rattle.std.proofs.lemmas.List.Sums.{count_by-le-length}
use Rattle.block_summary.specs.declared.block.TheConstants.{BLOCK_ROWS}
use Rattle.block_summary.specs.Laws.{RangesJoin}
use Rattle.block_summary.specs.Ranges.{RangeOf, column_of, is_null, joined_range, no_range, IsRangeOf}
use Rattle.cell_types.specs.Value.{CellValue, null}
use Rattle.table_store.specs.Summaries.{AreSummariesOf}
use Rattle.table_store.specs.Table.{TableOf}

-- the first rows, and the next
take-more : (a b : ℕ) (rows : List (List CellValue)) → take (a + b) rows ≡ take a rows ++ take b (drop a rows)
take-more a b rows =
    sym (take-append-drop a (take (a + b) rows))
    ∙ ap₂ (λ (front back : List (List CellValue)). front ++ back) (take-take a (a + b) rows (omega arith)) (drop-take a b rows)

-- the cells of the rows up to the end of a block
block-more : (rows : List (List CellValue)) (number col : ℕ)
    → column_of (take ((number + 1) * BLOCK_ROWS) rows) col
    ≡ column_of (take (number * BLOCK_ROWS) rows) col ++ column_of (take BLOCK_ROWS (drop (number * BLOCK_ROWS) rows)) col
block-more rows number col =
    let next : (number + 1) * BLOCK_ROWS ≡ number * BLOCK_ROWS + BLOCK_ROWS = omega arith in
    ap (λ n. column_of (take n rows) col) next
    ∙ ap (λ (xs : List (List CellValue)). column_of xs col) (take-more (number * BLOCK_ROWS) BLOCK_ROWS rows)
    ∙ map-append _ (take (number * BLOCK_ROWS) rows) (take BLOCK_ROWS (drop (number * BLOCK_ROWS) rows))

-- the range of the rows before a block, joined with that of the block
pub block-joined : RangesJoin → (table : TableOf) (summaries : List (List RangeOf)) (number col : ℕ) (ranges : List RangeOf) (before own : RangeOf)
    → AreSummariesOf table summaries → number < length summaries → ranges ≡ get_or summaries number ranges → col < length table.schema.columns
    → own ≡ get_or ranges col no_range → IsRangeOf before (column_of (take (number * BLOCK_ROWS) table.rows) col)
    → IsRangeOf (joined_range before own) (column_of (take ((number + 1) * BLOCK_ROWS) table.rows) col)
block-joined join table summaries number col ranges before own are within is narrow own_is so_far =
    let summary = are.each number within in
    let wide : col < length (get_or summaries number []) = omega (arith, narrow, summary.width) in
    let same : own ≡ get_or (get_or summaries number []) col no_range = own_is ∙ ap (λ (rs : List RangeOf). get_or rs col no_range) (is ∙ get_or_default summaries number ranges [] within) in
    let block = column_of (take BLOCK_ROWS (drop (number * BLOCK_ROWS) table.rows)) col in
    let of_block : IsRangeOf own block = subst (λ (r : RangeOf). IsRangeOf r block) (sym same) (summary.each col wide) in
    subst (IsRangeOf (joined_range before own)) (sym (block-more table.rows number col)) (join before own _ block so_far of_block)

-- no more cells of a front are null than there are rows
pub nulls-within : (range : RangeOf) (rows : List (List CellValue)) (count col : ℕ) → IsRangeOf range (column_of (take count rows) col) → range.null_count ≤ length rows
nulls-within range rows count col is =
    omega (arith, is.null_count, count_by-le-length is_null (column_of (take count rows) col), length-map (take count rows) (λ (row : List CellValue). get_or row col null), length-take count rows)
