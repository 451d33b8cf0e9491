use Rattle.std.proofs.Common.{◌++◌, [], ◌∷◌, ap, arith, get_or, length, sym, take, ◌∙◌}
use Rattle.std.proofs.lemmas.List.{take_more}
use Rattle.row_columns.specs.Chunks.{chunk_numbers, chunked_numbers}
use Rattle.row_columns.proofs.ChunkLemmas.{chunk_fits, chunks_push}
use Rattle.row_columns.proofs.row_numbers.RowNumbers.list.Goals as goal

pub push_rows-requires : goal.push_rows-requires
push_rows-requires c =
    let chunks = c.self.inside.chunks.items in
    let item = c.chunk-item.result in
    let i = c.loop-chunk.chunk-index in
    chunk_fits chunks i item c.self.invariant.fit (omega (arith, c.loop-chunk-test.true, ap length c.as_slice-chunk-items.ensures.value))
    (c.chunk-item.is ∙ ap (λ (cs : _). get_or cs i item) c.as_slice-chunk-items.ensures.value)

pub loop-chunk-preserved : goal.loop-chunk-preserved
loop-chunk-preserved c =
    let chunks = c.as_slice-chunk-items.result.now in
    let item = c.chunk-item.result in
    let i = c.loop-chunk.chunk-index in
    c.in_ok-push_rows.ensures ∙ ap (λ ns. ns ++ chunk_numbers item) c.loop-chunk.invariant ∙ sym (chunks_push (take i chunks) item)
    ∙ ap chunked_numbers (ap (λ d. take i chunks ++ d ∷ []) c.chunk-item.is ∙ sym (take_more chunks i item c.loop-chunk-test.true))
