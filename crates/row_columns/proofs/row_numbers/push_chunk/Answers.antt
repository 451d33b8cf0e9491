use Rattle.std.proofs.Common.{◌+◌, arith, ap, ◌∙◌}
use Rattle.row_columns.specs.Chunks.{chunked_numbers}
use Rattle.row_columns.specs.Numbers.{numbers_from}
use Rattle.row_columns.proofs.ChunkLemmas.{chunks_push, counted_push, run_more}
use Rattle.row_columns.proofs.row_numbers.push_chunk.Goals as goal

pub returns-then-chunk-start-clause-came : goal.returns-then-chunk-start-clause-came
returns-then-chunk-start-clause-came c =
    let chunks = c.args.chunks.now in
    run_more chunks.items c.args.chunk c.index.result.now c.index-then-is_all-2.result.now c.index_mut.result.now c.all.result (omega (arith, c.len.ensures, c.if-len-eq1.true, chunks.ok.0)) c.index.ensures
    c.index-then-is_all-2.ensures c.index_mut.ensures.value (c.is_all.ensures c.if-is_all.true) (c.is_all-then-is_all.ensures c.if-is_all-2.true)
    (omega (arith, c.if-start-chunk.true, c.if-chunk-start.true)) c.requires.before (c.all.ensures ∙ ap (λ n. numbers_from 0 (c.args.chunk.before + n)) c.len-then-chunk-start.ensures)

pub returns-clause-counted : goal.returns-clause-counted
returns-clause-counted c =
    rw c.in_ok-push.ensures.items (counted_push 0 c.args.chunks.now.items c.args.chunk c.requires.counted (omega (arith, c.requires.before)))

pub returns-clause-came : goal.returns-clause-came
returns-clause-came c = ap chunked_numbers c.in_ok-push.ensures.items ∙ chunks_push c.args.chunks.now.items c.args.chunk
