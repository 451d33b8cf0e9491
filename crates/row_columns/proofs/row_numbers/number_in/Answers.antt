use Rattle.std.proofs.Common.{arith, sym}
use Rattle.row_columns.proofs.ChunkLemmas.{chunk_read}
use Rattle.row_columns.proofs.row_numbers.number_in.Goals as goal

pub at-requires : goal.at-requires
at-requires c =
    (chunk_read c.args.chunks.now c.chunk_of.result c.args.place c.index-chunks-chunk_of.result c.requires.counted c.requires.fit c.chunk_of.ensures.within
    c.chunk_of.ensures.before c.chunk_of.ensures.next c.requires.place c.index-chunks-chunk_of.is).0

pub overflow_add-result : goal.overflow_add-result
overflow_add-result c =
    let at = chunk_read c.args.chunks.now c.chunk_of.result c.args.place c.index-chunks-chunk_of.result c.requires.counted c.requires.fit c.chunk_of.ensures.within
    c.chunk_of.ensures.before c.chunk_of.ensures.next c.requires.place c.index-chunks-chunk_of.is in
    omega (arith, at.1, c.at.ensures)

pub overflow_cast-result : goal.overflow_cast-result
overflow_cast-result c =
    let at = chunk_read c.args.chunks.now c.chunk_of.result c.args.place c.index-chunks-chunk_of.result c.requires.counted c.requires.fit c.chunk_of.ensures.within
    c.chunk_of.ensures.before c.chunk_of.ensures.next c.requires.place c.index-chunks-chunk_of.is in
    omega (arith, at.1, c.at.ensures)

pub returns : goal.returns
returns c =
    let at = chunk_read c.args.chunks.now c.chunk_of.result c.args.place c.index-chunks-chunk_of.result c.requires.counted c.requires.fit c.chunk_of.ensures.within
    c.chunk_of.ensures.before c.chunk_of.ensures.next c.requires.place c.index-chunks-chunk_of.is in
    rw c.at.ensures (sym at.2)
