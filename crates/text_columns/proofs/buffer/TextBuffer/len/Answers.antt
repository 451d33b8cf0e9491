use Rattle.text_columns.proofs.ReadLemmas.{length-view}
use Rattle.text_columns.proofs.buffer.TextBuffer.len.Goals as goal

pub returns : goal.returns
returns c =
    let b = c.self.inside in
    length-view b.nulls.items b.ends.items b.bytes.items b.len c.args.self.now c.self.view_is c.self.invariant.room
