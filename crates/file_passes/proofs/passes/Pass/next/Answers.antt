use Rattle.std.proofs.Common.{◌++◌, ◌∙◌, ap, subst, sym}
use Rattle.file_convert.specs.Pieces.{IsConverting}
use Rattle.file_passes.proofs.passes.Pass.next.Goals as goal

pub returns : goal.returns
returns c asks made making =
    let adds = c.in_ok-feed.ensures asks making.0 made making.1 in
    let given = making.0 ++ c.as_slice.result.now in
    (given, subst (λ part. IsConverting asks given (made ++ part) c.feed.new.self) (sym (adds.1 ∙ ap (λ l. l ++ adds.0) c.clear.ensures.items)) adds.2)
