use Rattle.std.proofs.Common.{◌++◌, ◌∙◌, ap, subst, sym}
use Rattle.file_convert.specs.Conversion.{IsConversion}
use Rattle.file_passes.proofs.passes.Pass.end.Goals as goal

pub returns : goal.returns
returns c asks made making =
    let adds = c.in_ok-converted.ensures asks making.0 made making.1 in
    (making.0, subst (λ part. IsConversion asks making.0 (made ++ part) c.in_ok-converted.converted) (sym (adds.1 ∙ ap (λ l. l ++ adds.0) c.clear.ensures.items)) adds.2)
