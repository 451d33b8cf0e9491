use Rattle.std.proofs.Common.{◌==◌, length, ltb, ap, ◌∙◌, arith}
use Rattle.std.proofs.lemmas.List.{take-take}
use Rattle.std.proofs.lemmas.Simd.{length-chunk}
use Rattle.std.specs.List.{list_any}
use Rattle.std.specs.Simd.Lanes.{chunk}
use Rattle.csv_grammar.specs.Bytes.{double_quote}
use Rattle.text_columns.proofs.QuoteLemmas.{any-front}
use Rattle.text_columns.proofs.content.has_quote.Goals as goal

pub returns-then-rest-ge-LANES : goal.returns-then-rest-ge-LANES
returns-then-rest-ge-LANES c =
    let n = length c.args.piece.now in
    ap (λ k. ltb k n) c.quote_at.ensures
    ∙ any-front (λ byte. byte == double_quote) (chunk 0 16 c.args.rest.now) n (omega (arith, length-chunk 0 16 c.args.rest.now (omega arith)))
    ∙ ap (list_any (λ byte. byte == double_quote)) (take-take n 16 c.args.rest.now (omega arith) ∙ c.requires)
