-- The double quotes on both sides are characters of their own.
use Rattle.std.proofs.Common.{◌≡◌, ◌-◌, length, get_or, take, drop, max, arith, sym, ap, ◌∙◌}
use Rattle.std.proofs.lemmas.List.{length-take, length-drop}
use Rattle.csv_fields.proofs.QuoteBoundaries.{behind_quote, before_quote}
use Rattle.csv_fields.proofs.pieces.between.Goals as goal

pub range-requires-clause-start_boundary : goal.range-requires-clause-start_boundary
range-requires-clause-start_boundary c some =
    let first : get_or c.as_bytes.result.now 0 0 ≡ 34 = omega arith in
    behind_quote c.without_return-field.result.now c.without_return-field.utf8 (ap (λ bytes. get_or bytes 0 0) (sym c.as_bytes.ensures.value) ∙ first)

pub range-requires-clause-end_boundary : goal.range-requires-clause-end_boundary
range-requires-clause-end_boundary c =
    let first : get_or c.as_bytes.result.now 0 0 ≡ 34 = omega arith in
    let size : length (take (length c.as_bytes.result.now - 1) (drop 1 c.as_bytes.result.now)) ≡ length c.without_return-field.result.now - 1 =
    omega (arith, length-take (length c.as_bytes.result.now - 1) (drop 1 c.as_bytes.result.now), length-drop 1 c.as_bytes.result.now, ap length c.as_bytes.ensures.value) in
    before_quote c.without_return-field.result.now c.args.piece.now c.max.result c.without_return-field.utf8
    (ap (λ bytes. get_or bytes 0 0) (sym c.as_bytes.ensures.value) ∙ first)
    (c.max.ensures ∙ ap (λ n. max n 1) size) c.requires c.without_return-field.ensures
