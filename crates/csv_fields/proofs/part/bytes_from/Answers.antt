use Rattle.std.proofs.Common.{◌-◌, length, length-drop, drop, arith, ap, ◌∙◌}
use Rattle.std.proofs.lemmas.List.{take_all}
use Rattle.csv_fields.proofs.RestLemmas.{drop_min}
use Rattle.csv_fields.proofs.part.bytes_from.Goals as goal

pub returns : goal.returns
returns c =
    let bytes = c.as_bytes-bytes.result.now in
    take_all (length bytes - c.min.result) (drop c.min.result bytes) (omega (arith, length-drop c.min.result bytes))
    ∙ ap (λ k. drop k bytes) c.min.ensures ∙ drop_min bytes c.args.start ∙ ap (drop c.args.start) c.as_bytes-bytes.ensures.value
