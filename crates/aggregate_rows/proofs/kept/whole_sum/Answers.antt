use Rattle.std.proofs.Common.{◌≡◌, FitsSigned, Some, to_z, of_z, rules, sym, ap, ◌∙◌}
use Rattle.std.specs.Int.{w128}
use Rattle.std.proofs.lemmas.Int.{to_z-of_z}
use Rattle.aggregate_rows.proofs.KeptLemmas.{no_whole_sum, whole_sum}
use Rattle.aggregate_rows.proofs.kept.whole_sum.Goals as goal

pub returns-then-null_count-len : goal.returns-then-null_count-len
returns-then-null_count-len c = λ summed typed. no_whole_sum summed c.args.column.now typed (sym c.null_count.ensures ∙ c.if-null_count-len.true ∙ c.len.ensures)

pub returns : goal.returns
returns c = λ summed typed.
    let fits : FitsSigned w128 c.sum.result = search rules in
    let same : to_z w128 (of_z w128 c.sum.result) ≡ c.sum.result = to_z-of_z w128 c.sum.result fits in
    rw same (ap Some c.sum.ensures ∙ whole_sum summed c.args.column.now typed (λ all. c.if-null_count-len.false (c.null_count.ensures ∙ all ∙ sym c.len.ensures)))
