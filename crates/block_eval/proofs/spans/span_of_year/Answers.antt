use Rattle.std.proofs.Common.{rules, ◌≡◌, pos, ◌+ℤ◌, ◌*ℤ◌, to_z, of_z, w64}
use Rattle.block_eval.proofs.SpanLemmas.{span-of-days}
use Rattle.block_eval.proofs.spans.span_of_year.Goals as goal

pub returns : goal.returns
returns c =
    let least_is : to_z w64 (of_z w64 c.in_ok-least.least) ≡ c.args.year *ℤ pos 512 = search rules in
    let greatest_is : to_z w64 (of_z w64 c.in_ok-greatest.greatest) ≡ (c.args.year *ℤ pos 512) +ℤ pos 511 = search rules in
    span-of-days c.args.year _ least_is greatest_is
