use Rattle.std.proofs.Common.{rules, w64}
use Rattle.std.specs.Prelude.{FitsSigned}
use Rattle.std.proofs.lemmas.Int.{to_z-of_z}
use Rattle.block_summary.specs.Types.{numbers_of}
use Rattle.row_codes.proofs.CodeLemmas.{span-within}
use Rattle.row_codes.proofs.codes.span_of.Goals as goal

pub returns-clause-within : goal.returns-clause-within
returns-clause-within c =
    let bounds = c.in-Some.bounds in
    let least_fits : FitsSigned w64 bounds.least = search rules in
    let greatest_fits : FitsSigned w64 bounds.greatest = search rules in
    let last = simp to_z-of_z at c.abs_diff-last.ensures in
    let are = rw c.in-Some.is at c.bounds.ensures in
    simp to_z-of_z (span-within bounds (numbers_of c.args.column.now) c.abs_diff-last.result are last)
