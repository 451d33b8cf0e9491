use Rattle.std.proofs.Common.{rules, w64}
use Rattle.std.specs.Prelude.{FitsSigned, pos}
use Rattle.std.proofs.lemmas.Int.{to_z-of_z}
use Rattle.block_summary.proofs.BoundLemmas.{bounds_within, nulls_within}
use Rattle.block_summary.proofs.integers.Integers.pack.Goals as goal

pub kept-requires-clause-within : goal.kept-requires-clause-within
kept-requires-clause-within c =
    let low : FitsSigned w64 c.in-Some.bounds.least = search rules in
    let high : FitsSigned w64 c.in-Some.bounds.greatest = search rules in
    simp to_z-of_z (bounds_within c.in-Some.bounds.least c.in-Some.bounds.greatest c.args.nulls.now c.args.values.now c.in-Some.ensures)

pub kept-requires-in-None-clause-within : goal.kept-requires-in-None-clause-within
kept-requires-in-None-clause-within c = nulls_within (pos 0) (pos 0) c.args.nulls.now c.args.values.now c.in-None.ensures
