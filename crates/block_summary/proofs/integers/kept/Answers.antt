use Rattle.std.proofs.Common.{sym, ap, ◌∙◌, arith, rules, w64}
use Rattle.std.specs.Prelude.{FitsSigned}
use Rattle.std.specs.Int.{w128}
use Rattle.std.specs.List.{count_by}
use Rattle.std.specs.Option.{is_none}
use Rattle.std.proofs.lemmas.Int.{ints, to_z-of_z}
use Rattle.frame_of_reference.specs.OffsetList.{offset_list}
use Rattle.block_summary.specs.Sums.{number_sum}
use Rattle.block_summary.proofs.CellLemmas.{marks_long, nulls_counted, offsets_below, packed}
use Rattle.block_summary.proofs.integers.kept.Goals as goal

pub invariant_of-result : goal.invariant_of-result
invariant_of-result c =
    let low : FitsSigned w64 c.args.least = c.ranges.least in
    let high : FitsSigned w64 c.args.greatest = c.ranges.greatest in
    let total : FitsSigned w128 c.total_of-sum.result = search rules in
    let are = simp to_z-of_z at c.in_ok-offsets.ensures in
    let same = packed c.args.least c.args.greatest c.args.nulls.now c.in_ok-nulls_kept.nulls_kept.items c.args.values.now (offset_list c.in_ok-offsets.offsets) are c.in_ok-nulls_kept.ensures.same in
    simp to_z-of_z (
      offsets_below c.args.least c.args.greatest c.args.nulls.now c.args.values.now _ (omega (arith, ints)) are,
      marks_long c.in_ok-nulls_kept.nulls_kept.items c.args.nulls.now (offset_list c.in_ok-offsets.offsets) (c.requires.nulls_long ∙ sym are.long) c.in_ok-nulls_kept.ensures.long,
      rw same c.requires.bounds,
      c.null_count_of-null_count.ensures ∙ nulls_counted c.args.nulls.now c.args.values.now c.requires.nulls_long ∙ ap (count_by is_none) (sym same),
      c.total_of-sum.ensures ∙ ap number_sum (sym same),
    )

pub returns : goal.returns
returns c =
    packed _ _ c.args.nulls.now c.in_ok-nulls_kept.nulls_kept.items c.args.values.now (offset_list c.in_ok-offsets.offsets) c.in_ok-offsets.ensures c.in_ok-nulls_kept.ensures.same
