use Rattle.std.proofs.Common.{◌≡◌, length, ap, ◌∙◌, arith, subst, sym}
use Rattle.std.proofs.lemmas.List.{with_items_is}
use Rattle.block_summary.specs.Cells.{AreUnpacked}
use Rattle.block_summary.specs.Types.{numbers_of}
use Rattle.block_eval.proofs.PackedLemmas.{unpacked-stand}
use Rattle.block_eval.proofs.packed.unpacked_at.Goals as goal

pub returns : goal.returns
returns c =
    let cells = c.in-Some.column.now in
    let values = c.unpack.new.out in
    let nulls = c.unpack_nulls.new.out in
    let values_stay = with_items_is c.in_ok-values.values values (omega (arith, c.unpack.auto.out, c.as_mut_slice.ensures.len, c.in_ok-values.values.ok.0)) in
    let nulls_stay = with_items_is c.in_ok-nulls.nulls nulls (omega (arith, c.unpack_nulls.auto.out, c.as_mut_slice-2.ensures.len, c.in_ok-nulls.nulls.ok.0)) in
    let long : length values ≡ c.args.rows = omega (arith, c.unpack.auto.out, c.as_mut_slice.ensures.len, c.in_ok-values.ensures.len, c.in_ok-values.values.ok.0) in
    unpacked-stand c.args.columns.now c.args.place c.args.kind c.args.rows cells _ c.in-Some.ensures.numbers c.in-Some.ensures.typed c.in-Some.ensures.long
    (subst (AreUnpacked (numbers_of cells)) (sym values_stay) c.unpack.ensures) (nulls_stay ∙ c.unpack_nulls.ensures) (ap length values_stay ∙ long) c.bounds.ensures
