use Rattle.std.proofs.Common.{◌≡◌, get_or, false, None, Some, sym, ap, ◌∙◌, arith, rules, w64, to_z, of_z}
use Rattle.std.specs.Prelude.{FitsSigned, pos, ◌+ℤ◌}
use Rattle.std.proofs.lemmas.Int.{ints}
use Rattle.block_summary.specs.Cells.{sums}
use Rattle.frame_of_reference.specs.OffsetList.{offset_list}
use Rattle.block_summary.proofs.CellLemmas.{read_null, read_past, read_sum}
use Rattle.block_summary.proofs.integers.Integers.get.Goals as goal

pub returns-then-is_null_at : goal.returns-then-is_null_at
returns-then-is_null_at c =
    let null = ap (λ xs. get_or xs c.args.row false) (sym c.as_slice.ensures.value) ∙ sym c.if-is_null_at.ensures in
    read_null c.self.inside.nulls.items (sums c.self.inside.least (offset_list c.self.inside.offsets)) c.args.row null ∙ ap (λ xs. get_or xs c.args.row None) c.self.view_is

pub returns-in-Some : goal.returns-in-Some
returns-in-Some c =
    let low : FitsSigned w64 c.self.inside.least = search rules in
    let fits : FitsSigned w64 c.sum_of.result = search rules in
    let sum : to_z w64 (of_z w64 c.sum_of.result) ≡ c.self.inside.least +ℤ pos (get_or (offset_list c.self.inside.offsets) c.args.row 0) = omega (arith, ints, c.sum_of.ensures, c.in-Some.ensures.1) in
    let number = ap (λ xs. get_or xs c.args.row false) (sym c.as_slice.ensures.value) ∙ sym c.if-is_null_at.ensures in
    ap Some sum ∙ read_sum c.self.inside.nulls.items c.self.inside.least (offset_list c.self.inside.offsets) c.args.row number c.in-Some.ensures.0 ∙ ap (λ xs. get_or xs c.args.row None) c.self.view_is

pub returns-in-None : goal.returns-in-None
returns-in-None c =
    read_past c.self.inside.nulls.items c.self.inside.least (offset_list c.self.inside.offsets) c.args.row c.in-None.ensures ∙ ap (λ xs. get_or xs c.args.row None) c.self.view_is
