use Rattle.std.proofs.Common.{◌≡◌, ◌≤◌, ◌+◌, ◌*◌, ◌++◌, drop, get_or, length, take, refl, sym, ap, ◌∙◌, arith}
use Rattle.std.specs.Vec.{with_items}
use Rattle.std.proofs.Math.Seq.{take-append_seam}
use Rattle.row_codes.specs.declared.codes.TheConstants.{MOST_CODES}
use Rattle.row_codes.proofs.CodeLemmas.{joined-codes}
use Rattle.row_codes.proofs.codes.joined.Goals as goal

pub returns : goal.returns
returns c =
    let left = c.args.left.now in
    let right = c.args.right.now in
    let codes = c.in_ok-codes.codes in
    let out = c.join_each.new.out in
    let rest = drop (length out) codes.items in
    let full : length out ≡ codes.len = omega (arith, c.join_each.auto.out, c.as_mut_slice.ensures.len, codes.ok.0) in
    let long : length out ≡ length left.codes.items = omega (arith, c.join_each.auto.out, c.as_mut_slice.ensures.len, codes.ok.0, c.in_ok-codes.ensures.len, c.len.ensures, left.codes.ok.0) in
    let whole : take codes.len (out ++ rest) ≡ out = ap (λ k. take k (out ++ rest)) (sym full) ∙ take-append_seam out rest in
    let few : left.count * right.count ≤ MOST_CODES = omega (arith, c.if-count-gt-MOST_CODES.false) in
    λ f g rows ls rs.
    joined-codes left right (record { codes = with_items codes out; count = left.count * right.count }) f g rows ls rs refl few (ap length whole ∙ long)
    (λ i h. ap (λ xs. get_or xs i 0) whole ∙ c.join_each.ensures i (omega (arith, h, long))
    ∙ ap (λ xs. get_or xs i 0 * right.count + get_or c.as_slice-2.result.now i 0) c.as_slice.ensures.value
    ∙ ap (λ xs. get_or left.codes.items i 0 * right.count + get_or xs i 0) c.as_slice-2.ensures.value)
