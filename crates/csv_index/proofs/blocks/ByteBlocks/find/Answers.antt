-- The groups before are passed by their counts, and then blocks by their masks.
use Rattle.std.proofs.Common.{◌≡◌, ◌≤◌, ◌<◌, ◌+◌, ◌^◌, ℕ, Some, length, subst, arith}
use Rattle.std.specs.Prelude.{slice_get}
use Rattle.std.specs.List.{slice_index_or}
use Rattle.std.proofs.lemmas.Option.{slice_get-get_or}
use Rattle.csv_index.specs.Blocks.{block_places, Stands}
use Rattle.csv_index.proofs.Bits.{ones_whole}
use Rattle.csv_index.proofs.BlockLemmas.{none_stands, rank_next, stands}
use Rattle.csv_index.proofs.blocks.ByteBlocks.find.Goals.{then-loop-number-test+else-masks-number, else-loop-number-test}
use Rattle.csv_index.proofs.blocks.ByteBlocks.find.Goals as goal

pub loop-number-preserved : goal.loop-number-preserved
loop-number-preserved c =
    let masks = c.as_slice-masks.result.now in
    let mask : ℕ = slice_index_or masks c.loop-number.number 0 in
    let is : slice_get masks c.loop-number.number ≡ Some mask = slice_get-get_or masks c.loop-number.number 0 c.loop-number.invariant.within in
    let small : mask < 2 ^ 64 = omega (arith, c.type_inv.masks c.loop-number.number) in
    record {
      within = c.loop-number-test.true;
      before = omega (arith, rank_next masks c.loop-number.number mask is, ones_whole mask small, c.loop-number.invariant.before, c.if-masks-number.true);
    }

pub returns-in_err-bit : goal.returns-in_err-bit
returns-in_err-bit c =
    let masks = c.as_slice-masks.result.now in
    let mask : ℕ = slice_index_or masks c.loop-number.number 0 in
    let is : slice_get masks c.loop-number.number ≡ Some mask = slice_get-get_or masks c.loop-number.number 0 c.loop-number.invariant.within in
    let all : length masks ≤ c.loop-number.number + 1 = elim c.loop-number-test.branch [
      | then-loop-number-test+else-masks-number w ↦ absurd (omega (arith, w.if-masks-number.false, c.in_err-bit.ensures, c.min.ensures))
      | else-loop-number-test w ↦ omega (arith, w.loop-number-test.false)
    ] in
    let few : length (block_places 0 masks) ≤ c.args.n = none_stands masks c.args.n c.loop-number.number c.loop-number.left mask is all c.loop-number.invariant.before (omega (arith, c.in_err-bit.ensures, c.min.ensures)) in
    rw c.from_residual.ensures (subst (λ m. length (block_places 0 m) ≤ c.args.n) c.as_slice-masks.ensures.value few)

pub returns : goal.returns
returns c =
    let masks = c.as_slice-masks.result.now in
    let mask : ℕ = slice_index_or masks c.loop-number.number 0 in
    let is : slice_get masks c.loop-number.number ≡ Some mask = slice_get-get_or masks c.loop-number.number 0 c.loop-number.invariant.within in
    let f = c.in_ok-bit.ensures in
    subst (λ m. Stands m c.args.n c.loop-number.number c.in_ok-bit.bit) c.as_slice-masks.ensures.value
    (stands masks c.args.n c.loop-number.number c.loop-number.left c.in_ok-bit.bit mask is c.loop-number.invariant.before f.0 f.1 (omega (arith, f.2, c.min.ensures)))
