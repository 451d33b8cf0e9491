use Rattle.std.proofs.Common.{arith, sym}
use Rattle.std.proofs.lemmas.List.Sums.{prefix_len_is}
use Rattle.cell_types.specs.WhiteSpace.{is_white}
use Rattle.cell_types.proofs.white_space.white_len.Goals as goal

pub returns-then-not-is_white : goal.returns-then-not-is_white
returns-then-not-is_white c = sym (prefix_len_is is_white c.args.text.now c.loop-place.place 0 (omega arith) c.loop-place.invariant (λ _. sym c.if-not-is_white.ensures))

pub returns : goal.returns
returns c = sym (prefix_len_is is_white c.args.text.now _ 0 (omega arith) (λ k h. c.loop-place.invariant k (omega arith)) (λ h. absurd (omega arith)))
