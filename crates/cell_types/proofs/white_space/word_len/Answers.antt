use Rattle.std.proofs.Common.{arith, sym}
use Rattle.std.proofs.lemmas.List.Sums.{position_or_len_is}
use Rattle.cell_types.specs.WhiteSpace.{is_white}
use Rattle.cell_types.proofs.white_space.word_len.Goals as goal

pub returns-then-is_white : goal.returns-then-is_white
returns-then-is_white c = sym (position_or_len_is is_white c.args.text.now c.loop-place.place 0 (omega arith) c.loop-place.invariant (λ _. sym c.if-is_white.ensures))

pub returns : goal.returns
returns c = sym (position_or_len_is is_white c.args.text.now _ 0 (omega arith) (λ k h. c.loop-place.invariant k (omega arith)) (λ h. absurd (omega arith)))
