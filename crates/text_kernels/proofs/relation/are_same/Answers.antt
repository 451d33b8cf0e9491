use Rattle.std.proofs.Common.{◌∙◌, sym}
use Rattle.text_kernels.proofs.TextLemmas.{same_text}
use Rattle.text_kernels.proofs.relation.are_same.Goals as goal

pub returns-in-Some-Some : goal.returns-in-Some-Some
returns-in-Some-Some c = rw (c.in-Some-Some.is-0, c.in-Some-Some.is-1) (c.is_same_text.ensures ∙ sym (same_text c.in-Some-Some.left.now c.in-Some-Some.right.now))
