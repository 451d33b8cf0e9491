use Rattle.std.proofs.Common.{◌≡◌, ℕ, ◌<◌, get_or, false, true}
use Rattle.row_eval.specs.declared.truth.Truth.TheVariants.{False}
use Rattle.text_kernels.specs.Texts.{answered, text_lane}
use Rattle.text_kernels.proofs.answers.answer_each.Given as goal

abbrev pub invariant-loop-i : goal.invariant-loop-i
invariant-loop-i l = (k : ℕ) → k < l.i → get_or l.wanted k false ≡ true → get_or l.out k False ≡ answered l.question (text_lane l.texts k)
