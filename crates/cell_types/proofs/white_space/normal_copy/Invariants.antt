use Rattle.std.proofs.Common.{◌≡◌, length, string_bytes}
use denote.Shadow.{shadow}
use denote.Text.{Utf8}
use Rattle.cell_types.specs.WhiteSpace.{words, normal_text}
use Rattle.cell_types.proofs.WordLemmas.{text_before}
use Rattle.cell_types.proofs.white_space.normal_copy.Given as goal

abbrev pub invariant-loop-word : goal.invariant-loop-word
invariant-loop-word l = shadow (Utf8 l.rest) × (normal_text l.fn.text ≡ text_before (string_bytes l.copy) (words l.rest))

abbrev pub decreases-loop-word : goal.decreases-loop-word
decreases-loop-word l = length l.rest
