-- The white space at the front, and the first word after it.
use Rattle.std.proofs.Common.{◌≡◌, ◌<◌, ◌∷◌, length, drop, arith, ap, sym, ◌∙◌}
use Rattle.std.proofs.lemmas.Bool.{eqb-true, eqb-false}
use Rattle.std.specs.List.{prefix_len, position_or_len}
use Rattle.cell_types.specs.WhiteSpace.{is_white, words}
use Rattle.cell_types.proofs.WordLemmas.{boundary-white, boundary-word, words-parts, words-none}
use Rattle.cell_types.proofs.white_space.first_word.Goals as goal

pub split_at-requires : goal.split_at-requires
split_at-requires c = boundary-white c.args.text.now c.utf8.text c.white_len.result (c.white_len.ensures ∙ ap (prefix_len is_white) c.as_bytes.ensures.value)

pub returns-then-is_empty-clause-words : goal.returns-then-is_empty-clause-words
returns-then-is_empty-clause-words c =
    let is = c.split_at.ensures.back ∙ ap (λ n. drop n c.args.text.now) (c.white_len.ensures ∙ ap (prefix_len is_white) c.as_bytes.ensures.value) in
    words-none c.args.text.now c.split_at.result.1.now is (eqb-true (length c.split_at.result.1.now) 0 (sym c.if-is_empty.ensures))

pub split_at-requires-2 : goal.split_at-requires-2
split_at-requires-2 c = let at = c.word_len.ensures ∙ ap (position_or_len is_white) c.as_bytes-2.ensures.value in rw at (boundary-word c.split_at.result.1.now)

parts : (c : goal.After-split_at-2) → (0 < c.word_len.result) × (words c.args.text.now ≡ c.split_at-2.result.0.now ∷ words c.split_at-2.result.1.now)
parts c =
    let is = c.split_at.ensures.back ∙ ap (λ n. drop n c.args.text.now) (c.white_len.ensures ∙ ap (prefix_len is_white) c.as_bytes.ensures.value) in
    let at = c.word_len.ensures ∙ ap (position_or_len is_white) c.as_bytes-2.ensures.value in
    let some : 0 < length c.split_at.result.1.now = omega (arith, eqb-false (length c.split_at.result.1.now) 0 (sym c.if-is_empty.ensures)) in
    let both = words-parts c.args.text.now c.split_at.result.1.now is some in
    rw (c.split_at-2.ensures.front, c.split_at-2.ensures.back, at) both

pub returns-clause-words : goal.returns-clause-words
returns-clause-words c = (parts c).1

pub returns-clause-word : goal.returns-clause-word
returns-clause-word c = omega (arith, (parts c).0, c.split_at-2.ensures.front_len)

pub returns-clause-rest : goal.returns-clause-rest
returns-clause-rest c = omega (arith, (parts c).0, c.split_at-2.ensures.back_len, c.split_at.ensures.back_len)
