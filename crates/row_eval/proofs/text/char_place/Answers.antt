use Rattle.std.proofs.Common.{◌≡◌, None, Some, take, length, ap, ◌∙◌}
use native.Mathlib.Nat.{sub-zero}
use Rattle.std.proofs.lemmas.Str.{IsUtf8-take}
use Rattle.std.specs.Str.{chars}
use Rattle.row_eval.proofs.CharPlaces.{nowhere, first_char}
use Rattle.row_eval.proofs.PartLemmas.{found}
use Rattle.row_eval.proofs.text.char_place.Goals as goal

pub returns-in_err-at : goal.returns-in_err-at
returns-in_err-at c =
    rw c.from_residual.ensures (found _ _ None (nowhere c.args.text.now c.args.part.now c.utf8.text c.utf8.part c.in_err-at.ensures.cases))

pub returns : goal.returns
returns c =
    let at = c.in_ok-at.at in
    let cases = c.in_ok-at.ensures.cases in
    let front = IsUtf8-take c.args.text.now at c.utf8.text cases.3 in
    let count : c.char_count.result ≡ length (chars (take at c.args.text.now)) = rw sub-zero at (c.char_count.ensures ∙ ap (λ s. length (chars s)) c.range.ensures.value) in
    rw count (found _ _ (Some (length (chars (take at c.args.text.now))))
    (first_char c.args.text.now c.args.part.now c.utf8.text c.utf8.part at cases.0 front cases.3.0 cases.1.1 cases.1.0))
