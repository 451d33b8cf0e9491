-- The scan says whether the white space of a text is single spaces between words.
use Rattle.std.proofs.Common.{◌≡◌, ℕ, ◌≤◌, List, Bool, ◌<◌, ◌==◌, ◌⊎◌, inl, inr, true, false, not, length, drop, get_or, arith, ap, sym, ◌∙◌}
use Rattle.std.proofs.lemmas.Bool.{not-true, cases_eq, eq-eqb, ne_eqb}
use Rattle.std.proofs.Math.ListN.{drop_of_length-le}
use Rattle.cell_types.specs.WhiteSpace.{is_white}
use Rattle.cell_types.proofs.WhiteSpaceLemmas.{is_spaced, normal-spaced, normal_iff, normal_iff-empty, spaced-stop}
use Rattle.cell_types.proofs.white_space.is_normal.Goals as goal
use Rattle.cell_types.proofs.white_space.is_normal.Goals.{then-after_white, else-after_white}

pub returns-then-byte-ne32 : goal.returns-then-byte-ne32
returns-then-byte-ne32 c =
    let text = c.args.text.now in
    let i = c.loop-byte.byte-index in
    let inside : i < length text = omega (arith, ap length c.as_bytes-byte-items.ensures.value) in
    let why : (c.loop-byte.after_white ≡ true) ⊎ ((get_or text i 0 == 32) ≡ false) = elim c.if-after_white.branch [ then-after_white w ↦ inl w.if-after_white.true | else-after_white w ↦ inr (ap (λ t. get_or t i 0 == 32) (sym c.as_bytes-byte-items.ensures.value) ∙ not-true (get_or c.as_bytes-byte-items.result.now i 0 == 32) (sym w.value-is ∙ c.if-byte-ne32.true)) ] in
    normal_iff text false (omega arith) (c.loop-byte.invariant ∙ spaced-stop c.loop-byte.after_white text i inside (ap (λ t. is_white (get_or t i 0)) (sym c.as_bytes-byte-items.ensures.value) ∙ sym c.if-white.ensures) why)

-- the scan at the end of the text
at_end : (text : List ℕ) (after : Bool) (i : ℕ) → length text ≤ i → is_spaced true text ≡ is_spaced after (drop i text) → is_spaced true text ≡ not after
at_end text after i all e = e ∙ ap (is_spaced after) (drop_of_length-le text all)

pub returns-then-not-after_white : goal.returns-then-not-after_white
returns-then-not-after_white c =
    let text = c.args.text.now in
    let all : length text ≤ c.loop-byte.byte-index = omega (arith, ap length c.as_bytes-byte-items.ensures.value) in
    let out : not c.loop-byte.after_white ≡ true = ap not c.if-not-after_white.true in
    (λ _. normal-spaced text (at_end text c.loop-byte.after_white c.loop-byte.byte-index all c.loop-byte.invariant ∙ out), λ _. out)

pub returns-else-not-after_white : goal.returns-else-not-after_white
returns-else-not-after_white c =
    let text = c.args.text.now in
    let all : length text ≤ c.loop-byte.byte-index = omega (arith, ap length c.as_bytes-byte-items.ensures.value) in
    let not_spaced : is_spaced true text ≡ false =
    at_end text c.loop-byte.after_white c.loop-byte.byte-index all c.loop-byte.invariant ∙ ap not c.if-not-after_white.false in
    elim (cases_eq (length text) 0) [
      | inl none ↦ normal_iff-empty text c.is_empty.result none (c.is_empty.ensures ∙ eq-eqb (length text) 0 none)
      | inr some ↦ normal_iff text c.is_empty.result (omega arith) (not_spaced ∙ sym (c.is_empty.ensures ∙ ne_eqb (length text) 0 some))
    ]
