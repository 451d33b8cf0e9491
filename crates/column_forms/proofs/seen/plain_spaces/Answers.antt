use Rattle.std.proofs.Common.{◌≡◌, ℕ, List, [], ◌∷◌, ◌++◌, append_assoc, append-nil, subst, sym}
use Rattle.column_forms.specs.CellsSeen.{HasPlainSpaces, no_byte, next_byte}
use Rattle.column_forms.proofs.seen.plain_spaces.Goals as goal

pub loop-byte-preserved : goal.loop-byte-preserved
loop-byte-preserved c = λ more are.
    let made = c.loop-byte.made.items in
    let P : List ℕ → Type 0 = λ l. HasPlainSpaces c.args.cell.now (l ++ more) in
    let Q : List ℕ → Type 0 = λ l. HasPlainSpaces c.args.cell.now l in
    subst P (sym c.in_ok-push.ensures.items)
    (subst Q (sym (append_assoc made (c.in-Some.byte ∷ []) more))
    (c.loop-byte.invariant (c.in-Some.byte ∷ more) (next_byte c.loop-byte.left.now c.in-Some.rest.now more c.in-Some.byte c.in-Some.ensures are)))

pub returns : goal.returns
returns c =
    let P : List ℕ → Type 0 = λ l. HasPlainSpaces c.args.cell.now l in
    let Q : List ℕ → Type 0 = λ l. HasPlainSpaces l [] in
    let none : c.loop-byte.left.now ≡ [] = c.in_default.ensures in
    subst P (append-nil c.loop-byte.made.items) (c.loop-byte.invariant [] (subst Q (sym none) no_byte))
