-- A pair of bytes after the other is a unit after the others.
use Rattle.std.proofs.Common.{◌≡◌, ◌-◌, ◌≤◌, ◌∙◌, ℕ, List, [], ◌∷◌, ◌++◌, length, get_or, take, drop, arith, append-nil, append_assoc, length-drop, subst, sym, take_all}
use Rattle.std.proofs.lemmas.Bool.{eqb-true}
use Rattle.text_encodings.specs.Encodings.{AreUnits, no_unit, one_unit, unit_of}
use Rattle.text_encodings.specs.declared.utf16.ByteOrder.{ByteOrder}
use Rattle.text_encodings.proofs.utf16.units_of.Goals as goal
use Rattle.text_encodings.proofs.utf16.units_of.Goals.{then-is_empty, else-is_empty}

two_more : (order : ByteOrder) (left bytes units more : List ℕ) (u : ℕ) → 2 ≤ length left → u ≡ unit_of order (get_or left 0 0) (get_or left 1 0)
    → AreUnits order (drop 2 left) more → ((after : List ℕ) → AreUnits order left after → AreUnits order bytes (units ++ after))
    → AreUnits order bytes ((units ++ u ∷ []) ++ more)
two_more order [] bytes units more u long e are inv = absurd (omega (arith, long))
two_more order (a ∷ []) bytes units more u long e are inv = absurd (omega (arith, long))
two_more order (a ∷ b ∷ rest) bytes units more u long e are inv =
    let Last : ℕ → Type 0 = λ v. AreUnits order (a ∷ b ∷ rest) (v ∷ more) in
    subst (AreUnits order bytes) (sym (append_assoc units (u ∷ []) more)) (inv (u ∷ more) (subst Last (sym e) (one_unit a b rest more are)))

none_left : (order : ByteOrder) (left bytes units : List ℕ) → length left ≡ 0 → ((after : List ℕ) → AreUnits order left after → AreUnits order bytes (units ++ after))
    → AreUnits order bytes units
none_left order [] bytes units e inv = subst (AreUnits order bytes) (append-nil units) (inv [] no_unit)
none_left order (b ∷ rest) bytes units e inv = absurd (omega (arith, e))

pub loop-left-preserved : goal.loop-left-preserved
loop-left-preserved c = λ more are.
    let left = c.loop-left.left.now in
    let long : 2 ≤ length left = omega arith in
    let whole : take (length left - 2) (drop 2 left) ≡ drop 2 left = take_all (length left - 2) (drop 2 left) (omega (arith, length-drop 2 left)) in
    let After : List ℕ → Type 0 = λ w. AreUnits c.args.order w more in
    let Before : List ℕ → Type 0 = λ w. AreUnits c.args.order c.args.bytes.now (w ++ more) in
    subst Before (sym c.in_ok-push.ensures.items)
    (two_more c.args.order left c.args.bytes.now c.loop-left.units.items more c.unit.result long c.unit.ensures (subst After whole are) c.loop-left.invariant)

pub returns : goal.returns
returns c = elim c.if-is_empty.branch [
  | then-is_empty w ↦
      let none : length c.loop-left.left.now ≡ 0 = eqb-true (length c.loop-left.left.now) 0 (sym c.is_empty.ensures ∙ w.if-is_empty.true) in
      rw w.result-is (none_left c.args.order c.loop-left.left.now c.args.bytes.now c.loop-left.units.items none c.loop-left.invariant)
  | else-is_empty w ↦ rw w.result-is tt
]
