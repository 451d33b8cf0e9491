-- A search finds the first place where a part stands in a list.
use Rattle.std.proofs.Common.{◌≡◌, ℕ, zero, suc, ◌+◌, ◌<◌, ◌≤◌, Bool, true, false, List, [], ◌∷◌, ◌++◌, Option, None, Some, length, take, drop, nat_eq, refl, sym, ap, ◌∙◌, inl, inr, arith, length-append, length-drop, option_map, if◌then◌else◌}
use Rattle.std.specs.List.{starts_with}
use Rattle.std.proofs.Math.Seq.{drop-append_seam, take-append_seam}
use Rattle.std.proofs.lemmas.Bool.{cases_lt, false≢true}
use Rattle.std.proofs.lemmas.Bool.Decides.{Decides-eqb}
use Rattle.std.proofs.lemmas.Slice.Eq.{starts_is}
use Rattle.memchr.specs.Find.{OccursAt, FindsNeedle}
use Rattle.memchr.proofs.lemmas.MatchLemmas.{OccursAt-split, OccursAt-from_part}
use Rattle.cell_types.proofs.ListLaws.{starts_with-append}
use Rattle.row_eval.specs.Text.{place_of_part}

-- a part occurs after a front
occurs_in : (needle a b : List ℕ) → OccursAt (a ++ (needle ++ b)) needle (length a)
occurs_in needle a b =
    let fits : length a + length needle ≤ length (a ++ (needle ++ b)) = simp length-append (omega arith) in
    OccursAt-from_part (a ++ (needle ++ b)) needle (length a) fits (ap (take (length needle)) (drop-append_seam a (needle ++ b)) ∙ take-append_seam needle b)

pub occurs : (hay needle a b : List ℕ) → hay ≡ a ++ (needle ++ b) → OccursAt hay needle (length a)
occurs hay needle a b e = rw e (occurs_in needle a b)

occurs_at : (text part rest : List ℕ) (k : ℕ) → k ≤ length text → drop k text ≡ part ++ rest → OccursAt text part k
occurs_at text part rest k within h =
    let size : length (drop k text) ≡ length part + length rest = ap length h ∙ length-append part rest in
    let fits : k + length part ≤ length text = omega (arith, length-drop k text) in
    OccursAt-from_part text part k fits (ap (take (length part)) h ∙ take-append_seam part rest)

-- the part stands nowhere, or first at a place
abbrev IsPlace : List ℕ → List ℕ → Option ℕ → Type 0
IsPlace text part None = (k : ℕ) (rest : List ℕ) → drop k text ≡ part ++ rest → ⊥
IsPlace text part (Some k) = (k ≤ length text) × ((rest : List ℕ) × (drop k text ≡ part ++ rest)) × ((j : ℕ) (rest : List ℕ) → j < k → drop j text ≡ part ++ rest → ⊥)

no_start : (text part rest : List ℕ) → starts_with nat_eq text part ≡ false → text ≡ part ++ rest → ⊥
no_start text part rest e h = false≢true (sym e ∙ starts_with-append text part rest h)

here : (text part : List ℕ) → starts_with nat_eq text part ≡ true → IsPlace text part (Some 0)
here text part e = (omega arith, (drop (length part) text, (starts_is Decides-eqb text part _ refl).0 e), λ j rest low h. absurd (omega arith))

nowhere_in_nothing : (part : List ℕ) → starts_with nat_eq [] part ≡ false → IsPlace [] part None
nowhere_in_nothing part e zero rest h = no_start [] part rest e h
nowhere_in_nothing part e (suc k) rest h = no_start [] part rest e h

nowhere_later : (b : ℕ) (bs part : List ℕ) → starts_with nat_eq (b ∷ bs) part ≡ false → IsPlace bs part None → IsPlace (b ∷ bs) part None
nowhere_later b bs part e f zero rest h = no_start (b ∷ bs) part rest e h
nowhere_later b bs part e f (suc k) rest h = f k rest h

none_earlier : (b : ℕ) (bs part : List ℕ) (k : ℕ) → starts_with nat_eq (b ∷ bs) part ≡ false → IsPlace bs part (Some k) → (j : ℕ) (rest : List ℕ) → j < suc k → drop j (b ∷ bs) ≡ part ++ rest → ⊥
none_earlier b bs part k e f zero rest low h = no_start (b ∷ bs) part rest e h
none_earlier b bs part k e f (suc j) rest low h = f.2 j rest (omega arith) h

place : (text part : List ℕ) → IsPlace text part (place_of_part text part)
place [] part = by (starts_with nat_eq [] part) refl
  where
    by : (s : Bool) → starts_with nat_eq [] part ≡ s → IsPlace [] part (if s then Some 0 else None)
    by true e = here [] part e
    by false e = nowhere_in_nothing part e
place (b ∷ bs) part = by (starts_with nat_eq (b ∷ bs) part) refl (place_of_part bs part) (place bs part)
  where
    by : (s : Bool) → starts_with nat_eq (b ∷ bs) part ≡ s → (r : Option ℕ) → IsPlace bs part r → IsPlace (b ∷ bs) part (if s then Some 0 else option_map suc r)
    by true e r f = here (b ∷ bs) part e
    by false e None f = nowhere_later b bs part e f
    by false e (Some k) f = (omega (arith, f.0), f.1, none_earlier b bs part k e f)

same_place : (text part : List ℕ) (r s : Option ℕ) → FindsNeedle text part 0 r → IsPlace text part s → r ≡ s
same_place text part None None f p = refl
same_place text part None (Some k) f p = absurd (f k (omega arith) (omega (arith, p.0)) (occurs_at text part p.1.0 k p.0 p.1.1))
same_place text part (Some k) None f p = absurd (p k _ (OccursAt-split text part k f.1))
same_place text part (Some k) (Some j) f p = elim (cases_lt k j) [
  | inl before ↦ absurd (p.2 k _ before (OccursAt-split text part k f.1))
  | inr after ↦ elim (cases_lt j k) [
    | inl before ↦ absurd (f.0.before j (omega arith) before (occurs_at text part p.1.0 j p.0 p.1.1))
    | inr above ↦ let e : k ≡ j = omega arith in ap Some e
  ]
]

-- what a search finds is the place
pub found : (text part : List ℕ) (r : Option ℕ) → FindsNeedle text part 0 r → r ≡ place_of_part text part
found text part r f = same_place text part r (place_of_part text part) f (place text part)
