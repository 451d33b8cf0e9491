-- The place of a header's mismatch is the first at which it differs from the columns.
use Rattle.std.proofs.Common.{◌≡◌, ◌⊎◌, ℕ, zero, suc, ◌+◌, ◌<◌, Bool, true, false, cond, List, [], ◌∷◌, Option, Some, None, refl, ap, sym, subst, ◌∙◌, inl, inr, arith}
use Rattle.std.proofs.lemmas.Bool.{cases_order}
use Rattle.csv_grammar.specs.Records.{Field, content}
use Rattle.cell_types.specs.Column.{ColumnOf}
use Rattle.table_store.specs.Table.{is_called, mismatch_from}
use Rattle.table_store.specs.Laws.{AreCalledSo, DifferAt, DifferFirstAt, FirstMismatchIsFirst}

-- ---- a header that matches
called_none : (b : Bool) (place : ℕ) (rest : Option ℕ) → cond b rest (Some place) ≡ None → (b ≡ true) × (rest ≡ None)
called_none true place rest e = (refl, e)
called_none false place rest e = cc

all_called : (place : ℕ) (columns : List ColumnOf) (header : List Field) → mismatch_from place columns header ≡ None → AreCalledSo columns header
all_called place [] [] e = tt
all_called place [] (field ∷ fields) e = cc
all_called place (column ∷ columns) [] e = cc
all_called place (column ∷ columns) (field ∷ fields) e =
    let parts = called_none (is_called column (content field)) place (mismatch_from (place + 1) columns fields) e in
    (parts.0, all_called (place + 1) columns fields parts.1)

none_from : (place : ℕ) (columns : List ColumnOf) (header : List Field) → AreCalledSo columns header → mismatch_from place columns header ≡ None
none_from place [] [] called = refl
none_from place [] (field ∷ fields) called = absurd called
none_from place (column ∷ columns) [] called = absurd called
none_from place (column ∷ columns) (field ∷ fields) called =
    ap (λ b. cond b (mismatch_from (place + 1) columns fields) (Some place)) called.0 ∙ none_from (place + 1) columns fields called.1

nowhere : (columns : List ColumnOf) (header : List Field) → AreCalledSo columns header → (place : ℕ) → DifferAt columns header place → ⊥
nowhere [] [] called place differ = differ
nowhere [] (field ∷ fields) called place differ = absurd called
nowhere (column ∷ columns) [] called place differ = absurd called
nowhere (column ∷ columns) (field ∷ fields) called zero differ = let both : true ≡ false = sym called.0 ∙ differ in cc
nowhere (column ∷ columns) (field ∷ fields) called (suc place) differ = nowhere columns fields called.1 place differ

-- ---- one that does not
called_some : (b : Bool) (place found : ℕ) (rest : Option ℕ) → cond b rest (Some place) ≡ Some found
    → ((b ≡ true) × (rest ≡ Some found)) ⊎ ((b ≡ false) × (place ≡ found))
called_some true place found rest e = inl (refl, e)
called_some false place found rest e = let same : place ≡ found = cc in inr (refl, same)

past : (column : ColumnOf) (columns : List ColumnOf) (field : Field) (fields : List Field) (place : ℕ) → is_called column (content field) ≡ true
    → ((earlier : ℕ) → earlier < place → DifferAt columns fields earlier → ⊥)
    → (earlier : ℕ) → earlier < suc place → DifferAt (column ∷ columns) (field ∷ fields) earlier → ⊥
past column columns field fields place called before zero less differ = let both : true ≡ false = sym called ∙ differ in cc
past column columns field fields place called before (suc earlier) less differ = before earlier (omega arith) differ

differ_first : (place : ℕ) (columns : List ColumnOf) (header : List Field) (found : ℕ) → mismatch_from place columns header ≡ Some found
    → (behind : ℕ) × (found ≡ place + behind) × DifferFirstAt columns header behind
differ_first place [] [] found e = cc
differ_first place [] (field ∷ fields) found e =
    let same : place ≡ found = cc in
    (0, omega (arith, same), record { here = tt; before = λ earlier less differ. absurd (omega (arith, less)) })
differ_first place (column ∷ columns) [] found e =
    let same : place ≡ found = cc in
    (0, omega (arith, same), record { here = tt; before = λ earlier less differ. absurd (omega (arith, less)) })
differ_first place (column ∷ columns) (field ∷ fields) found e =
    elim (called_some (is_called column (content field)) place found (mismatch_from (place + 1) columns fields) e) [
      | inl on ↦
          let later = differ_first (place + 1) columns fields found on.1 in
          (suc later.0, omega (arith, later.1), record { here = later.2.here; before = past column columns field fields later.0 on.0 later.2.before })
      | inr off ↦ (0, omega (arith, off.1), record { here = off.0; before = λ earlier less differ. absurd (omega (arith, less)) })
    ]

some_first : (columns : List ColumnOf) (header : List Field) (place : ℕ) → mismatch_from 0 columns header ≡ Some place → DifferFirstAt columns header place
some_first columns header place e =
    let there = differ_first 0 columns header place e in
    let same : there.0 ≡ place = omega (arith, there.1) in
    subst (DifferFirstAt columns header) same there.2

first_some : (columns : List ColumnOf) (header : List Field) (place : ℕ) (o : Option ℕ) → mismatch_from 0 columns header ≡ o
    → DifferFirstAt columns header place → mismatch_from 0 columns header ≡ Some place
first_some columns header place None e first = absurd (nowhere columns header (all_called 0 columns header e) place first.here)
first_some columns header place (Some found) e first =
    let there = some_first columns header found e in
    elim (cases_order found place) [
      | inl same ↦ e ∙ ap (λ p. Some p) same
      | inr (inl less) ↦ absurd (first.before found less there.here)
      | inr (inr more) ↦ absurd (there.before place more first.here)
    ]

pub first_mismatch : FirstMismatchIsFirst
first_mismatch = record {
  none = λ columns header. (all_called 0 columns header, none_from 0 columns header);
  some = λ columns header place. (some_first columns header place, first_some columns header place (mismatch_from 0 columns header) refl);
}
