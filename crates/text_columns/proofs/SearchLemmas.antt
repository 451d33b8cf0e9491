-- The rows in whose text a part stands.
use Rattle.std.proofs.Common.{◌≡◌, ◌↔◌, add-one, ◌≢◌, inl, inr, ℕ, zero, suc, ◌+◌, ◌-◌, ◌<◌, ◌≤◌, Bool, true, false, not, List, length, get_or, drop, set, slice_range, refl, sym, ap, ◌∙◌, subst, arith}
use Rattle.std.proofs.lemmas.Bool.{cases_eq, cases_lt, true≢false}
use Rattle.std.proofs.lemmas.List.{get_or-drop, get_or-set_other, get_or-set_same, get_or-take, length-drop, length-set, length-take}
use Rattle.memchr.specs.Find.{Nowhere, OccursAt}
use Rattle.cell_types.specs.Value.{CellValue, null, text}
use Rattle.text_columns.specs.Search.{row_cell, AreMarksOfPart, CellHasPart, HaveTexts, IsRight}
use Rattle.text_columns.specs.Texts.{text_unless_null, start_from, text_block_cells, EndsRise}
use Rattle.text_columns.proofs.TextLemmas.{cell-at, length-text_cells}

-- ---- a part of a text is a part of its bytes

pub length-slice : (xs : List ℕ) (a b : ℕ) → a ≤ b → b ≤ length xs → length (slice_range xs a b) ≡ b - a
length-slice xs a b order within = omega (arith, length-take (b - a) (drop a xs), length-drop a xs)

slice-at : (xs : List ℕ) (a b i : ℕ) → i < b - a → get_or (slice_range xs a b) i 0 ≡ get_or xs (a + i) 0
slice-at xs a b i h = get_or-take (b - a) (drop a xs) i 0 h ∙ get_or-drop a xs i 0

pub occurs-out : (xs p : List ℕ) (a b k : ℕ) → a ≤ b → b ≤ length xs → OccursAt (slice_range xs a b) p k → OccursAt xs p (a + k) × (a + k + length p ≤ b)
occurs-out xs p a b k order within at =
    let long = length-slice xs a b order within in
    let fits : k + length p ≤ b - a = omega (arith, at.fits, long) in (
      record {
        fits = omega (arith, fits);
        reads = λ j h. ap (λ i. get_or xs i 0) (omega arith) ∙ sym (slice-at xs a b (k + j) (omega (arith, fits, h))) ∙ at.reads j h;
      },
      omega (arith, fits),
    )

pub occurs-in : (xs p : List ℕ) (a b k : ℕ) → a ≤ k → k + length p ≤ b → b ≤ length xs → OccursAt xs p k → OccursAt (slice_range xs a b) p (k - a)
occurs-in xs p a b k low high within at =
    let long = length-slice xs a b (omega arith) within in
    record {
      fits = omega (arith, long);
      reads = λ j h. slice-at xs a b (k - a + j) (omega (arith, h)) ∙ ap (λ i. get_or xs i 0) (omega (arith, low)) ∙ at.reads j h;
    }

-- ---- rows one after the other

-- a later text begins no earlier than one ends
pub end-before : (ends : List ℕ) (size row later : ℕ) → EndsRise ends size → row < later → later < length ends → get_or ends row 0 ≤ start_from 0 ends later
end-before ends size row zero rise lt h = absurd (omega arith)
end-before ends size row (suc later) rise lt h = elim (cases_eq row later) [
  | inl is ↦ omega (arith, ap (λ k. get_or ends k 0) is)
  | inr ne ↦ omega (arith, end-before ends size row later rise (omega (arith, ne)) (omega arith), (rise later (omega arith)).0)
]

starts-rise : (ends : List ℕ) (size first row : ℕ) → EndsRise ends size → first ≤ row → row < length ends → start_from 0 ends first ≤ start_from 0 ends row
starts-rise ends size first row rise le h = elim (cases_eq first row) [
  | inl is ↦ omega (arith, ap (start_from 0 ends) is)
  | inr ne ↦ let lt : first < row = omega (arith, le, ne) in omega (arith, (rise first (omega (arith, lt, h))).0, end-before ends size first row rise lt h)
]

ends-rise : (ends : List ℕ) (size row last : ℕ) → EndsRise ends size → row ≤ last → last < length ends → get_or ends row 0 ≤ get_or ends last 0
ends-rise ends size row last rise le h = elim (cases_eq row last) [
  | inl is ↦ omega (arith, ap (λ k. get_or ends k 0) is)
  | inr ne ↦ omega (arith, end-before ends size row last rise (omega (arith, le, ne)) h, (rise last h).0)
]

-- the bytes of rows
pub rows-within : (nulls : List Bool) (ends bytes : List ℕ) (cells : List CellValue) (first last start end : ℕ) → EndsRise ends (length bytes) → text_block_cells nulls ends bytes ≡ cells
    → first ≤ last → last < length cells → start ≡ start_from 0 ends first → end ≡ get_or ends last 0 → (start ≤ end) × (end ≤ length bytes)
rows-within nulls ends bytes cells first last start end rise view le h from to =
    let lt : last < length ends = omega (arith, h, length-text_cells nulls ends bytes, ap length view) in
    (omega (arith, from, to, starts-rise ends (length bytes) first last rise le lt, (rise last lt).0), omega (arith, to, (rise last lt).1))

-- a text stands in the bytes where it begins
text-in : (b : Bool) (bytes t : List ℕ) (start end : ℕ) → start ≤ end → end ≤ length bytes → text_unless_null b (slice_range bytes start end) ≡ text t → OccursAt bytes t start × (start + length t ≡ end)
text-in true bytes t start end order within is = let no : ⊥ = cc in absurd no
text-in false bytes t start end order within is =
    let same : slice_range bytes start end ≡ t = cc in
    let long = length-slice bytes start end order within in
    let size : start + length t ≡ end = omega (arith, order, long, ap length same) in
    (record { fits = omega (arith, size, within); reads = λ j h. sym (slice-at bytes start end j (omega (arith, size, h))) ∙ ap (λ (xs : List ℕ). get_or xs j 0) same }, size)

pub texts-in : (nulls : List Bool) (ends bytes : List ℕ) (cells : List CellValue) (first last : ℕ) → EndsRise ends (length bytes) → text_block_cells nulls ends bytes ≡ cells → last < length ends
    → HaveTexts (slice_range bytes (start_from 0 ends first) (get_or ends last 0)) cells first last
texts-in nulls ends bytes cells first last rise view h row t low high is =
    let lt : row < length ends = omega (arith, h, high) in
    let order = rise row lt in
    let at = text-in (get_or nulls row false) bytes t (start_from 0 ends row) (get_or ends row 0) order.0 order.1
    (sym (cell-at nulls ends bytes row lt) ∙ ap (λ (cs : List CellValue). get_or cs row null) view ∙ is) in (
      start_from 0 ends row - start_from 0 ends first,
      occurs-in bytes t (start_from 0 ends first) (get_or ends last 0) (start_from 0 ends row) (starts-rise ends (length bytes) first row rise low lt)
          (omega (arith, at.1, ends-rise ends (length bytes) row last rise high h)) (rise last h).1 at.0,
    )

-- the rows before one are right, the others are not marked, and where the part stands in one of these, it begins at a place or after it
pub record AreFound (nulls : List Bool) (ends bytes part : List ℕ) (out : List Bool) (row from : ℕ) : Type 0 where
  pub order : row ≤ length ends
  pub start : start_from 0 ends row ≤ from
  pub within : from ≤ length bytes
  pub long : length out ≡ length ends
  pub done : (r : ℕ) → r < row → IsRight nulls ends bytes part out r
  pub left : (r : ℕ) → row ≤ r → get_or out r false ≡ false
  pub none : (r k : ℕ) → row ≤ r → r < length ends → start_from 0 ends r ≤ k → k + length part ≤ get_or ends r 0 → OccursAt bytes part k → from ≤ k

false-true : (b : Bool) → b ≡ false → b ≡ true → ⊥
false-true b is that = true≢false (sym that ∙ is)

-- in a cell the part stands only where it stands in its bytes
cell-none : (b : Bool) (bytes part : List ℕ) (start end : ℕ) → start ≤ end → end ≤ length bytes → ((k : ℕ) → start ≤ k → k + length part ≤ end → OccursAt bytes part k → ⊥)
    → CellHasPart part (text_unless_null b (slice_range bytes start end)) → ⊥
cell-none true bytes part start end order within nowhere has = has
cell-none false bytes part start end order within nowhere (k, at) =
    let found = occurs-out bytes part start end k order within at in
    nowhere (start + k) (omega arith) found.1 found.0

-- a row that is not marked, in whose text the part stands nowhere
pub right-none : (nulls : List Bool) (ends bytes part : List ℕ) (out : List Bool) (row : ℕ) → EndsRise ends (length bytes) → row < length ends → get_or out row false ≡ false
    → ((k : ℕ) → start_from 0 ends row ≤ k → k + length part ≤ get_or ends row 0 → OccursAt bytes part k → ⊥) → IsRight nulls ends bytes part out row
right-none nulls ends bytes part out row rise h unmarked nowhere = (
  λ marked. absurd (false-true (get_or out row false) unmarked marked),
  λ has. absurd (cell-none (get_or nulls row false) bytes part (start_from 0 ends row) (get_or ends row 0) (rise row h).0 (rise row h).1 nowhere has),
)

-- a row that is marked unless it is null, in whose text the part stands
cell-some : (b : Bool) (bytes part : List ℕ) (start end k : ℕ) → start ≤ k → k + length part ≤ end → end ≤ length bytes → OccursAt bytes part k → (not b ≡ true) ↔ CellHasPart part (text_unless_null b (slice_range bytes start end))
cell-some true bytes part start end k low high within at = (λ e. absurd (true≢false (sym e)), λ has. absurd has)
cell-some false bytes part start end k low high within at = (λ e. (k - start, occurs-in bytes part start end k low high within at), λ has. refl)

pub right-some : (nulls : List Bool) (ends bytes part : List ℕ) (out : List Bool) (row k : ℕ) → EndsRise ends (length bytes) → row < length ends → row < length out
    → start_from 0 ends row ≤ k → k + length part ≤ get_or ends row 0 → OccursAt bytes part k → IsRight nulls ends bytes part (set out row (not (get_or nulls row false))) row
right-some nulls ends bytes part out row k rise h long low high at =
    subst (λ b. (b ≡ true) ↔ CellHasPart part (row_cell nulls ends bytes row)) (sym (get_or-set_same out row (not (get_or nulls row false)) false long))
    (cell-some (get_or nulls row false) bytes part (start_from 0 ends row) (get_or ends row 0) k low high (rise row h).1 at)

-- another row stays right
pub right-other : (nulls : List Bool) (ends bytes part : List ℕ) (out : List Bool) (row r : ℕ) (b : Bool) → r ≢ row → IsRight nulls ends bytes part out r → IsRight nulls ends bytes part (set out row b) r
right-other nulls ends bytes part out row r b ne right =
    subst (λ x. (x ≡ true) ↔ CellHasPart part (row_cell nulls ends bytes r)) (sym (get_or-set_other out row r b false ne)) right

-- ---- the rows that a hit passes

-- the part stands nowhere from one place up to another
abbrev pub NowhereIn : List ℕ → List ℕ → ℕ → ℕ → Type 0
NowhereIn bytes part from to = (k : ℕ) → from ≤ k → k < to → OccursAt bytes part k → ⊥

-- each of these rows ends at a place or before it
abbrev pub EndBy : List ℕ → ℕ → ℕ → ℕ → Type 0
EndBy ends row next at = (r : ℕ) → row ≤ r → r < next → get_or ends r 0 ≤ at

pub passed-right : (nulls : List Bool) (ends bytes part : List ℕ) (out : List Bool) (row from next at : ℕ) → 0 < length part → EndsRise ends (length bytes) → AreFound nulls ends bytes part out row from
    → NowhereIn bytes part from at → EndBy ends row next at → next ≤ length ends → (r : ℕ) → r < next → IsRight nulls ends bytes part out r
passed-right nulls ends bytes part out row from next at some rise found nowhere by le r h = elim (cases_lt r row) [
  | inl lt ↦ found.done r lt
  | inr ge ↦ right-none nulls ends bytes part out r rise (omega arith) (found.left r ge)
      (λ k low high occurs. nowhere k (found.none r k ge (omega arith) low high occurs) (omega (arith, by r ge h)) occurs)
]

start-passed : (ends : List ℕ) (row next from at : ℕ) → row ≤ next → next ≤ length ends → start_from 0 ends row ≤ from → from ≤ at → EndBy ends row next at → start_from 0 ends next ≤ at
start-passed ends row zero from at order le start low by = omega arith
start-passed ends row (suc next) from at order le start low by = elim (cases_eq row (suc next)) [
  | inl is ↦ omega (arith, ap (start_from 0 ends) is)
  | inr ne ↦ by next (omega (arith, ne)) (omega arith)
]

-- a hit in the row: it is marked unless it is null, and the search goes on after it
pub found-hit : (nulls : List Bool) (ends bytes part : List ℕ) (out : List Bool) (row from next at : ℕ) → 0 < length part → EndsRise ends (length bytes) → AreFound nulls ends bytes part out row from
    → from ≤ at → NowhereIn bytes part from at → OccursAt bytes part at → row ≤ next → next < length ends → EndBy ends row next at → at + length part ≤ get_or ends next 0
    → AreFound nulls ends bytes part (set out next (not (get_or nulls next false))) (next + 1) (get_or ends next 0)
found-hit nulls ends bytes part out row from next at some rise found low nowhere occurs order lt by fits = record {
  order = omega arith;
  start = omega (arith, ap (start_from 0 ends) (add-one next));
  within = (rise next lt).1;
  long = length-set out next (not (get_or nulls next false)) ∙ found.long;
  done = λ r h. elim (cases_eq r next) [
    | inl is ↦ subst (IsRight nulls ends bytes part (set out next (not (get_or nulls next false)))) (sym is)
        (right-some nulls ends bytes part out next at rise lt (omega (arith, found.long)) (start-passed ends row next from at order (omega arith) found.start low by) fits occurs)
    | inr ne ↦ right-other nulls ends bytes part out next r (not (get_or nulls next false)) ne
        (passed-right nulls ends bytes part out row from next at some rise found nowhere by (omega arith) r (omega (arith, ne)))
  ];
  left = λ r h. get_or-set_other out next r (not (get_or nulls next false)) false (omega arith) ∙ found.left r (omega arith);
  none = λ r k h within start high at_k. omega (arith, end-before ends (length bytes) next r rise (omega arith) within, start);
}

-- a hit over the end of the row: the search goes on one byte after its start
pub found-over : (nulls : List Bool) (ends bytes part : List ℕ) (out : List Bool) (row from next at : ℕ) → 0 < length part → EndsRise ends (length bytes) → AreFound nulls ends bytes part out row from
    → from ≤ at → NowhereIn bytes part from at → OccursAt bytes part at → row ≤ next → next < length ends → EndBy ends row next at → at < get_or ends next 0 → get_or ends next 0 < at + length part
    → AreFound nulls ends bytes part out next (at + 1)
found-over nulls ends bytes part out row from next at some rise found low nowhere occurs order lt by past over = record {
  order = omega arith;
  start = omega (arith, start-passed ends row next from at order (omega arith) found.start low by);
  within = omega (arith, occurs.fits);
  long = found.long;
  done = λ r h. passed-right nulls ends bytes part out row from next at some rise found nowhere by (omega arith) r h;
  left = λ r h. found.left r (omega arith);
  none = λ r k h within start high at_k.
      let behind : from ≤ k = found.none r k (omega arith) within start high at_k in
      elim (cases_lt k at) [
        | inl before ↦ absurd (nowhere k behind before at_k)
        | inr from_at ↦ elim (cases_eq k at) [
          | inl is ↦ elim (cases_eq r next) [
            | inl same ↦ omega (arith, is, high, over, ap (λ x. get_or ends x 0) same)
            | inr ne ↦ omega (arith, is, past, start, end-before ends (length bytes) next r rise (omega (arith, ne)) within)
          ]
          | inr more ↦ omega (arith, more)
        ]
      ];
}

-- no hit any more, or none in front of the end of the last row: the marks are those of the cells
pub marks-end : (nulls : List Bool) (ends bytes part : List ℕ) (out : List Bool) (cells : List CellValue) → text_block_cells nulls ends bytes ≡ cells → length out ≡ length ends
    → ((r : ℕ) → r < length ends → IsRight nulls ends bytes part out r) → AreMarksOfPart part cells out
marks-end nulls ends bytes part out cells is long right =
    let count : length cells ≡ length ends = ap length (sym is) ∙ length-text_cells nulls ends bytes in
    record {
      long = long ∙ sym count;
      each = λ row h.
          let lt : row < length ends = omega (arith, count) in
          subst (λ c. (get_or out row false ≡ true) ↔ CellHasPart part c) (sym (ap (λ xs. get_or xs row null) (sym is) ∙ cell-at nulls ends bytes row lt)) (right row lt);
    }

-- what a search of the bytes from a place on says of all of them
occurs-rest : (xs p : List ℕ) (from k : ℕ) → from ≤ length xs → OccursAt (drop from xs) p k → OccursAt xs p (from + k)
occurs-rest xs p from k le at = record {
  fits = omega (arith, at.fits, length-drop from xs);
  reads = λ j h. ap (λ i. get_or xs i 0) (omega arith) ∙ sym (get_or-drop from xs (k + j) 0) ∙ at.reads j h;
}

occurs-back : (xs p : List ℕ) (from k : ℕ) → from ≤ k → OccursAt xs p k → OccursAt (drop from xs) p (k - from)
occurs-back xs p from k le at = record {
  fits = omega (arith, at.fits, length-drop from xs, le);
  reads = λ j h. get_or-drop from xs (k - from + j) 0 ∙ ap (λ i. get_or xs i 0) (omega (arith, le)) ∙ at.reads j h;
}

pub hit-at : (bytes part hay : List ℕ) (from found : ℕ) → OccursAt hay part found → hay ≡ drop from bytes → from ≤ length bytes → OccursAt bytes part (from + found)
hit-at bytes part hay from found at is le = occurs-rest bytes part from found le (subst (λ xs. OccursAt xs part found) is at)

pub nowhere-before : (bytes part hay : List ℕ) (from found : ℕ) → Nowhere (OccursAt hay part) 0 found → hay ≡ drop from bytes → NowhereIn bytes part from (from + found)
nowhere-before bytes part hay from found none is k low high at =
    none (k - from) (omega arith) (omega (arith, low, high)) (subst (λ xs. OccursAt xs part (k - from)) (sym is) (occurs-back bytes part from k low at))

pub nowhere-from : (bytes part hay : List ℕ) (from : ℕ) → Nowhere (OccursAt hay part) 0 (length hay + 1) → hay ≡ drop from bytes → (k : ℕ) → from ≤ k → OccursAt bytes part k → ⊥
nowhere-from bytes part hay from none is k low at =
    let back = occurs-back bytes part from k low at in
    none (k - from) (omega arith) (omega (arith, back.fits, ap length is)) (subst (λ xs. OccursAt xs part (k - from)) (sym is) back)

-- no hit any more: the rows that are left are right
pub all-right : (nulls : List Bool) (ends bytes part : List ℕ) (out : List Bool) (row from : ℕ) → EndsRise ends (length bytes) → AreFound nulls ends bytes part out row from
    → ((k : ℕ) → from ≤ k → OccursAt bytes part k → ⊥) → (r : ℕ) → r < length ends → IsRight nulls ends bytes part out r
all-right nulls ends bytes part out row from rise found nowhere r h = elim (cases_lt r row) [
  | inl lt ↦ found.done r lt
  | inr ge ↦ right-none nulls ends bytes part out r rise h (found.left r ge) (λ k low high occurs. nowhere k (found.none r k ge h low high occurs) occurs)
]

-- the empty part stands in each text
cell-empty : (b : Bool) (t part : List ℕ) → length part ≡ 0 → (not b ≡ true) ↔ CellHasPart part (text_unless_null b t)
cell-empty true t part none = (λ e. absurd (true≢false (sym e)), λ has. absurd has)
cell-empty false t part none = (λ e. (0, record { fits = omega (arith, none); reads = λ j h. absurd (omega (arith, h, none)) }), λ has. refl)

pub right-empty : (nulls : List Bool) (ends bytes part : List ℕ) (out : List Bool) (row : ℕ) → length part ≡ 0 → get_or out row false ≡ not (get_or nulls row false) → IsRight nulls ends bytes part out row
right-empty nulls ends bytes part out row none is =
    subst (λ b. (b ≡ true) ↔ CellHasPart part (row_cell nulls ends bytes row)) (sym is)
    (cell-empty (get_or nulls row false) (slice_range bytes (start_from 0 ends row) (get_or ends row 0)) part none)

-- a hit in the row, in the words of the code
pub hit-marked : (nulls : List Bool) (ends bytes part : List ℕ) (out : List Bool) (row from next at end : ℕ) (b : Bool) → b ≡ get_or nulls next false → end ≡ get_or ends next 0
    → AreFound nulls ends bytes part (set out next (not (get_or nulls next false))) (next + 1) (get_or ends next 0) → AreFound nulls ends bytes part (set out next (not b)) (next + 1) end
hit-marked nulls ends bytes part out row from next at end b same last found =
    subst (λ x. AreFound nulls ends bytes part (set out next (not x)) (next + 1) end) (sym same)
    (subst (AreFound nulls ends bytes part (set out next (not (get_or nulls next false))) (next + 1)) (sym last) found)
