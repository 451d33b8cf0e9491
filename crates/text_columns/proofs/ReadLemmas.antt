-- One text_unless_null more in a buffer.
use Rattle.std.proofs.Common.{◌≡◌, inl, inr, ℕ, zero, suc, ◌+◌, ◌-◌, ◌<◌, ◌≤◌, Bool, List, [], ◌∷◌, ◌++◌, length, get_or, take, drop, set, slice_range, refl, sym, ap, ◌∙◌, subst, arith}
use Rattle.std.specs.Prelude.{IsUtf8}
use Rattle.std.proofs.lemmas.Bool.{cases_eq}
use Rattle.std.proofs.lemmas.List.{drop_at, get_or_append_left, get_or_push, length-append, length-set, length-take, length_push, take-take, take_at, take_more_set}
use Rattle.std.proofs.lemmas.Slice.{between_is}
use Rattle.std.proofs.lemmas.Str.{IsCharBoundary-from_take, IsUtf8-append}
use Rattle.text_columns.specs.Buffer.{TextBufferOf, with_text_cell, AreRead}
use Rattle.text_columns.specs.Texts.{text_unless_null, texts_unless_null, start_from, text_block_cells, texts_from, AreBoundaries, AreNullMarks, AreTextBytes, HaveMarks, EndsRise}
use Rattle.text_columns.proofs.ListLemmas.{take-front-le}
use Rattle.text_columns.proofs.TextLemmas.{cells-more, cells-same, length-text_cells, length-texts, texts-more, texts-same}

-- a text is written after the front
pub record IsWritten (at to : ℕ) (old new t : List ℕ) : Type 0 where
  pub order : at ≤ to
  pub within : at ≤ length old
  pub front : take to new ≡ take at old ++ t

pub front-kept : (at to : ℕ) (old new t : List ℕ) → IsWritten at to old new t → take at new ≡ take at old
front-kept at to old new t is =
    sym (take-take at to new is.order) ∙ ap (take at) is.front ∙ take_at (take at old) t at (take-front-le old at is.within)

pub text-written : (at to : ℕ) (old new t : List ℕ) → IsWritten at to old new t → slice_range new at to ≡ t
text-written at to old new t is =
    between_is new at to ∙ ap (drop at) is.front ∙ drop_at (take at old) t at (take-front-le old at is.within)

start-more : (ends : List ℕ) (to row : ℕ) → row ≤ length ends → start_from 0 (ends ++ to ∷ []) row ≡ start_from 0 ends row
start-more ends to zero h = refl
start-more ends to (suc row) h = get_or_append_left ends (to ∷ []) 0 row (omega arith)

front-same : (e at : ℕ) (old new : List ℕ) → e ≤ at → take at new ≡ take at old → take e new ≡ take e old
front-same e at old new le same = sym (take-take e at new le) ∙ ap (take e) same ∙ take-take e at old le

rise-more : (at to : ℕ) (ends : List ℕ) → EndsRise ends at → start_from 0 ends (length ends) ≡ at → at ≤ to → EndsRise (ends ++ to ∷ []) to
rise-more at to ends rise last order row h = elim (cases_eq row (length ends)) [
  | inl is ↦ (
    omega (arith, start-more ends to row (omega (arith, is)), ap (start_from 0 ends) is, last, get_or_push ends to 0 row (sym is), order),
    omega (arith, get_or_push ends to 0 row (sym is)),
  )
  | inr ne ↦
      let lt : row < length ends = omega (arith, ne, length_push ends to) in
      let same = get_or_append_left ends (to ∷ []) 0 row lt in (
        omega (arith, start-more ends to row (omega (arith, lt)), same, (rise row lt).0),
        omega (arith, same, (rise row lt).1, order),
      )
]

fronts-more : (at to : ℕ) (ends old new : List ℕ) → EndsRise ends at → ((row : ℕ) → row < length ends → IsUtf8 (take (get_or ends row 0) old)) → take at new ≡ take at old → IsUtf8 (take to new)
    → (row : ℕ) → row < length (ends ++ to ∷ []) → IsUtf8 (take (get_or (ends ++ to ∷ []) row 0) new)
fronts-more at to ends old new rise fronts same whole row h = elim (cases_eq row (length ends)) [
  | inl is ↦ subst (λ e. IsUtf8 (take e new)) (sym (get_or_push ends to 0 row (sym is))) whole
  | inr ne ↦
      let lt : row < length ends = omega (arith, ne, length_push ends to) in
      subst (λ e. IsUtf8 (take e new)) (sym (get_or_append_left ends (to ∷ []) 0 row lt))
      (subst IsUtf8 (sym (front-same (get_or ends row 0) at old new (rise row lt).1 same)) (fronts row lt))
]

last-more : (ends : List ℕ) (to : ℕ) → start_from 0 (ends ++ to ∷ []) (length (ends ++ to ∷ [])) ≡ to
last-more [] to = refl
last-more (x ∷ []) to = refl
last-more (x ∷ y ∷ ends) to = last-more (y ∷ ends) to

pub read-more : (at to : ℕ) (ends old new t : List ℕ) → AreRead at ends old → IsWritten at to old new t → IsUtf8 t → AreRead to (ends ++ to ∷ []) new
read-more at to ends old new t are is utf8 =
    let whole : IsUtf8 (take to new) = subst IsUtf8 (sym is.front) (IsUtf8-append (take at old) t are.utf8 utf8) in
    record {
      rise = rise-more at to ends are.rise are.last is.order;
      utf8 = whole;
      fronts = fronts-more at to ends old new are.rise are.fronts (front-kept at to old new t is) whole;
      last = last-more ends to;
    }

pub read-put : (at to len : ℕ) (ends old new t : List ℕ) → len < length ends → AreRead at (take len ends) old → IsWritten at to old new t → IsUtf8 t → AreRead to (take (len + 1) (set ends len to)) new
read-put at to len ends old new t lt are is utf8 =
    subst (λ es. AreRead to es new) (sym (take_more_set ends len to lt)) (read-more at to (take len ends) old new t are is utf8)

-- ---- the cells

pub cells-put : (at to len : ℕ) (nulls : List Bool) (ends old new t : List ℕ) (b : Bool) → len < length ends → length nulls ≡ length ends → AreRead at (take len ends) old → IsWritten at to old new t
    → text_block_cells (take (len + 1) (set nulls len b)) (take (len + 1) (set ends len to)) new ≡ text_block_cells (take len nulls) (take len ends) old ++ text_unless_null b t ∷ []
cells-put at to len nulls ends old new t b lt long are is =
    ap (λ ns. text_block_cells ns (take (len + 1) (set ends len to)) new) (take_more_set nulls len b (omega (arith, long, lt)))
    ∙ ap (λ es. text_block_cells (take len nulls ++ b ∷ []) es new) (take_more_set ends len to lt)
    ∙ ap (texts_unless_null (take len nulls ++ b ∷ [])) (texts-more 0 (take len ends) new to)
    ∙ ap (λ ts. texts_unless_null (take len nulls ++ b ∷ []) (ts ++ slice_range new (start_from 0 (take len ends) (length (take len ends))) to ∷ []))
    (texts-same (take len ends) new old at are.rise (front-kept at to old new t is))
    ∙ ap (λ k. texts_unless_null (take len nulls ++ b ∷ []) (texts_from 0 (take len ends) old ++ slice_range new k to ∷ [])) are.last
    ∙ ap (λ xs. texts_unless_null (take len nulls ++ b ∷ []) (texts_from 0 (take len ends) old ++ xs ∷ [])) (text-written at to old new t is)
    ∙ cells-more (take len nulls) (texts_from 0 (take len ends) old) b t
    (omega (arith, length-take len nulls, length-take len ends, long, length-texts 0 (take len ends) old))

-- ---- a buffer

abbrev view : List Bool → List ℕ → List ℕ → ℕ → TextBufferOf
view nulls ends bytes len = record { room = length ends; cells = text_block_cells (take len nulls) (take len ends) bytes }

-- there is room for one text_unless_null more
pub free-of : (nulls : List Bool) (ends bytes : List ℕ) (len : ℕ) (buffer : TextBufferOf) → view nulls ends bytes len ≡ buffer → length buffer.cells < buffer.room → len ≤ length ends → len < length ends
free-of nulls ends bytes len buffer is room le =
    let cells = ap (λ (x : TextBufferOf). length x.cells) is in
    let rooms = ap (λ (x : TextBufferOf). x.room) is in
    omega (arith, cells, rooms, room, length-text_cells (take len nulls) (take len ends) bytes, length-take len ends)

pub length-view : (nulls : List Bool) (ends bytes : List ℕ) (len : ℕ) (buffer : TextBufferOf) → view nulls ends bytes len ≡ buffer → len ≤ length ends → len ≡ length buffer.cells
length-view nulls ends bytes len buffer is le =
    let cells = ap (λ (x : TextBufferOf). length x.cells) is in
    omega (arith, cells, length-text_cells (take len nulls) (take len ends) bytes, length-take len ends)

pub view-put : (at to len : ℕ) (nulls : List Bool) (ends old new t : List ℕ) (b : Bool) (buffer : TextBufferOf) → view nulls ends old len ≡ buffer
    → len < length ends → length nulls ≡ length ends → AreRead at (take len ends) old → IsWritten at to old new t
    → view (set nulls len b) (set ends len to) new (len + 1) ≡ with_text_cell buffer (text_unless_null b t)
view-put at to len nulls ends old new t b buffer is lt long are written =
    ap (λ n. record { room = n; cells = text_block_cells (take (len + 1) (set nulls len b)) (take (len + 1) (set ends len to)) new }) (length-set ends len to)
    ∙ ap (λ cells. record { room = length ends; cells = cells }) (cells-put at to len nulls ends old new t b lt long are written)
    ∙ ap (λ (r : TextBufferOf). with_text_cell r (text_unless_null b t)) is

-- a text is written where room was made
pub written-of : (at to : ℕ) (old room lent new now t : List ℕ) → at ≤ length old → at ≤ to → take at room ≡ take at old → lent ≡ room → now ≡ new → take to new ≡ take at lent ++ t → IsWritten at to old now t
written-of at to old room lent new now t within order kept is that copied = record {
  order = order;
  within = within;
  front = ap (take to) that ∙ copied ∙ ap (λ xs. take at xs ++ t) is ∙ ap (λ xs. xs ++ t) kept;
}

pub written-length : (at to : ℕ) (old new t : List ℕ) → to ≤ length new → IsWritten at to old new t → to - at ≡ length t
written-length at to old new t within is =
    omega (arith, ap length is.front, take-front-le new to within, length-append (take at old) t, take-front-le old at is.within)

-- ---- what is kept of it

boundaries-of : (at : ℕ) (ends bytes : List ℕ) → at ≤ length bytes → AreRead at ends bytes → AreBoundaries ends (take at bytes)
boundaries-of at ends bytes within are row h =
    let e = get_or ends row 0 in
    let le : e ≤ at = (are.rise row h).1 in
    IsCharBoundary-from_take (take at bytes) e are.utf8 (omega (arith, le, take-front-le bytes at within)) (subst IsUtf8 (sym (take-take e at bytes le)) (are.fronts row h))

texts-of : (at : ℕ) (nulls kept : List Bool) (ends bytes : List ℕ) → at ≤ length bytes → AreRead at ends bytes → AreNullMarks nulls kept → length nulls ≡ length ends → AreTextBytes kept ends (take at bytes)
texts-of at nulls kept ends bytes within are marks long = record {
  rise = subst (EndsRise ends) (sym (take-front-le bytes at within)) are.rise;
  utf8 = are.utf8;
  boundaries = boundaries-of at ends bytes within are;
  marks = subst (HaveMarks kept) long marks.long;
}

pub packed-texts : (at len : ℕ) (nulls kept : List Bool) (ends bytes places front : List ℕ) → places ≡ take len ends → front ≡ take at bytes → at ≤ length bytes → length nulls ≡ length ends
    → AreRead at (take len ends) bytes → AreNullMarks (take len nulls) kept → AreTextBytes kept places front
packed-texts at len nulls kept ends bytes places front ps fs within long are marks =
    subst (λ es. AreTextBytes kept es front) (sym ps) (subst (AreTextBytes kept (take len ends)) (sym fs)
    (texts-of at (take len nulls) kept (take len ends) bytes within are marks (omega (arith, length-take len nulls, length-take len ends, long))))

pub packed-cells : (at len : ℕ) (nulls kept : List Bool) (ends bytes places front : List ℕ) (buffer : TextBufferOf) → view nulls ends bytes len ≡ buffer → places ≡ take len ends → front ≡ take at bytes
    → AreRead at (take len ends) bytes → AreNullMarks (take len nulls) kept → text_block_cells kept places front ≡ buffer.cells
packed-cells at len nulls kept ends bytes places front buffer is ps fs are marks =
    ap (λ es. text_block_cells kept es front) ps
    ∙ ap (text_block_cells kept (take len ends)) fs
    ∙ ap (texts_unless_null kept) (texts-same (take len ends) (take at bytes) bytes at are.rise (take-take at at bytes (omega arith)))
    ∙ cells-same (take len nulls) kept (texts_from 0 (take len ends) bytes) marks.same
    ∙ ap (λ (x : TextBufferOf). x.cells) is
