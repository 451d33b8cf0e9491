-- Texts of parts of a block, each byte of which stands for itself.
use Rattle.std.proofs.Common.{◌≡◌, ℕ, zero, suc, ◌+◌, ◌*◌, ◌/◌, ◌<◌, Bool, true, false, not, List, [], ◌∷◌, inl, inr, get_or, length, min, replicate, set, refl, sym, ap, ◌∙◌, arith}
use Rattle.std.specs.List.{list_any}
use Rattle.std.proofs.lemmas.Bool.{cases_eq, cases_lt, false≢true}
use Rattle.std.proofs.lemmas.List.{get_or-replicate, get_or-set_other, get_or-set_same, get_or_default, get_or_past, length-replicate}
use Rattle.std.proofs.lemmas.List.Folds.{Any-from_list_any, list_any_at}
use Rattle.cell_types.specs.Value.{CellValue, null, text}
use Rattle.reply_values.specs.Printed.{is_plain_text, needs_more}
use Rattle.text_columns.specs.PlainParts.{ArePlainParts}
use Rattle.text_columns.specs.Search.{HasPart, HaveTexts}

-- a part of bytes each of which stands for itself
part_plain : (json : Bool) (bytes t : List ℕ) → HasPart t bytes → is_plain_text json bytes ≡ true → is_plain_text json t ≡ true
part_plain json bytes t (place, at) plain = by (list_any (needs_more json) t) refl
  where
    by : (b : Bool) → list_any (needs_more json) t ≡ b → not b ≡ true
    by false e = refl
    by true e =
        let found = Any-from_list_any (needs_more json) t e in
        let there : needs_more json (get_or bytes (place + found.0) 0) ≡ true =
        ap (needs_more json) (at.reads found.0 found.2 ∙ get_or_default t found.0 0 found.1 found.2 ∙ found.3) ∙ found.4 in
        let no : not true ≡ true = ap not (sym (list_any_at (needs_more json) bytes (place + found.0) 0 (omega (arith, at.fits, found.2)) there)) ∙ plain in
        cc

row_within : (cells : List CellValue) (row : ℕ) (t : List ℕ) → get_or cells row null ≡ text t → row < length cells
row_within [] row t is = let no : ⊥ = cc in absurd no
row_within (cell ∷ cells) zero t is = omega arith
row_within (cell ∷ cells) (suc row) t is = omega (arith, row_within cells row t is)

-- the mark of a part, by the bytes from its first text to its last
pub part_marked : (json : Bool) (cells : List CellValue) (bytes : List ℕ) (part last : ℕ) (mark : Bool) → HaveTexts bytes cells (part * 64) last → last + 1 ≡ min (length cells) (part * 64 + 64)
    → mark ≡ is_plain_text json bytes → (row : ℕ) (t : List ℕ) → get_or cells row null ≡ text t → row / 64 ≡ part → mark ≡ true → is_plain_text json t ≡ true
part_marked json cells bytes part last mark have last_is mark_is row t is in_part marked =
    part_plain json bytes t (have row t (omega (arith, in_part)) (omega (arith, in_part, last_is, row_within cells row t is)) is) (sym mark_is ∙ marked)

none_marked : (n k : ℕ) → get_or (replicate n false) k false ≡ true → ⊥
none_marked n k marked = elim (cases_lt k n) [
  | inl within ↦ false≢true (sym (get_or-replicate n k false false within) ∙ marked)
  | inr past ↦ false≢true (sym (get_or_past (replicate n false) k false (omega (arith, past, length-replicate n false))) ∙ marked)
]

pub no_parts : (json : Bool) (cells : List CellValue) (n : ℕ) → ArePlainParts json cells (replicate n false)
no_parts json cells n row t is marked = absurd (none_marked n (row / 64) marked)

-- one part more
pub parts_more : (json : Bool) (cells : List CellValue) (marks : List Bool) (part : ℕ) (mark : Bool) → part < length marks → ArePlainParts json cells marks
    → ((row : ℕ) (t : List ℕ) → get_or cells row null ≡ text t → row / 64 ≡ part → mark ≡ true → is_plain_text json t ≡ true) → ArePlainParts json cells (set marks part mark)
parts_more json cells marks part mark within are more row t is marked = elim (cases_eq (row / 64) part) [
  | inl same ↦ more row t is same (sym (get_or-set_same marks part mark false within) ∙ ap (λ k. get_or (set marks part mark) k false) (sym same) ∙ marked)
  | inr other ↦ are row t is (sym (get_or-set_other marks part (row / 64) mark false other) ∙ marked)
]
