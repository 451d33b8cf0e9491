-- Codes of the rows so far.
use Rattle.std.proofs.Common.{◌≡◌, inl, inr, ℕ, Bool, ◌+◌, ◌<◌, List, [], ◌∷◌, ◌++◌, Option, None, Some, length, get_or, set, refl, sym, ap, ◌∙◌, subst, arith}
use Rattle.std.proofs.lemmas.Bool.{cases_eq}
use Rattle.std.proofs.lemmas.List.{get_or_append_left, get_or_push, get_or-set_other, get_or-set_same, length-set, length_push}
use Rattle.std.specs.Option.{option_copied, MatchOption}
use Rattle.std.specs.Prelude.{option_map, IfSome}
use denote.Ref.{Bor}
use Rattle.cell_types.specs.Value.{CellValue, null, text}
use Rattle.text_columns.specs.Codes.{AreCodedTexts, AreCodes, AreCodeRows, HasCode, KeepsCodes}
use Rattle.text_columns.specs.Texts.{text_block_cells}
use Rattle.text_columns.specs.declared.codes.TextCodes.{TextCodes}

-- cells whose texts are the same
pub same-cells : (a b : Option (Bor (List ℕ))) (x y : CellValue) → MatchOption a (x ≡ null) (λ t. x ≡ text t.now) → MatchOption b (y ≡ null) (λ t. y ≡ text t.now)
    → option_map (λ t. t.now) a ≡ option_map (λ t. t.now) b → x ≡ y
same-cells None None x y left right same = left ∙ sym right
same-cells None (Some t) x y left right same = absurd (cc)
same-cells (Some s) None x y left right same = absurd (cc)
same-cells (Some s) (Some t) x y left right same = let is : s.now ≡ t.now = cc in left ∙ ap text is ∙ sym right

-- codes that are lent
pub lent-codes : (o : Option (Bor TextCodes)) (cells seen : List CellValue) → cells ≡ seen → IfSome (option_copied o) (λ it. AreCodes it cells) → IfSome o (λ it. AreCodes it.now seen)
lent-codes None cells seen is are = are
lent-codes (Some it) cells seen is are = subst (AreCodes it.now) is are

-- codes of the texts of a block
pub coded-texts : (nulls : List Bool) (ends bytes : List ℕ) (were codes : Option TextCodes) (seen : List CellValue) → AreCodedTexts nulls ends bytes were → seen ≡ text_block_cells nulls ends bytes
    → IfSome codes (λ (it : TextCodes). AreCodes it seen) → AreCodedTexts nulls ends bytes codes
coded-texts nulls ends bytes were codes seen are is found = record {
  texts = are.texts;
  codes = subst (λ cells. IfSome codes (λ (it : TextCodes). AreCodes it cells)) is found;
}

-- ---- a new code

pub new-code : (cells : List CellValue) (rows : List ℕ) (row : ℕ) → HasCode cells (rows ++ row ∷ []) row (length rows)
new-code cells rows row = (omega (arith, length_push rows row), ap (λ r. get_or cells r null) (get_or_push rows row 0 (length rows) refl))

pub more-rows : (cells : List CellValue) (rows : List ℕ) (row : ℕ) → AreCodeRows rows cells → length rows < 255 → row < length cells → AreCodeRows (rows ++ row ∷ []) cells
more-rows cells rows row are few lt = (omega (arith, length_push rows row), each)
  where
    each : (code : ℕ) → code < length (rows ++ row ∷ []) → get_or (rows ++ row ∷ []) code 0 < length cells
    each code h = elim (cases_eq code (length rows)) [
      | inl is ↦ omega (arith, get_or_push rows row 0 code (sym is), lt)
      | inr ne ↦ let below : code < length rows = omega (arith, ne, length_push rows row) in omega (arith, get_or_append_left rows (row ∷ []) 0 code below, are.1 code below)
    ]

pub keeps-more : (rows : List ℕ) (row : ℕ) → KeepsCodes rows (rows ++ row ∷ [])
keeps-more rows row = (omega (arith, length_push rows row), λ code h. get_or_append_left rows (row ∷ []) 0 code h)

pub keeps-same : (rows : List ℕ) → KeepsCodes rows rows
keeps-same rows = (omega arith, λ code h. refl)

-- ---- one row more

pub record AreCodesTo (cells : List CellValue) (rows codes : List ℕ) (row : ℕ) : Type 0 where
  pub held : AreCodeRows rows cells
  pub long : length codes ≡ length cells
  pub each : (k : ℕ) → k < row → HasCode cells rows k (get_or codes k 0)

code-kept : (cells : List CellValue) (old new : List ℕ) (k code : ℕ) → KeepsCodes old new → HasCode cells old k code → HasCode cells new k code
code-kept cells old new k code keeps has = (omega (arith, keeps.0, has.0), ap (λ r. get_or cells r null) (keeps.1 code has.0) ∙ has.1)

pub codes-more : (cells : List CellValue) (old new codes : List ℕ) (row code : ℕ) → AreCodesTo cells old codes row → row < length cells → AreCodeRows new cells → KeepsCodes old new
    → HasCode cells new row code → AreCodesTo cells new (set codes row code) (row + 1)
codes-more cells old new codes row code are lt those keeps has = record {
  held = those;
  long = omega (arith, are.long, length-set codes row code);
  each = λ k h. elim (cases_eq k row) [
    | inl is ↦
        let there : get_or (set codes row code) k 0 ≡ code = ap (λ r. get_or (set codes row code) r 0) is ∙ get_or-set_same codes row code 0 (omega (arith, lt, are.long)) in
        subst (λ r. HasCode cells new r (get_or (set codes row code) k 0)) (sym is) (subst (HasCode cells new row) (sym there) has)
    | inr ne ↦
        let there : get_or (set codes row code) k 0 ≡ get_or codes k 0 = get_or-set_other codes row k code 0 ne in
        subst (HasCode cells new k) (sym there) (code-kept cells old new k (get_or codes k 0) keeps (are.each k (omega (arith, h, ne))))
  ];
}
