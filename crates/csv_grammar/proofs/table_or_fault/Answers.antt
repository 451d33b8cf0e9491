-- The bytes are UTF-8 or not; the text has records or a fault; there is a header or none; the rows have its width, or one is the first of another.
use Rattle.std.proofs.Common.{◌≡◌, ◌≢◌, ℕ, zero, suc, ◌+◌, ◌<◌, Bool, true, false, List, [], ◌∷◌, ◌⊎◌, inl, inr, refl, sym, ap, ◌∙◌, length, Some, option_map, slice_get, arith}
use Rattle.std.specs.List.{AllByRecursion}
use Rattle.std.specs.Str.{IsUtf8, is_utf8}
use Rattle.std.specs.Str.Lossy.{utf8_valid_len}
use Rattle.std.proofs.lemmas.Bool.{cases_order}
use Rattle.std.proofs.lemmas.Str.{IsUtf8-from_is_utf8, is_utf8-from_IsUtf8}
use Rattle.csv_grammar.specs.Records.{Field, AreRecords}
use Rattle.csv_grammar.specs.Files.{mark_len, text_of, HasWidth, IsTable, FileCause, not_utf8, malformed, no_header, wrong_width, IsFirstOther, IsFileFault}
use Rattle.csv_grammar.proofs.Viable.{records_or_stop}
use Rattle.csv_grammar.proofs.table_or_fault.Goals as goal

-- a row of the width stands before the first other one
behind : (header row_fields : List Field) (rows : List (List Field)) (row : ℕ) → length row_fields ≡ length header → IsFirstOther header rows row → IsFirstOther header (row_fields ∷ rows) (suc row)
behind header row_fields rows row e first = record { earlier = earlier; width = first.width; found = first.found; other = first.other }
  where
    earlier : (k : ℕ) → k < suc row → option_map length (slice_get (row_fields ∷ rows) k) ≡ Some (length header)
    earlier zero h = ap (λ n. Some n) e
    earlier (suc k) h = first.earlier k (omega arith)

here : (header row_fields : List Field) (rows : List (List Field)) → length row_fields ≢ length header → IsFirstOther header (row_fields ∷ rows) 0
here header row_fields rows other = record { earlier = λ k h. absurd (omega arith); width = length row_fields; found = refl; other = other }

-- rows have the header's width, or one is the first that has another
rows_or_other : (header : List Field) (rows : List (List Field)) → AllByRecursion (HasWidth (length header)) rows ⊎ ((row : ℕ) × IsFirstOther header rows row)
rows_or_other header [] = inl tt
rows_or_other header (fields ∷ rows) =
    elim (cases_order (length fields) (length header)) [
      | inl e ↦ elim (rows_or_other header rows) [ inl all ↦ inl (e, all) | inr later ↦ inr (suc later.0, behind header fields rows later.0 e later.1) ]
      | inr other ↦ inr (0, here header fields rows (λ e. elim other [ inl less ↦ omega arith | inr more ↦ omega arith ]))
    ]

of_records : (bytes : List ℕ) (records : List (List Field)) → IsUtf8 bytes → AreRecords (text_of bytes) records
    → ((header : List Field) × (rows : List (List Field)) × IsTable bytes header rows) ⊎ ((f : FileCause) × IsFileFault bytes f)
of_records bytes [] utf8 are = inr (no_header, (utf8, are))
of_records bytes (header ∷ rows) utf8 are =
    elim (rows_or_other header rows) [
      | inl all ↦ inl (header, rows, record { utf8 = utf8; are = are; widths = all })
      | inr other ↦ inr (wrong_width other.0, record { utf8 = utf8; header = header; rows = rows; are = are; first = other.1 })
    ]

of_text : (bytes : List ℕ) (test : Bool) → is_utf8 bytes ≡ test
    → ((header : List Field) × (rows : List (List Field)) × IsTable bytes header rows) ⊎ ((f : FileCause) × IsFileFault bytes f)
of_text bytes false e = inr (not_utf8 (utf8_valid_len bytes), ((λ utf8. let t : true ≡ false = sym (is_utf8-from_IsUtf8 bytes utf8) ∙ e in cc), refl))
of_text bytes true e =
    let utf8 = IsUtf8-from_is_utf8 bytes e in
    elim (records_or_stop (text_of bytes)) [
      | inl read ↦ of_records bytes read.0 utf8 read.1
      | inr stop ↦ inr (malformed stop.1 (mark_len bytes + stop.0), record { utf8 = utf8; in_text = stop.0; fault = stop.2; counted = refl })
    ]

pub returns : goal.returns
returns c bytes = of_text bytes (is_utf8 bytes) refl
