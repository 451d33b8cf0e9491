-- The widths of records, with one record more.
use Rattle.std.proofs.Common.{◌≡◌, ◌≢◌, ℕ, ◌-◌, ◌<◌, zero, suc, List, [], ◌∷◌, ◌++◌, length, Bool, true, false, cond, ◌==◌, Option, Some, None, refl, sym, ap, ◌∙◌, subst, arith}
use Rattle.std.specs.Prelude.{slice_get, option_map, is_some, ◌||◌}
use Rattle.std.specs.List.{AllByRecursion}
use Rattle.std.proofs.lemmas.Option.{none-some}
use Rattle.std.proofs.lemmas.Bool.{eq-eqb, eqb-true, eqb-false, ne_eqb}
use Rattle.std.proofs.SliceLists.{all_by_recursion_push}
use Rattle.csv_grammar.specs.Records.{Field}
use Rattle.csv_grammar.specs.Files.{HasWidth, IsFirstOther}
use Rattle.csv_index.specs.Widths.{CountsWidths, width_with, uneven_with}
use Rattle.csv_index.specs.declared.widths.Widths.{Widths}

width_at_front : (rows more : List (List Field)) (k width : ℕ) → option_map length (slice_get rows k) ≡ Some width
    → option_map length (slice_get (rows ++ more) k) ≡ Some width
width_at_front [] more k width e = absurd (none-some width e)
width_at_front (row ∷ rows) more zero width e = e
width_at_front (row ∷ rows) more (suc k) width e = width_at_front rows more k width e

width_at_end : (rows : List (List Field)) (fields : List Field) → option_map length (slice_get (rows ++ fields ∷ []) (length rows)) ≡ Some (length fields)
width_at_end [] fields = refl
width_at_end (row ∷ rows) fields = width_at_end rows fields

width_at : (rows : List (List Field)) (k width : ℕ) → AllByRecursion (HasWidth width) rows → k < length rows → option_map length (slice_get rows k) ≡ Some width
width_at [] k width all less = absurd (omega arith)
width_at (row ∷ rows) zero width all less = ap Some all.0
width_at (row ∷ rows) (suc k) width all less = width_at rows k width all.1 (omega arith)

first_other_more : (header : List Field) (rows more : List (List Field)) (row : ℕ) → IsFirstOther header rows row → IsFirstOther header (rows ++ more) row
first_other_more header rows more row first = record {
  earlier = λ k less. width_at_front rows more k (length header) (first.earlier k less);
  width = first.width;
  found = width_at_front rows more row first.width first.found;
  other = first.other;
}

first_other_end : (header : List Field) (rows : List (List Field)) (fields : List Field) → AllByRecursion (HasWidth (length header)) rows
    → length fields ≢ length header → IsFirstOther header (rows ++ fields ∷ []) (length rows)
first_other_end header rows fields all other = record {
  earlier = λ k less. width_at_front rows (fields ∷ []) k (length header) (width_at rows k (length header) all less);
  width = length fields;
  found = width_at_end rows fields;
  other = other;
}

-- where the rows before it have the header's width
even_push : (header : List Field) (rows : List (List Field)) (fields : List Field) (width row : ℕ) (t : Bool) → width ≡ length header
    → AllByRecursion (HasWidth (length header)) rows → row ≡ length rows → length fields == width ≡ t
    → CountsWidths width (cond t None (Some row)) (header ∷ (rows ++ fields ∷ []))
even_push header rows fields width row true w all r e =
    (w, all_by_recursion_push (HasWidth (length header)) rows fields all (eqb-true (length fields) width e ∙ w))
even_push header rows fields width row false w all r e = (
  w,
  subst (IsFirstOther header (rows ++ fields ∷ [])) (sym r)
      (first_other_end header rows fields all (λ same. eqb-false (length fields) width e (same ∙ sym w))),
)

push : (count width : ℕ) (uneven : Option ℕ) (records : List (List Field)) (fields : List Field) → count ≡ length records
    → CountsWidths width uneven records
    → CountsWidths (cond (count == 0) (length fields) width)
    (cond (is_some uneven || length fields == cond (count == 0) (length fields) width) uneven (Some (count - 1))) (records ++ fields ∷ [])
push count width uneven [] fields e h = rw (e, h, eq-eqb (length fields) (length fields) refl) (refl, tt)
push count width None (header ∷ rows) fields e h =
    let more : count == 0 ≡ false = ne_eqb count 0 (λ none. omega arith) in
    rw more (even_push header rows fields width (count - 1) (length fields == width) h.0 h.1 (omega arith) refl)
push count width (Some row) (header ∷ rows) fields e h =
    let more : count == 0 ≡ false = ne_eqb count 0 (λ none. omega arith) in
    rw more (h.0, first_other_more header rows (fields ∷ []) row h.1)

-- one record more
pub counts_push : (s : Widths) (n : ℕ) (records : List (List Field)) (fields : List Field) → s.records ≡ length records → n ≡ length fields
    → CountsWidths s.width s.uneven records → CountsWidths (width_with s n) (uneven_with s n) (records ++ fields ∷ [])
counts_push s n records fields count e counts = rw e (push s.records s.width s.uneven records fields count counts)
