-- A reading of a whole file is an index of its table, or shows that it is none.
use Rattle.std.proofs.Common.{◌≡◌, ◌≢◌, ℕ, ◌+◌, ◌-◌, ◌*◌, ◌<◌, ◌≤◌, List, [], ◌∷◌, ◌++◌, length, map, true, Option, Some, None, drop, inl, inr, refl, sym, ap, ◌∙◌, subst, arith, length-append}
use Rattle.std.specs.Prelude.{IsUtf8, option_to_list, IfSome}
use Rattle.std.specs.List.{AllByRecursion}
use Rattle.std.specs.Str.{is_utf8}
use Rattle.std.proofs.lemmas.List.{length-map}
use Rattle.csv_grammar.specs.Records.{Field, Line, IsRecord, IsLast, AreRecords}
use Rattle.csv_grammar.specs.Faults.{HasFault}
use Rattle.csv_grammar.specs.Files.{mark_len, text_of, HasWidth}
use Rattle.csv_fields.specs.Laws.{FieldsStandSo}
use Rattle.csv_grammar.specs.Raw.{raw_of}
use Rattle.csv_fields.specs.Between.{cut, raw_between}
use Rattle.csv_index.specs.Index.{Places, Rise, FitsFile, IsIndexOf}
use Rattle.csv_index.specs.declared.widths.Widths.{Widths}
use Rattle.csv_index.specs.Fault.{IsTextFault}
use Rattle.csv_index.specs.Widths.{CountsWidths}
use Rattle.csv_index.specs.Structure.{all_fields, ends_of, ReadsAsRecords, HasTextFault}
use Rattle.csv_index.specs.declared.fault.TextFault.{TextFault}
use Rattle.csv_index.proofs.RowLemmas.{length-cut, table_stands, raw_table-is, width-table_in, rows-table_in}

length-all_fields : (width : ℕ) (records : List (List Field)) → AllByRecursion (HasWidth width) records → length (all_fields records) ≡ length records * width
length-all_fields width [] all = omega arith
length-all_fields width (fields ∷ records) all =
    length-append fields (all_fields records) ∙ omega (arith, all.0, length-all_fields width records all.1)

-- the first record has a field
first_record : (bytes : List ℕ) (header : List Field) (rows : List (List Field)) → AreRecords bytes (header ∷ rows) → 0 < length header
first_record bytes header rows records = on records.tree.lines records.tree.last records.valid.lines records.valid.last records.are
  where
    on : (lines : List Line) (last : Option (List Field)) → AllByRecursion (λ line. IsRecord line.fields) lines → IfSome last IsLast
        → header ∷ rows ≡ map (λ line. line.fields) lines ++ option_to_list last → 0 < length header
    on [] None lines last e = cc
    on [] (Some fields) lines last e = let same : header ≡ fields = cc in rw same last.0.0
    on (line ∷ more) last lines ends e = let same : header ≡ line.fields = cc in rw same lines.0.0

-- the places of a reading
abbrev pub places_of : ℕ → List ℕ → Option ℕ → Widths → Places
places_of mark blocks last w = record { start = mark; width = w.width; rows = w.records - 1; ends = ends_of mark blocks last }

index_in : FieldsStandSo → (file : List ℕ) (header : List Field) (rows : List (List Field)) (blocks : List ℕ) (last : Option ℕ) (w : Widths) → IsUtf8 file
    → ReadsAsRecords file (mark_len file) (header ∷ rows) blocks last w → w.uneven ≡ None → IsIndexOf (places_of (mark_len file) blocks last w) file
index_in stand file header rows blocks last w utf8 read even =
    let ends : List ℕ = ends_of (mark_len file) blocks last in
    let widths : CountsWidths w.width None (header ∷ rows) = subst (λ u. CountsWidths w.width u (header ∷ rows)) even read.widths in
    let some : 0 < length header = first_record (text_of file) header rows read.are in
    let count : length ends ≡ length (header ∷ rows) * length header =
    sym (length-cut (mark_len file) ends file)
    ∙ sym (length-map (cut (mark_len file) ends file) raw_between)
    ∙ ap length read.cuts.raws
    ∙ length-map (all_fields (header ∷ rows)) raw_of
    ∙ length-all_fields (length header) (header ∷ rows) (refl, widths.1) in
    let more : w.records - 1 + 1 ≡ length (header ∷ rows) = omega (arith, read.count) in
    let places : Places = places_of (mark_len file) blocks last w in
    let fits : FitsFile places file = record {
      width = omega (arith, widths.0, some);
      count = rw (more, widths.0) count;
      rise = read.cuts.rise;
      text = subst (AllByRecursion (λ raw. is_utf8 raw.bytes ≡ true)) (sym read.cuts.raws) read.cuts.text;
      boundary = read.cuts.boundary;
      ascii = read.cuts.ascii;
    } in record {
      table = raw_table-is stand file header rows _ (record { utf8 = utf8; are = read.are; widths = widths.1 })
          (table_stands places file header rows read.cuts.raws widths.0 (omega (arith, read.count)) widths.1);
      width = width-table_in places file fits;
      row_count = rows-table_in places file;
      fits = fits;
    }

-- where a record was read, and no row differs
pub index_of : FieldsStandSo → (file : List ℕ) (mark : ℕ) (blocks : List ℕ) (last : Option ℕ) (w : Widths) → IsUtf8 file → mark ≡ mark_len file
    → (records : List (List Field)) × ReadsAsRecords file mark records blocks last w → w.uneven ≡ None → w.records ≢ 0
    → IsIndexOf (places_of mark blocks last w) file
index_of stand file mark blocks last w utf8 m ([], read) even some = absurd (some read.count)
index_of stand file mark blocks last w utf8 m (header ∷ rows, read) even some =
    subst (λ n. IsIndexOf (places_of n blocks last w) file) (sym m)
    (index_in stand file header rows blocks last w utf8 (subst (λ n. ReadsAsRecords file n (header ∷ rows) blocks last w) m read) even)

-- the places are no further than the greatest number
pub rise_wide : (start size wide : ℕ) (ends : List ℕ) → size ≤ wide → Rise start ends size → Rise start ends wide
rise_wide start size wide [] h rise = tt
rise_wide start size wide (end ∷ ends) h rise = (rise.0, omega arith, rise_wide (end + 1) size wide ends h rise.2)

-- the text's fault is the file's
pub text_fault : (file : List ℕ) (mark : ℕ) (e : TextFault) → IsUtf8 file → mark ≡ mark_len file → HasTextFault e file mark → IsTextFault file e
text_fault file mark e utf8 m (inl memory) = rw memory tt
text_fault file mark e utf8 m (inr (place, cause, fault, tells)) =
    rw tells (record { utf8 = utf8; in_text = place; fault = subst (λ n. HasFault (drop n file) place cause) m fault; counted = ap (λ n. n + place) m })
