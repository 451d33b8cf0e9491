-- Rows of a table, and others after them.
use Rattle.std.proofs.Common.{◌≡◌, ◌∙◌, ℕ, ◌-◌, suc, List, [], ◌∷◌, ◌++◌, length, map, ap, ap₂, refl, sym, subst, append_assoc, append-nil, arith, Some}
use Rattle.std.specs.Prelude.{Bool, slice_get, option_to_list}
use Rattle.std.specs.List.{flat_map, AllByRecursion}
use Rattle.std.proofs.lemmas.Grind.{flat_map-append}
use Rattle.std.proofs.lemmas.List.{map-append}
use Rattle.csv_grammar.specs.Bytes.{byte_order_mark, line_feed}
use Rattle.csv_grammar.specs.Pieces.{AreLines, InWindows}
use Rattle.csv_grammar.specs.Records.{Field, IsRecord, Line, AreRecords, print_last, print_line}
use Rattle.csv_records.specs.Written.{HaveCells, row_bytes, rows_bytes}
use Rattle.file_convert.specs.declared.table.Reading.{Reading}
use Rattle.file_convert.specs.Conversion.{AreConverted, no_row, empty_line, next_row, PutsRows}
use Rattle.file_convert.specs.Pieces.{EndsInBreak}
use Rattle.file_convert.specs.Rows.{Plan}
use Rattle.file_convert.proofs.TableLemmas.{said}

are_valid : (lines more : List Line) → AllByRecursion (λ line. IsRecord line.fields) lines → AllByRecursion (λ line. IsRecord line.fields) more
    → AllByRecursion (λ line. IsRecord line.fields) (lines ++ more)
are_valid [] more one other = other
are_valid (line ∷ lines) more one other = (one.0, are_valid lines more one.1 other)

have_more : (outs more : List (List (List ℕ))) → HaveCells outs → HaveCells more → HaveCells (outs ++ more)
have_more [] more one other = other
have_more (out ∷ outs) more one other = (one.0, have_more outs more one.1 other)

-- records of a text that ends in an LF are lines
lines_of : InWindows → (text : List ℕ) (records : List (List Field)) → AreRecords text records → EndsInBreak text → AreLines text records
lines_of law [] records are ends = absurd (cc)
lines_of law (byte ∷ text) records are ends =
    let short : suc (length text) - 1 ≡ length text = omega arith in
    let long : suc (suc (suc (suc (length text)))) - 1 ≡ suc (suc (suc (length text))) = omega arith in
    let Short : ℕ → Type 0 = λ n. slice_get (byte ∷ text) n ≡ Some line_feed in
    let Long : ℕ → Type 0 = λ n. slice_get (byte_order_mark ++ byte ∷ text) n ≡ Some line_feed in
    law.lines (byte_order_mark ++ byte ∷ text) records are (subst Long (sym long) (subst Short short ends))

abbrev fields_of : Line → List Field
fields_of line = line.fields

lines_more : (front more : List ℕ) (first others : List (List Field)) → AreLines front first → AreRecords more others → AreRecords (front ++ more) (first ++ others)
lines_more front more first others one other = record {
  tree = record { lines = one.lines ++ other.tree.lines; last = other.tree.last };
  valid = record { lines = are_valid one.lines other.tree.lines one.valid other.valid.lines; last = other.valid.last };
  printed = ap₂ (λ x y. x ++ y) one.printed other.printed
      ∙ (sym (append_assoc (flat_map print_line one.lines) (flat_map print_line other.tree.lines) (print_last other.tree.last))
      ∙ ap (λ l. l ++ print_last other.tree.last) (sym (flat_map-append print_line one.lines other.tree.lines)));
  are = ap₂ (λ x y. x ++ y) one.are other.are
      ∙ (sym (append_assoc (map fields_of one.lines) (map fields_of other.tree.lines) (option_to_list other.tree.last))
      ∙ ap (λ l. l ++ option_to_list other.tree.last) (sym (map-append fields_of one.lines other.tree.lines)));
}

converted_more : (plans : List Plan) (pads : Bool) (width : ℕ) (rows outs more others : List (List (List ℕ))) → AreConverted plans pads width rows outs
    → AreConverted plans pads width more others → AreConverted plans pads width (rows ++ more) (outs ++ others)
converted_more plans pads width rows outs more others one no_row =
    subst (λ l. AreConverted plans pads width l (outs ++ [])) (sym (append-nil rows)) (subst (λ l. AreConverted plans pads width rows l) (sym (append-nil outs)) one)
converted_more plans pads width rows outs more others one (empty_line before made wide other) =
    subst (λ l. AreConverted plans pads width l (outs ++ made)) (append_assoc rows before (([] ∷ []) ∷ []))
    (empty_line (rows ++ before) (outs ++ made) wide (converted_more plans pads width rows outs before made one other))
converted_more plans pads width rows outs more others one (next_row before made row out other few fits written) =
    subst (λ l. AreConverted plans pads width l (outs ++ (made ++ out ∷ []))) (append_assoc rows before (row ∷ []))
    (subst (λ l. AreConverted plans pads width ((rows ++ before) ++ row ∷ []) l) (append_assoc outs made (out ∷ []))
    (next_row (rows ++ before) (outs ++ made) row out (converted_more plans pads width rows outs before made one other) few fits written))

pub rows_more : InWindows → (plans : List Plan) (how : Reading) (front more before now after : List ℕ) → EndsInBreak front → PutsRows plans how front before now
    → PutsRows plans how more now after → PutsRows plans how (front ++ more) before after
rows_more law plans how front more before now after ends one other = record {
  records = one.records ++ other.records;
  are = lines_more front more one.records other.records (lines_of law front one.records one.are ends) other.are;
  outs = one.outs ++ other.outs;
  converted = subst (λ l. AreConverted plans how.pads how.width l (one.outs ++ other.outs)) (sym (map-append _ one.records other.records))
      (converted_more plans how.pads how.width (said how.separator one.records) one.outs (said how.separator other.records) other.outs one.converted other.converted);
  have = have_more one.outs other.outs one.have other.have;
  after_is = other.after_is ∙ (ap (λ l. l ++ rows_bytes other.outs) one.after_is ∙ (append_assoc before (rows_bytes one.outs) (rows_bytes other.outs)
      ∙ ap (λ l. before ++ l) (sym (flat_map-append row_bytes one.outs other.outs))));
}

-- the same after other bytes
pub rows_after : (plans : List Plan) (how : Reading) (text before after made : List ℕ) (puts : PutsRows plans how text before after)
    → PutsRows plans how text made (made ++ rows_bytes puts.outs)
rows_after plans how text before after made puts = record {
  records = puts.records;
  are = puts.are;
  outs = puts.outs;
  converted = puts.converted;
  have = puts.have;
  after_is = refl;
}
