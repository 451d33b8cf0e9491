-- The front of a text: the lines before its header, and its header.
use Rattle.std.proofs.Common.{◌≡◌, ◌∙◌, ℕ, zero, suc, ◌+◌, ◌-◌, ◌<◌, Bool, true, false, cond, List, [], ◌∷◌, ◌++◌, length, map, take, drop, ap, ap₂, refl, sym, subst, append_assoc, length-append, arith, inl, inr}
use Rattle.std.specs.Prelude.{◌==◌, not}
use Rattle.std.specs.List.{after_first, position_or_len}
use Rattle.std.proofs.Math.Seq.{take-append_seam}
use Rattle.std.proofs.lemmas.List.{length-map, map-append, take-map}
use Rattle.csv_grammar.specs.Bytes.{line_feed}
use Rattle.csv_grammar.specs.Records.{LineBreak, crlf, lf, print_break, print_record}
use Rattle.csv_records.specs.Exchange.{EndsRecord, exchanged}
use Rattle.csv_records.specs.Lines.{after_lines}
use Rattle.csv_records.specs.Written.{row_bytes}
use Rattle.file_convert.specs.declared.table.Reading.{Reading}
use Rattle.file_convert.specs.Pieces.{LeavesOut, PutsHeader}
use Rattle.file_convert.specs.Rows.{Plan}

abbrev is_feed : ℕ → Bool
is_feed byte = byte == line_feed

-- a text is a front of it and the rest, which comes after such a front whatever it is
record Parts (text rest : List ℕ) (Rest : List ℕ → List ℕ) : Type 0 where
  front : List ℕ
  whole : text ≡ front ++ rest
  goes : (other : List ℕ) → Rest (front ++ other) ≡ other

first_line : (text : List ℕ) → 0 < length (after_first is_feed text) → Parts text (after_first is_feed text) (after_first is_feed)
first_line [] some = absurd (omega (arith, some))
first_line (byte ∷ text) some = on (is_feed byte) refl some (λ long. first_line text long)
  where
    rest_by : Bool → List ℕ
    rest_by t = drop (cond (not t) (1 + position_or_len is_feed text) 0 + 1) (byte ∷ text)

    on : (t : Bool) → is_feed byte ≡ t → 0 < length (rest_by (is_feed byte)) → (0 < length (after_first is_feed text) → Parts text (after_first is_feed text) (after_first is_feed))
        → Parts (byte ∷ text) (rest_by (is_feed byte)) (after_first is_feed)
    on true is some more = record {
      front = byte ∷ [];
      whole = ap (λ l. byte ∷ l) (sym (ap rest_by is));
      goes = λ other. ap (λ t. drop (cond (not t) (1 + position_or_len is_feed other) 0 + 1) (byte ∷ other)) is;
    }
    on false is some more =
        let past : 1 + position_or_len is_feed text + 1 ≡ suc (position_or_len is_feed text + 1) = omega arith in
        let same : rest_by (is_feed byte) ≡ after_first is_feed text = ap rest_by is ∙ ap (λ n. drop n (byte ∷ text)) past in
        let parts = more (subst (λ l. 0 < length l) same some) in
        record {
          front = byte ∷ parts.front;
          whole = ap (λ l. byte ∷ l) parts.whole ∙ ap (λ l. byte ∷ (parts.front ++ l)) (sym same);
          goes = λ other.
              let n = position_or_len is_feed (parts.front ++ other) in
              let next : 1 + n + 1 ≡ suc (n + 1) = omega arith in
              ap (λ t. drop (cond (not t) (1 + n) 0 + 1) (byte ∷ (parts.front ++ other))) is
              ∙ (ap (λ k. drop k (byte ∷ (parts.front ++ other))) next ∙ parts.goes other);
        }

lines_before : (count : ℕ) (text : List ℕ) → 0 < length (after_lines count text) → Parts text (after_lines count text) (after_lines count)
lines_before zero text some = record { front = []; whole = refl; goes = λ other. refl }
lines_before (suc count) text some =
    let more = lines_before count (after_first is_feed text) some in
    let long : 0 < length (after_first is_feed text) =
    omega (arith, some, ap length more.whole, length-append more.front (after_lines count (after_first is_feed text))) in
    let line = first_line text long in
    record {
      front = line.front ++ more.front;
      whole = line.whole ∙ (ap (λ l. line.front ++ l) more.whole ∙ sym (append_assoc line.front more.front (after_lines count (after_first is_feed text))));
      goes = λ other. ap (λ l. after_lines count (after_first is_feed l)) (append_assoc line.front more.front other)
          ∙ (ap (after_lines count) (line.goes (more.front ++ other)) ∙ more.goes other);
    }

break_is_long : (end : LineBreak) → 0 < length (print_break end)
break_is_long crlf = omega arith
break_is_long lf = omega arith

front_is : (text front rest : List ℕ) → text ≡ front ++ rest → take (length text - length rest) text ≡ front
front_is text front rest e =
    let long : length text - length rest ≡ length front = omega (arith, ap length e, length-append front rest) in
    ap₂ take long e ∙ take-append_seam front rest

pub leaves_out : (count : ℕ) (text : List ℕ) → 0 < length (after_lines count text) → LeavesOut count (take (length text - length (after_lines count text)) text)
leaves_out count text some =
    let parts = lines_before count text some in
    subst (LeavesOut count) (sym (front_is text parts.front (after_lines count text) parts.whole)) parts.goes

-- a record that ends in a line break is the first one whatever follows
pub header_then : (plans : List Plan) (how : Reading) (width : ℕ) (text rest before after other made : List ℕ)
    → (h : PutsHeader plans how (map (exchanged how.separator) text) (map (exchanged how.separator) rest) width before after) → 0 < length rest → made ≡ []
    → PutsHeader plans how (map (exchanged how.separator) (take (length text - length rest) text ++ other)) (map (exchanged how.separator) other) width [] (made ++ row_bytes h.titles)
header_then plans how width text rest before after other made h some none = on h.first.ends
  where
    ex : ℕ → ℕ
    ex byte = exchanged how.separator byte

    front : List ℕ
    front = take (length text - length rest) text

    on : EndsRecord h.first.after (map ex rest) → PutsHeader plans how (map ex (front ++ other)) (map ex other) width [] (made ++ row_bytes h.titles)
    on (inr (e, nothing)) = absurd (omega (arith, some, ap length nothing, length-map rest ex))
    on (inl (end, e)) =
        let line : List ℕ = print_record h.first.fields ++ print_break end in
        let whole : map ex text ≡ line ++ map ex rest =
        h.first.printed ∙ (ap (λ l. print_record h.first.fields ++ l) e ∙ sym (append_assoc (print_record h.first.fields) (print_break end) (map ex rest))) in
        let short : length text - length rest ≡ length (map ex text) - length (map ex rest) = omega (arith, length-map text ex, length-map rest ex) in
        let front_line : map ex front ≡ line =
        sym (take-map ex (length text - length rest) text) ∙ (ap (λ n. take n (map ex text)) short ∙ front_is (map ex text) line (map ex rest) whole) in
        let all : map ex (front ++ other) ≡ line ++ map ex other = map-append ex front other ∙ ap (λ l. l ++ map ex other) front_line in
        record {
          header = h.header;
          titles = h.titles;
          long = omega (arith, ap length all, length-append line (map ex other), length-append (print_record h.first.fields) (print_break end), break_is_long end);
          first = record {
            fields = h.first.fields;
            is = h.first.is;
            cells_are = h.first.cells_are;
            after = print_break end ++ map ex other;
            printed = all ∙ append_assoc (print_record h.first.fields) (print_break end) (map ex other);
            ends = inl (end, refl);
          };
          width_is = h.width_is;
          named = h.named;
          titled = h.titled;
          some = h.some;
          after_is = ap (λ l. l ++ row_bytes h.titles) none;
        }
