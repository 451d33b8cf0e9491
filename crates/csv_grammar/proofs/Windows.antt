-- What follows the first lines of a file, read after another line, says what the whole file is.
use Rattle.std.proofs.Common.{◌≡◌, ℕ, zero, suc, ◌+◌, ◌-◌, ◌<◌, ◌≤◌, ◌⊎◌, inl, inr, List, [], ◌∷◌, ◌++◌, length, take, drop, map, ◌&&◌, Bool, true, false, if◌then◌else◌, Some, IsUtf8, get_or, nat_eq, refl, sym, ap, ◌∙◌, subst, append_assoc, append-nil, arith, length-append, length-drop}
use Rattle.std.specs.Prelude.{slice_get, option_map}
use Rattle.std.specs.List.{flat_map, starts_with, AllByRecursion}
use Rattle.std.specs.Str.{IsValidUpTo}
use Rattle.std.proofs.Math.Seq.{take-append_seam, get_or-append_seam}
use Rattle.std.proofs.lemmas.Bool.{cases_lt}
use Rattle.std.proofs.lemmas.List.{drop_at, drop-append-le, take-append-drop}
use Rattle.std.proofs.lemmas.Option.{same_Some}
use Rattle.std.proofs.lemmas.Str.{IsUtf8-append, IsUtf8-drop, IsCharBoundary-after_ascii, IsCharBoundary-from_take}
use Rattle.csv_grammar.specs.Bytes.{carriage_return, line_feed, byte_order_mark}
use Rattle.csv_grammar.specs.Records.{Field, LineBreak, crlf, lf, Line, print_record, print_line, AreRecords}
use Rattle.csv_grammar.specs.Pieces.{AreLines}
use Rattle.csv_grammar.specs.Faults.{Cause, HasFault}
use Rattle.csv_grammar.specs.Files.{mark_len, not_utf8, text_of, HasWidth, IsFileFault, IsFirstOther, IsTable, IsMalformed, IsUneven}
use Rattle.csv_grammar.proofs.Viable.{records_unique, fault_unique, records_or_stop}
use Rattle.csv_grammar.proofs.BehindLines.{records_rest}
use Rattle.csv_grammar.proofs.AfterLines.{lines_of, records_after, fault_after, front_past}
use Rattle.csv_grammar.proofs.Utf8Pieces.{valid_after, valid_up_to, not_utf8_at}

-- ---- the last byte of lines

line_last : (fields : List Field) (end : LineBreak) → (front : List ℕ) × (print_line (record { fields = fields; end = end }) ≡ front ++ line_feed ∷ [])
line_last fields crlf = (print_record fields ++ carriage_return ∷ [], sym (append_assoc (print_record fields) (carriage_return ∷ []) (line_feed ∷ [])))
line_last fields lf = (print_record fields, refl)

lines_last : (line : Line) (lines : List Line) → (front : List ℕ) × (flat_map print_line (line ∷ lines) ≡ front ++ line_feed ∷ [])
lines_last line [] = let one = line_last line.fields line.end in (one.0, append-nil (print_line line) ∙ one.1)
lines_last line (next ∷ lines) =
    let rest = lines_last next lines in
    (print_line line ++ rest.0, ap (λ w. print_line line ++ w) rest.1 ∙ sym (append_assoc (print_line line) rest.0 (line_feed ∷ [])))

-- the records of lines
abbrev fields_of : List Line → List (List Field)
fields_of lines = map (λ line. line.fields) lines

text_last : (bytes : List ℕ) (header : List Field) (rows : List (List Field)) → AreLines bytes (header ∷ rows) → (front : List ℕ) × (bytes ≡ front ++ line_feed ∷ [])
text_last bytes header rows are = on are.lines are.printed are.are
  where
    on : (lines : List Line) → bytes ≡ flat_map print_line lines → header ∷ rows ≡ fields_of lines → (front : List ℕ) × (bytes ≡ front ++ line_feed ∷ [])
    on [] printed is = cc
    on (line ∷ lines) printed is = let l = lines_last line lines in (l.0, printed ∙ l.1)

-- ---- the first lines of a file

lines_end : (head : List ℕ) (header : List Field) (rows : List (List Field)) → AreLines (text_of head) (header ∷ rows) → (front : List ℕ) × (head ≡ front ++ line_feed ∷ [])
lines_end head header rows are =
    let last = text_last (text_of head) header rows are in
    let k = mark_len head in (
      take k head ++ last.0,
      sym (take-append-drop k head) ∙ (ap (λ w. take k head ++ w) last.1 ∙ sym (append_assoc (take k head) last.0 (line_feed ∷ []))),
    )

pub starts_same : (front more : List ℕ) → starts_with nat_eq ((front ++ line_feed ∷ []) ++ more) byte_order_mark ≡ starts_with nat_eq (front ++ line_feed ∷ []) byte_order_mark
starts_same [] more = refl
starts_same (a ∷ []) more = refl
starts_same (a ∷ b ∷ []) more = refl
starts_same (a ∷ b ∷ c ∷ front) more = refl

mark_same : (head more : List ℕ) (header : List Field) (rows : List (List Field)) → AreLines (text_of head) (header ∷ rows) → mark_len (head ++ more) ≡ mark_len head
mark_same head more header rows are =
    let last = lines_end head header rows are in
    ap (λ t. if t then length byte_order_mark else 0)
    (subst (λ h. starts_with nat_eq (h ++ more) byte_order_mark ≡ starts_with nat_eq h byte_order_mark) (sym last.1) (starts_same last.0 more))

mark_within : (head : List ℕ) (header : List Field) (rows : List (List Field)) → AreLines (text_of head) (header ∷ rows) → mark_len head ≤ length head
mark_within head header rows are =
    let last = text_last (text_of head) header rows are in
    omega (arith, ap length last.1, length-append last.0 (line_feed ∷ []), length-drop (mark_len head) head)

pub text_same : (head more : List ℕ) (header : List Field) (rows : List (List Field)) → AreLines (text_of head) (header ∷ rows) → text_of (head ++ more) ≡ text_of head ++ more
text_same head more header rows are =
    ap (λ k. drop k (head ++ more)) (mark_same head more header rows are) ∙ drop-append-le (mark_len head) head more (mark_within head header rows are)

no_mark : (x y : Bool) → x && (y && false) ≡ true → ⊥
no_mark true true is = cc
no_mark true false is = cc
no_mark false y is = cc

-- the last byte of a file is that of its text
last_on : (bytes : List ℕ) (t : Bool) → starts_with nat_eq bytes byte_order_mark ≡ t → slice_get bytes (length bytes - 1) ≡ Some line_feed
    → slice_get (drop (if t then length byte_order_mark else 0) bytes) (length (drop (if t then length byte_order_mark else 0) bytes) - 1) ≡ Some line_feed
last_on bytes false e feed = feed
last_on [] true e feed = cc
last_on (a ∷ []) true e feed = absurd (no_mark (nat_eq 0xEF a) true e)
last_on (a ∷ b ∷ []) true e feed = absurd (no_mark (nat_eq 0xEF a) (nat_eq 0xBB b) e)
last_on (a ∷ b ∷ c ∷ []) true e feed =
    absurd (no_mark (nat_eq 0xEF a) (nat_eq 0xBB b) (subst (λ d. starts_with nat_eq (a ∷ b ∷ d ∷ []) byte_order_mark ≡ true) (same_Some c line_feed feed) e))
last_on (a ∷ b ∷ c ∷ d ∷ bytes) true e feed =
    let last : length (d ∷ bytes) - 1 ≡ length bytes = omega arith in
    let same : length (a ∷ b ∷ c ∷ d ∷ bytes) - 1 ≡ suc (suc (suc (length bytes))) = omega arith in
    ap (slice_get (d ∷ bytes)) last ∙ (sym (ap (slice_get (a ∷ b ∷ c ∷ d ∷ bytes)) same) ∙ feed)

pub file_lines : (bytes : List ℕ) (records : List (List Field)) → AreRecords (text_of bytes) records → slice_get bytes (length bytes - 1) ≡ Some line_feed
    → AreLines (text_of bytes) records
file_lines bytes records are feed = lines_of (text_of bytes) records are (last_on bytes (starts_with nat_eq bytes byte_order_mark) refl feed)

-- what follows lines in a file that is UTF-8 is UTF-8
rest_utf8 : (front more : List ℕ) → IsUtf8 ((front ++ line_feed ∷ []) ++ more) → IsUtf8 more
rest_utf8 front more utf8 =
    let head = front ++ line_feed ∷ [] in
    let size : length head ≡ length front + 1 = length-append front (line_feed ∷ []) in
    let whole : head ++ more ≡ front ++ line_feed ∷ more = append_assoc front (line_feed ∷ []) more in
    let byte : get_or (head ++ more) (length front) 0 ≡ line_feed = ap (λ w. get_or w (length front) 0) whole ∙ get_or-append_seam front line_feed more 0 in
    let cut = IsCharBoundary-after_ascii (head ++ more) (length front) utf8 (omega (arith, size, length-append head more)) (omega (arith, byte)) in
    subst IsUtf8 (drop_at head more (length front + 1) size) (IsUtf8-drop (head ++ more) (length front + 1) utf8 cut)

pub after_line : (line more : List ℕ) (other : List Field) → AreLines (text_of line) (other ∷ []) → IsUtf8 (line ++ more) → IsUtf8 more
after_line line more other are utf8 =
    let last = lines_end line other [] are in rest_utf8 last.0 more (subst (λ h. IsUtf8 (h ++ more)) last.1 utf8)

-- the records of what follows a line
others_of : (line more : List ℕ) (other : List Field) (others : List (List Field)) → AreLines (text_of line) (other ∷ []) → AreRecords (text_of (line ++ more)) others
    → (rest : List (List Field)) × AreRecords more rest × (others ≡ other ∷ rest)
others_of line more other others are them =
    let there = subst (λ w. AreRecords w others) (text_same line more other [] are) them in
    let rest = records_rest (text_of line) more (other ∷ []) others are there in
    (rest.0, rest.1, records_unique (text_of line ++ more) others (other ∷ rest.0) there (records_after (text_of line) more (other ∷ []) rest.0 are rest.1))

-- the records of the whole file
all_records : (front more : List ℕ) (header : List Field) (rows others : List (List Field)) → AreLines (text_of front) (header ∷ rows) → AreRecords more others
    → AreRecords (text_of (front ++ more)) (header ∷ (rows ++ others))
all_records front more header rows others are them =
    subst (λ w. AreRecords w (header ∷ (rows ++ others))) (sym (text_same front more header rows are)) (records_after (text_of front) more (header ∷ rows) others are them)

-- ---- a table in windows

widths_joined : (width : ℕ) (rows others : List (List Field)) → AllByRecursion (HasWidth width) rows → AllByRecursion (HasWidth width) others
    → AllByRecursion (HasWidth width) (rows ++ others)
widths_joined width [] others each more = more
widths_joined width (row ∷ rows) others each more = (each.0, widths_joined width rows others each.1 more)

same_first : (x y : List Field) (xs ys : List (List Field)) → x ∷ xs ≡ y ∷ ys → x ≡ y
same_first x y xs ys e = cc

same_rest : (x y : List Field) (xs ys : List (List Field)) → x ∷ xs ≡ y ∷ ys → xs ≡ ys
same_rest x y xs ys e = cc

pub table_joined : (front line more : List ℕ) (header other first : List Field) (rows others : List (List Field)) → AreLines (text_of front) (header ∷ rows)
    → AreLines (text_of line) (other ∷ []) → length other ≡ length header → IsTable front header rows → IsTable (line ++ more) first others
    → (first ≡ other) × IsTable (front ++ more) header (rows ++ others)
table_joined front line more header other first rows others are top wide before next =
    let rest = others_of line more other (first ∷ others) top next.are in
    let same : first ≡ other = same_first first other others rest.0 rest.2 in
    let tail : others ≡ rest.0 = same_rest first other others rest.0 rest.2 in
    let width : length first ≡ length header = ap length same ∙ wide in (
      same,
      record {
        utf8 = IsUtf8-append front more before.utf8 (after_line line more other top next.utf8);
        are = all_records front more header rows others are (subst (AreRecords more) (sym tail) rest.1);
        widths = widths_joined (length header) rows others before.widths (subst (λ w. AllByRecursion (HasWidth w) others) width next.widths);
      },
    )

-- ---- a fault of a window

-- the fault of what follows lines
fault_rest : (front more : List ℕ) (records : List (List Field)) (place : ℕ) (cause : Cause) → AreLines front records → HasFault (front ++ more) place cause
    → (n : ℕ) × (place ≡ length front + n) × HasFault more n cause
fault_rest front more records place cause are fault = on (records_or_stop more)
  where
    on : ((others : List (List Field)) × AreRecords more others) ⊎ ((n : ℕ) × (c : Cause) × HasFault more n c)
        → (n : ℕ) × (place ≡ length front + n) × HasFault more n cause
    on (inl (others, them)) = absurd (fault.outside (records ++ others) (records_after front more records others are them))
    on (inr (n, c, there)) =
        let same = fault_unique (front ++ more) place (length front + n) cause c fault (fault_after front more records n c are there) in
        (n, same.0, subst (HasFault more n) (sym same.1) there)

pub malformed_joined : (front line more : List ℕ) (header other : List Field) (rows : List (List Field)) (cause : Cause) (place : ℕ) → AreLines (text_of front) (header ∷ rows)
    → AreLines (text_of line) (other ∷ []) → IsUtf8 front → IsMalformed (line ++ more) cause place
    → (n : ℕ) × (place ≡ length line + n) × IsMalformed (front ++ more) cause (length front + n)
malformed_joined front line more header other rows cause place are top utf8 bad =
    let rest = fault_rest (text_of line) more (other ∷ []) bad.in_text cause top (subst (λ w. HasFault w bad.in_text cause) (text_same line more other [] top) bad.fault) in
    let there = fault_after (text_of front) more (header ∷ rows) rest.0 cause are rest.2 in
    let size : length line ≡ mark_len line + length (text_of line) = omega (arith, mark_within line other [] top, length-drop (mark_len line) line) in
    let long : length front ≡ mark_len front + length (text_of front) = omega (arith, mark_within front header rows are, length-drop (mark_len front) front) in (
      rest.0,
      omega (arith, bad.counted, rest.1, size, mark_same line more other [] top),
      record {
        utf8 = IsUtf8-append front more utf8 (after_line line more other top bad.utf8);
        in_text = length (text_of front) + rest.0;
        fault = subst (λ w. HasFault w (length (text_of front) + rest.0) cause) (sym (text_same front more header rows are)) there;
        counted = omega (arith, long, mark_same front more header rows are);
      },
    )

-- ---- a row of another width

get_behind : (rows others : List (List Field)) (k : ℕ) → slice_get (rows ++ others) (length rows + k) ≡ slice_get others k
get_behind [] others k = let e : 0 + k ≡ k = omega arith in rw e refl
get_behind (row ∷ rows) others k = let e : suc (length rows) + k ≡ suc (length rows + k) = omega arith in rw e (get_behind rows others k)

other_after : (header : List Field) (rows others : List (List Field)) (row : ℕ) → AllByRecursion (HasWidth (length header)) rows → IsFirstOther header others row
    → IsFirstOther header (rows ++ others) (length rows + row)
other_after header rows others row each first = record {
  earlier = earlier rows each;
  width = first.width;
  found = ap (option_map length) (get_behind rows others row) ∙ first.found;
  other = first.other;
}
  where
    earlier : (rs : List (List Field)) → AllByRecursion (HasWidth (length header)) rs → (k : ℕ) → k < length rs + row
        → option_map length (slice_get (rs ++ others) k) ≡ Some (length header)
    earlier [] wide k less = first.earlier k (omega arith)
    earlier (r ∷ rs) wide zero less = ap Some wide.0
    earlier (r ∷ rs) wide (suc k) less = earlier rs wide.1 k (omega arith)

pub uneven_joined : (front line more : List ℕ) (header other : List Field) (rows : List (List Field)) (row : ℕ) → AreLines (text_of front) (header ∷ rows)
    → AreLines (text_of line) (other ∷ []) → length other ≡ length header → IsTable front header rows → IsUneven (line ++ more) row
    → IsUneven (front ++ more) (length rows + row)
uneven_joined front line more header other rows row are top wide first bad =
    let rest = others_of line more other (bad.header ∷ bad.rows) top bad.are in
    let header_is : bad.header ≡ other = same_first bad.header other bad.rows rest.0 rest.2 in
    let rows_are : bad.rows ≡ rest.0 = same_rest bad.header other bad.rows rest.0 rest.2 in
    let found = subst (λ rs. IsFirstOther other rs row) rows_are (subst (λ h. IsFirstOther h bad.rows row) header_is bad.first) in record {
      utf8 = IsUtf8-append front more first.utf8 (after_line line more other top bad.utf8);
      header = header;
      rows = rows ++ rest.0;
      are = all_records front more header rows rest.0 are rest.1;
      first = other_after header rows rest.0 row first.widths (record {
        earlier = λ k less. found.earlier k less ∙ ap Some wide;
        width = found.width;
        found = found.found;
        other = λ e. found.other (e ∙ sym wide);
      });
    }

other_before : (header : List Field) (rows others : List (List Field)) (row : ℕ) → IsFirstOther header rows row → IsFirstOther header (rows ++ others) row
other_before header rows others row first = record {
  earlier = λ k less. longer rows k (length header) (first.earlier k less);
  width = first.width;
  found = longer rows row first.width first.found;
  other = first.other;
}
  where
    longer : (rs : List (List Field)) (k width : ℕ) → option_map length (slice_get rs k) ≡ Some width → option_map length (slice_get (rs ++ others) k) ≡ Some width
    longer [] k width is = cc
    longer (r ∷ rs) zero width is = is
    longer (r ∷ rs) (suc k) width is = longer rs k width is

pub uneven_stays : (front line more : List ℕ) (header other : List Field) (rows others : List (List Field)) (row : ℕ) → AreLines (text_of front) (header ∷ rows)
    → AreLines (text_of line) (other ∷ []) → IsFirstOther header rows row → IsUtf8 front → IsUtf8 (line ++ more) → AreRecords (text_of (line ++ more)) others
    → IsUneven (front ++ more) row
uneven_stays front line more header other rows others row are top first utf8 also them =
    let rest = others_of line more other others top them in record {
      utf8 = IsUtf8-append front more utf8 (after_line line more other top also);
      header = header;
      rows = rows ++ rest.0;
      are = all_records front more header rows rest.0 are rest.1;
      first = other_before header rows rest.0 row first;
    }

-- ---- bytes that are not UTF-8

valid_rest : (head more : List ℕ) (k : ℕ) → IsUtf8 head → IsValidUpTo (head ++ more) (length head + k) → IsValidUpTo more k
valid_rest head more k utf8 v =
    let whole : IsUtf8 (head ++ take k more) = subst IsUtf8 (front_past head more k) v.front in
    let cut = IsCharBoundary-from_take (head ++ take k more) (length head) whole (omega (arith, length-append head (take k more)))
    (subst IsUtf8 (sym (take-append_seam head (take k more))) utf8) in record {
      short = omega (arith, v.short, length-append head more);
      front = subst IsUtf8 (drop_at head (take k more) (length head) refl) (IsUtf8-drop (head ++ take k more) (length head) whole cut);
      longest = λ m past u. v.longest (length head + m) (omega arith) (subst IsUtf8 (sym (front_past head more m)) (IsUtf8-append head (take m more) utf8 u));
    }

pub bytes_joined : (front line more : List ℕ) (at : ℕ) → IsUtf8 front → IsUtf8 line → IsFileFault (line ++ more) (not_utf8 at)
    → (n : ℕ) × (at ≡ length line + n) × IsFileFault (front ++ more) (not_utf8 (length front + n))
bytes_joined front line more at utf8 top bad =
    let v = valid_up_to (line ++ more) at bad in
    let n = at - length line in
    let is : length line + n ≡ at = omega (arith, least v (cases_lt at (length line))) in
    let there = valid_after front more n utf8 (valid_rest line more n top (subst (IsValidUpTo (line ++ more)) (sym is) v)) in
    (n, sym is, not_utf8_at (front ++ more) (length front + n) there)
  where
    least : IsValidUpTo (line ++ more) at → (at < length line) ⊎ (length line ≤ at) → length line ≤ at
    least v (inl lt) = absurd (v.longest (length line) lt (subst IsUtf8 (sym (take-append_seam line more)) top))
    least v (inr le) = le
