-- A fault of a piece of a file, read after a line of empty fields, and what is known of the lines before it.
use Rattle.std.proofs.Common.{◌≡◌, ℕ, zero, suc, ◌+◌, ◌-◌, ◌<◌, ◌≤◌, lit<, lit≤, Bool, true, false, if◌then◌else◌, nat_eq, List, [], ◌∷◌, ◌++◌, length, length-append, map, Option, None, Some, IfSome, IsUtf8, get_or, refl, sym, ap, ◌∙◌, subst, arith}
use Rattle.std.specs.Prelude.{option_to_list, replicate, slice_get}
use Rattle.std.specs.List.{flat_map, starts_with}
use Rattle.std.proofs.lemmas.List.{length-map, length-drop}
use Rattle.std.proofs.lemmas.Str.{IsUtf8-from_ascii, IsUtf8-nil, utf8_valid_len_le}
use Rattle.csv_grammar.specs.Bytes.{byte_order_mark, comma, line_feed}
use Rattle.csv_grammar.specs.Records.{Field, Line, print_break, print_field, print_last, print_line, print_record, AreRecords}
use Rattle.csv_grammar.specs.Faults.{Cause}
use Rattle.csv_grammar.specs.Files.{FileCause, not_utf8, malformed, no_header, wrong_width, mark_len, text_of, IsFileFault, IsMalformed, IsUneven}
use Rattle.csv_grammar.specs.Pieces.{AreLines, InWindows}
use Rattle.csv_grammar.specs.Raw.{RawTable, field_of}
use Rattle.csv_index.specs.Index.{IsRawTable}
use Rattle.csv_index.specs.Fault.{text_cause}
use Rattle.csv_index.specs.declared.fault.TextFault.{TextFault}
use Rattle.csv_index.specs.declared.fault.TextFault.TheVariants.{NotUtf8, BareCr, StrayQuote, AfterQuote, Unfinished, NoHeader, Width, NoMemory}
use Rattle.csv_windows.specs.declared.front.TableSize.{TableSize}
use Rattle.csv_windows.specs.declared.front.FirstLines.{FirstLines}
use Rattle.csv_windows.specs.declared.front.FirstLines.TheVariants.{Nothing, Table, Faulty}
use Rattle.csv_windows.specs.Windows.{after_line, blank_line, line_width, malformed_in, most_bytes, moved_cause, AreFirstLines, EndSo, Follows, FollowsFault, FollowsTable, HasSize, IsLastingFault, IsOfText, IsPastLine, MayLast}
use Rattle.csv_windows.proofs.TableLemmas.{blank, blank_lines, front_lines, has_blank, uneven_joined, uneven_within}

-- ---- a fault that lasts

pub lasting_is : (bytes : List ℕ) (cause : Option FileCause) → IsLastingFault bytes cause → IfSome cause (IsFileFault bytes)
lasting_is bytes None lasts = absurd lasts
lasting_is bytes (Some (not_utf8 at)) lasts = absurd lasts
lasting_is bytes (Some (malformed cause place)) lasts = lasts.0
lasting_is bytes (Some no_header) lasts = absurd lasts
lasting_is bytes (Some (wrong_width row)) lasts = lasts

pub lasting_may : (bytes : List ℕ) (cause : Option FileCause) → IsLastingFault bytes cause → MayLast cause
lasting_may bytes None lasts = absurd lasts
lasting_may bytes (Some (not_utf8 at)) lasts = absurd lasts
lasting_may bytes (Some (malformed cause place)) lasts = lasts.1
lasting_may bytes (Some no_header) lasts = absurd lasts
lasting_may bytes (Some (wrong_width row)) lasts = tt

-- after records
pub lasts_on : InWindows → (front piece : List ℕ) (cause : Option FileCause) (records : List (List Field)) → IsLastingFault front cause
    → slice_get front (length front - 1) ≡ Some line_feed → IsUtf8 (blank_line 1 ++ piece) → AreRecords (text_of (blank_line 1 ++ piece)) records
    → IsLastingFault (front ++ piece) cause
lasts_on laws front piece None records lasts feed utf8 are = absurd lasts
lasts_on laws front piece (Some (not_utf8 at)) records lasts feed utf8 are = absurd lasts
lasts_on laws front piece (Some (malformed cause place)) records lasts feed utf8 are =
    (laws.malformed_before front (blank_line 1) piece (blank 0) cause place feed (blank_lines 0) lasts.1 lasts.0 utf8, lasts.1)
lasts_on laws front piece (Some no_header) records lasts feed utf8 are = absurd lasts
lasts_on laws front piece (Some (wrong_width row)) records lasts feed utf8 are =
    laws.uneven_before front (blank_line 1) piece lasts.header (blank 0) lasts.rows records row (laws.lines front _ lasts.are feed) (blank_lines 0) lasts.first lasts.utf8 utf8 are

pub faulty_follows : InWindows → (front piece : List ℕ) (fault : TextFault) (file : RawTable) → FollowsTable front piece (Faulty fault) file
    → IsLastingFault (front ++ piece) (text_cause fault)
faulty_follows laws front piece fault file f =
    lasts_on laws front piece (text_cause fault) _ f.follows.read f.follows.ends f.is.is.utf8 f.is.is.are

-- ---- a row of another width

pub sized_uneven : InWindows → (front piece : List ℕ) (row : ℕ) (raw : RawTable) (size : TableSize) → IsRawTable front raw → HasSize raw size
    → slice_get front (length front - 1) ≡ Some line_feed → IsUneven (blank_line size.width ++ piece) row → IsUneven (front ++ piece) (size.rows + row)
sized_uneven laws front piece row raw size is sized feed bad =
    subst (λ n. IsUneven (front ++ piece) (n + row)) (sym sized.rows)
    (uneven_joined laws front piece raw row is feed (subst (λ n. IsUneven (blank_line n ++ piece) row) sized.width bad))

pub uneven_nothing : (front piece : List ℕ) (row : ℕ) → FollowsFault front piece Nothing (Width row) → IsUneven (front ++ piece) row
uneven_nothing front piece row f = subst (λ x. IsUneven (x ++ piece) row) (sym f.follows.read) f.is

pub uneven_faulty : InWindows → (front piece : List ℕ) (row : ℕ) (fault : TextFault) → FollowsFault front piece (Faulty fault) (Width row)
    → IsLastingFault (front ++ piece) (text_cause fault)
uneven_faulty laws front piece row fault f =
    lasts_on laws front piece (text_cause fault) _ f.follows.read f.follows.ends f.is.utf8 f.is.are

-- no row is past the end
pub uneven_size : (front piece : List ℕ) (rows row : ℕ) → IsUneven (front ++ piece) (rows + row) → length front + length piece ≤ most_bytes → rows + row ≤ most_bytes
uneven_size front piece rows row bad short = omega (arith, uneven_within (front ++ piece) (rows + row) bad, length-append front piece, short)

-- ---- the line of empty fields

length-commas : (n : ℕ) → length {A = ℕ} (replicate n comma) ≡ n
length-commas zero = refl
length-commas (suc n) = ap suc (length-commas n)

pub length-line : (width : ℕ) → length (blank_line width) ≡ width
length-line zero = refl
length-line (suc commas) = omega (arith, length-append (replicate commas comma) (line_feed ∷ []), length-commas commas)

line_ascii : (commas i : ℕ) → get_or (replicate commas comma ++ line_feed ∷ []) i 0 < 128
line_ascii zero zero = lit< tt
line_ascii zero (suc i) = lit< tt
line_ascii (suc n) zero = lit< tt
line_ascii (suc n) (suc i) = line_ascii n i

line_utf8 : (width : ℕ) → IsUtf8 (blank_line width)
line_utf8 zero = IsUtf8-nil
line_utf8 (suc commas) = IsUtf8-from_ascii (blank_line (suc commas)) (line_ascii commas)

-- it is no longer than the lines
fields_within : (fields : List Field) → length fields ≤ length (print_record fields) + 1
fields_within [] = omega arith
fields_within (f ∷ []) = omega arith
fields_within (f ∷ next ∷ fields) = omega (arith, fields_within (next ∷ fields), length-append (print_field f) (comma ∷ print_record (next ∷ fields)))

header_within : (bytes : List ℕ) (header : List Field) (rows : List (List Field)) → AreRecords bytes (header ∷ rows) → length header ≤ length bytes + 1
header_within bytes header rows are = on are.tree.lines are.tree.last are.printed are.are
  where
    on : (lines : List Line) (last : Option (List Field)) → bytes ≡ flat_map print_line lines ++ print_last last
        → header ∷ rows ≡ map (λ (line : Line). line.fields) lines ++ option_to_list last → length header ≤ length bytes + 1
    on [] None printed is = cc
    on [] (Some fields) printed is = let same : header ≡ fields = cc in omega (arith, fields_within fields, ap length printed, ap length same)
    on (line ∷ lines) last printed is =
        let same : header ≡ line.fields = cc in
        omega (
          arith,
          fields_within line.fields,
          ap length printed,
          ap length same,
          length-append (flat_map print_line (line ∷ lines)) (print_last last),
          length-append (print_line line) (flat_map print_line lines),
          length-append (print_record line.fields) (print_break line.end),
        )

raw_within : (front : List ℕ) (raw : RawTable) (size : TableSize) → IsRawTable front raw → HasSize raw size → size.width ≤ length front + 1
raw_within front raw size is sized =
    omega (arith, header_within (text_of front) (map field_of raw.header) (map (map field_of) raw.rows) is.is.are, length-map raw.header field_of, sized.width, length-drop (mark_len front) front)

pub line_within : (front : List ℕ) (lines : FirstLines) → AreFirstLines front lines → line_width lines ≤ length front + 1
line_within front Nothing is = omega arith
line_within front (Table size) is = raw_within front is.0 size is.1 is.2
line_within front (Faulty fault) is = omega arith

-- ---- a fault that is moved

lasting_utf8 : (bytes : List ℕ) (cause : Option FileCause) → IsLastingFault bytes cause → IsUtf8 bytes
lasting_utf8 bytes None lasts = absurd lasts
lasting_utf8 bytes (Some (not_utf8 at)) lasts = absurd lasts
lasting_utf8 bytes (Some (malformed cause place)) lasts = lasts.0.utf8
lasting_utf8 bytes (Some no_header) lasts = absurd lasts
lasting_utf8 bytes (Some (wrong_width row)) lasts = lasts.utf8

lines_utf8 : (front : List ℕ) (lines : FirstLines) → AreFirstLines front lines → IsUtf8 front
lines_utf8 front Nothing is = subst IsUtf8 (sym is) IsUtf8-nil
lines_utf8 front (Table size) is = is.1.is.utf8
lines_utf8 front (Faulty fault) is = lasting_utf8 front (text_cause fault) is

-- it is past the line, and that of the whole file is known
pub record IsMoved (front piece : List ℕ) (width : ℕ) (cause : Option FileCause) : Type 0 where
  pub past : IsPastLine width cause
  pub is : IfSome (moved_cause width (length front) cause) (IsFileFault (front ++ piece))

pub moved_bytes : InWindows → (front piece : List ℕ) (lines : FirstLines) (at : ℕ) → FollowsFault front piece lines (NotUtf8 at)
    → IsMoved front piece (line_width lines) (Some (not_utf8 at))
moved_bytes laws front piece lines at f =
    let width = line_width lines in
    let found = laws.bytes front (blank_line width) piece at (lines_utf8 front lines f.follows.read) (line_utf8 width) f.is in
    let n : found.0 ≡ at - width = omega (arith, found.1, length-line width) in record {
      past = (
        omega (arith, found.1, length-line width),
        omega (arith, f.is.1, utf8_valid_len_le (blank_line width ++ piece), length-append (blank_line width) piece, length-line width, line_within front lines f.follows.read, f.follows.short),
      );
      is = subst (λ k. IsFileFault (front ++ piece) (not_utf8 (length front + k))) n found.2;
    }

-- lines of as many fields come before the line
record IsAfterLines (front : List ℕ) (width : ℕ) : Type 0 where
  header : List Field
  rows : List (List Field)
  are : AreLines (text_of front) (header ∷ rows)
  utf8 : IsUtf8 front
  commas : ℕ
  is : width ≡ suc commas

raw_lines : InWindows → (front : List ℕ) (raw : RawTable) (size : TableSize) → IsRawTable front raw → HasSize raw size → slice_get front (length front - 1) ≡ Some line_feed
    → IsAfterLines front size.width
raw_lines laws front raw size is sized feed = record {
  header = map field_of raw.header;
  rows = map (map field_of) raw.rows;
  are = front_lines laws front raw is feed;
  utf8 = is.is.utf8;
  commas = length raw.header - 1;
  is = sized.width ∙ (has_blank laws front raw is feed).is;
}

uneven_lines : InWindows → (front : List ℕ) (row : ℕ) → IsUneven front row → slice_get front (length front - 1) ≡ Some line_feed → IsAfterLines front 1
uneven_lines laws front row bad feed =
    record { header = bad.header; rows = bad.rows; are = laws.lines front _ bad.are feed; utf8 = bad.utf8; commas = 0; is = refl }

mark_small : (bytes : List ℕ) → mark_len bytes ≤ 3
mark_small bytes = on (starts_with nat_eq bytes byte_order_mark)
  where
    on : (b : Bool) → (if b then length byte_order_mark else 0) ≤ 3
    on true = lit≤ tt
    on false = lit≤ tt

place_small : (bytes : List ℕ) (cause : Cause) (place : ℕ) → IsMalformed bytes cause place → place ≤ length bytes + 3
place_small bytes cause place bad = omega (arith, bad.counted, bad.fault.within, length-drop (mark_len bytes) bytes, mark_small bytes)

-- a text that begins is not without records
no_records : (b : ℕ) (bytes : List ℕ) → AreRecords (b ∷ bytes) [] → ⊥
no_records b bytes are = on are.tree.lines are.tree.last are.printed are.are
  where
    on : (lines : List Line) (last : Option (List Field)) → b ∷ bytes ≡ flat_map print_line lines ++ print_last last
        → [] ≡ map (λ (line : Line). line.fields) lines ++ option_to_list last → ⊥
    on [] None printed is = cc
    on [] (Some fields) printed is = cc
    on (line ∷ lines) last printed is = cc

line_has_records : (commas : ℕ) (piece : List ℕ) → AreRecords (text_of (blank_line (suc commas) ++ piece)) [] → ⊥
line_has_records zero piece are = no_records line_feed piece are
line_has_records (suc commas) piece are = no_records comma ((replicate commas comma ++ line_feed ∷ []) ++ piece) are

moved_after : InWindows → (front piece : List ℕ) (width : ℕ) (cause : Option FileCause) → IsAfterLines front width → width ≤ length front + 1
    → length front + length piece ≤ most_bytes → IsOfText cause → IfSome cause (IsFileFault (blank_line width ++ piece)) → IsMoved front piece width cause
moved_after laws front piece width None lines few short text bad = absurd text
moved_after laws front piece width (Some (not_utf8 at)) lines few short text bad = absurd text
moved_after laws front piece width (Some (malformed cause place)) lines few short text bad =
    let commas = lines.commas in
    let here : IsMalformed (blank_line (suc commas) ++ piece) cause place = subst (λ n. IsMalformed (blank_line n ++ piece) cause place) lines.is bad in
    let found = laws.malformed front (blank_line (suc commas)) piece lines.header (blank commas) lines.rows cause place lines.are (blank_lines commas) lines.utf8 here in
    let n : found.0 ≡ place - width = omega (arith, found.1, length-line (suc commas), lines.is) in record {
      past = (
        omega (arith, found.1, length-line (suc commas), lines.is),
        omega (arith, place_small (blank_line width ++ piece) cause place bad, length-append (blank_line width) piece, length-line width, few, short),
      );
      is = subst (λ k. IsMalformed (front ++ piece) cause (length front + k)) n found.2;
    }
moved_after laws front piece width (Some no_header) lines few short text bad =
    absurd (line_has_records lines.commas piece (subst (λ n. AreRecords (text_of (blank_line n ++ piece)) []) lines.is bad.1))
moved_after laws front piece width (Some (wrong_width row)) lines few short text bad = absurd text

moved_first : (front piece : List ℕ) (cause : Option FileCause) → front ≡ [] → length front + length piece ≤ most_bytes → IsOfText cause → IfSome cause (IsFileFault piece)
    → IsMoved front piece 0 cause
moved_first front piece None none short text bad = absurd text
moved_first front piece (Some (not_utf8 at)) none short text bad = absurd text
moved_first front piece (Some (malformed cause place)) none short text bad =
    let e : place ≡ length front + (place - 0) = omega (arith, ap length none) in record {
      past = (omega arith, omega (arith, place_small piece cause place bad, short));
      is = subst (IsMalformed (front ++ piece) cause) e (subst (λ x. IsMalformed (x ++ piece) cause place) (sym none) bad);
    }
moved_first front piece (Some no_header) none short text bad =
    record { past = tt; is = subst (λ x. IsUtf8 (x ++ piece) × AreRecords (text_of (x ++ piece)) []) (sym none) bad }
moved_first front piece (Some (wrong_width row)) none short text bad = absurd text

pub moved_text : InWindows → (front piece : List ℕ) (lines : FirstLines) (fault : TextFault) → FollowsFault front piece lines fault
    → malformed_in lines ≡ None → IsOfText (text_cause fault) → IsMoved front piece (line_width lines) (text_cause fault)
moved_text laws front piece Nothing fault f none text = moved_first front piece (text_cause fault) f.follows.read f.follows.short text f.is
moved_text laws front piece (Table size) fault f none text =
    let k = f.follows.read in
    moved_after laws front piece size.width (text_cause fault) (raw_lines laws front k.0 size k.1 k.2 f.follows.ends) (raw_within front k.0 size k.1 k.2) f.follows.short text f.is
moved_text laws front piece (Faulty (Width row)) fault f none text =
    moved_after laws front piece 1 (text_cause fault) (uneven_lines laws front row f.follows.read f.follows.ends) (omega arith) f.follows.short text f.is
moved_text laws front piece (Faulty (NotUtf8 at)) fault f none text = absurd f.follows.read
moved_text laws front piece (Faulty (BareCr at)) fault f none text = cc
moved_text laws front piece (Faulty (StrayQuote at)) fault f none text = cc
moved_text laws front piece (Faulty (AfterQuote at)) fault f none text = cc
moved_text laws front piece (Faulty (Unfinished at)) fault f none text = cc
moved_text laws front piece (Faulty NoHeader) fault f none text = absurd f.follows.read
moved_text laws front piece (Faulty NoMemory) fault f none text = absurd f.follows.read

pub moved_may : (line front : ℕ) (cause : Option FileCause) → MayLast cause → MayLast (moved_cause line front cause)
moved_may line front None may = tt
moved_may line front (Some (not_utf8 at)) may = tt
moved_may line front (Some (malformed cause place)) may = may
moved_may line front (Some no_header) may = may
moved_may line front (Some (wrong_width row)) may = tt

-- ---- a text that is lines to be no records

text_utf8 : (bytes : List ℕ) (cause : Option FileCause) → IsOfText cause → IfSome cause (IsFileFault bytes) → IsUtf8 bytes
text_utf8 bytes None text bad = absurd text
text_utf8 bytes (Some (not_utf8 at)) text bad = absurd text
text_utf8 bytes (Some (malformed cause place)) text bad = bad.utf8
text_utf8 bytes (Some no_header) text bad = bad.0
text_utf8 bytes (Some (wrong_width row)) text bad = absurd text

malformed_stays : InWindows → (front piece : List ℕ) (lines : FirstLines) (fault : TextFault) (cause : Cause) (place : ℕ)
    → FollowsFault front piece lines fault → line_width lines ≡ 1 → slice_get front (length front - 1) ≡ Some line_feed → IsOfText (text_cause fault)
    → IsLastingFault front (Some (malformed cause place)) → IsLastingFault (front ++ piece) (Some (malformed cause place))
malformed_stays laws front piece lines fault cause place f one feed text lasts =
    let utf8 : IsUtf8 (blank_line 1 ++ piece) = subst (λ n. IsUtf8 (blank_line n ++ piece)) one (text_utf8 (after_line lines piece) (text_cause fault) text f.is) in
    (laws.malformed_before front (blank_line 1) piece (blank 0) cause place feed (blank_lines 0) lasts.1 lasts.0 utf8, lasts.1)

pub text_stays : InWindows → (front piece : List ℕ) (lines : FirstLines) (fault first : TextFault) → FollowsFault front piece lines fault
    → malformed_in lines ≡ Some first → IsOfText (text_cause fault) → IsLastingFault (front ++ piece) (text_cause first)
text_stays laws front piece Nothing fault first f is text = cc
text_stays laws front piece (Table size) fault first f is text = cc
text_stays laws front piece (Faulty (Width row)) fault first f is text = cc
text_stays laws front piece (Faulty (NotUtf8 at)) fault first f is text = absurd f.follows.read
text_stays laws front piece (Faulty NoHeader) fault first f is text = absurd f.follows.read
text_stays laws front piece (Faulty NoMemory) fault first f is text = absurd f.follows.read
text_stays laws front piece (Faulty (BareCr at)) fault first f is text =
    let same : BareCr at ≡ first = cc in
    subst (λ x. IsLastingFault (front ++ piece) (text_cause x)) same (malformed_stays laws front piece (Faulty (BareCr at)) fault _ at f refl f.follows.ends text f.follows.read)
text_stays laws front piece (Faulty (StrayQuote at)) fault first f is text =
    let same : StrayQuote at ≡ first = cc in
    subst (λ x. IsLastingFault (front ++ piece) (text_cause x)) same (malformed_stays laws front piece (Faulty (StrayQuote at)) fault _ at f refl f.follows.ends text f.follows.read)
text_stays laws front piece (Faulty (AfterQuote at)) fault first f is text =
    let same : AfterQuote at ≡ first = cc in
    subst (λ x. IsLastingFault (front ++ piece) (text_cause x)) same (malformed_stays laws front piece (Faulty (AfterQuote at)) fault _ at f refl f.follows.ends text f.follows.read)
text_stays laws front piece (Faulty (Unfinished at)) fault first f is text =
    let same : Unfinished at ≡ first = cc in
    subst (λ x. IsLastingFault (front ++ piece) (text_cause x)) same (malformed_stays laws front piece (Faulty (Unfinished at)) fault _ at f refl f.follows.ends text f.follows.read)
