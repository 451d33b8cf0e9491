-- What is read of a window.
use Rattle.std.proofs.Common.{◌≡◌, ℕ, suc, ◌+◌, ◌-◌, ◌<◌, ◌≤◌, ◌^◌, List, [], ◌∷◌, ◌++◌, length, length-append, take, drop, inl, inr, Some, IfSome, sym, ap, ◌∙◌, subst, append_assoc, arith}
use Rattle.std.specs.Prelude.{slice_get}
use Rattle.std.proofs.lemmas.List.{length-take, take-append-drop}
use Rattle.csv_grammar.proofs.ListLaws.{slice_get-take}
use Rattle.csv_grammar.specs.Bytes.{line_feed}
use Rattle.csv_grammar.specs.Files.{IsFileFault}
use Rattle.csv_grammar.specs.Pieces.{InWindows}
use Rattle.csv_grammar.specs.Raw.{RawTable}
use Rattle.csv_index.specs.Fault.{text_cause}
use Rattle.csv_index.specs.declared.fault.TextFault.{TextFault}
use Rattle.csv_index.specs.Index.{IsRawTable}
use Rattle.csv_windows.specs.declared.front.FirstLines.{FirstLines}
use Rattle.csv_windows.specs.declared.front.FirstLines.TheVariants.{Nothing, Table, Faulty}
use Rattle.csv_windows.specs.declared.front.TableSize.{TableSize}
use Rattle.csv_windows.specs.declared.window.Front.{Front}
use Rattle.csv_windows.specs.declared.window.Piece.{Piece}
use Rattle.csv_windows.specs.declared.window.Piece.TheVariants.{Rows, Fault, Short}
use Rattle.csv_windows.specs.Breaks.{IsBreak, IsLastBreak}
use Rattle.csv_windows.specs.Windows.{blank_line, line_width, with_rows, AreFirstLines, Continues, EndsInFeed, EndSo, Follows, FollowsFault, FollowsTable, HasLines, HasSize, BeginsFile, IsBeforeWindow, IsPieceOf, IsLasting, IsSizeWith, ReadsLines, ReadsPiece}
use Rattle.csv_windows.proofs.FaultLemmas.{line_within}
use Rattle.csv_windows.proofs.TableLemmas.{more_sized, rows_few, tables_follow}

-- ---- rows

pub first_size : (bytes piece : List ℕ) (file : RawTable) (size : TableSize) → FollowsTable bytes piece Nothing file → HasSize file size
    → IsSizeWith bytes (bytes ++ piece) Nothing file size
first_size bytes piece file size f sized =
    let whole : IsRawTable (bytes ++ piece) file = subst (λ x. IsRawTable (x ++ piece) file) (sym f.follows.read) f.is in
    ((whole, sized), (file, whole, sized))

pub more_size : InWindows → (bytes piece : List ℕ) (first : TableSize) (file : RawTable) (rows : ℕ) → rows ≡ length file.rows → FollowsTable bytes piece (Table first) file
    → IsSizeWith bytes (bytes ++ piece) (Table first) file (record { width = first.width; rows = first.rows + rows })
more_size laws bytes piece first file rows count f =
    let size : TableSize = record { width = first.width; rows = first.rows + rows } in
    let both : (raw : RawTable) → HasSize raw first → HasSize (with_rows raw file.rows) size = λ raw sized.
    subst (λ n. HasSize (with_rows raw file.rows) (record { width = first.width; rows = first.rows + n })) (sym count) (more_sized raw first file.rows sized) in
    let all : Continues bytes (bytes ++ piece) (Table first) file (HasLines (Table size)) = λ raw is sized.
    let j = tables_follow laws bytes piece first file raw is sized f.follows.ends f.is in (j.width, j.is, both raw sized) in
    let k = f.follows.read in
    (all, (with_rows k.0 file.rows, (all k.0 k.1 k.2).1, both k.0 k.2))

pub rows_fit : InWindows → (bytes piece : List ℕ) (size : TableSize) (file : RawTable) → FollowsTable bytes piece (Table size) file → size.rows + length file.rows ≤ 2 ^ 31
rows_fit laws bytes piece size file f =
    let raw = f.follows.read.0 in
    let sized = f.follows.read.2 in
    rows_few bytes piece raw file size (tables_follow laws bytes piece size file raw f.follows.read.1 sized f.follows.ends f.is) sized f.follows.short

-- ---- a window

pub piece_follows : (bytes window : List ℕ) (n : ℕ) (front : Front) → IsBeforeWindow bytes window front → Follows bytes (take n window) front.lines
piece_follows bytes window n front at = record { read = at.begins.are; ends = at.begins.ends; short = omega (arith, at.short, length-take n window) }

pub rest_follows : (bytes rest : List ℕ) (front : Front) → IsBeforeWindow bytes rest front → Follows bytes rest front.lines
rest_follows bytes rest front at = record { read = at.begins.are; ends = at.begins.ends; short = at.short }

pub line_room : (bytes piece : List ℕ) (lines : FirstLines) → Follows bytes piece lines → line_width lines + length piece ≤ 2 ^ 62
line_room bytes piece lines f = omega (arith, line_within bytes lines f.read, f.short)

pub fault_follows : (bytes piece : List ℕ) (lines : FirstLines) (fault : TextFault) (items : List ℕ) (width : ℕ) → Follows bytes piece lines → items ≡ blank_line width ++ piece
    → width ≡ line_width lines → IfSome (text_cause fault) (IsFileFault items) → FollowsFault bytes piece lines fault
fault_follows bytes piece lines fault items width f is wide bad =
    record { follows = f; is = subst (λ w. IfSome (text_cause fault) (IsFileFault w)) (is ∙ ap (λ n. blank_line n ++ piece) wide) bad }

pub table_follows : (bytes piece : List ℕ) (lines : FirstLines) (file : RawTable) (items : List ℕ) (width : ℕ) → Follows bytes piece lines → items ≡ blank_line width ++ piece
    → width ≡ line_width lines → IsRawTable items file → FollowsTable bytes piece lines file
table_follows bytes piece lines file items width f is wide table =
    record { follows = f; is = subst (λ w. IsRawTable w file) (is ∙ ap (λ n. blank_line n ++ piece) wide) table }

pub cut_break : (window : List ℕ) (n : ℕ) → IsLastBreak window n → (n ≡ 0 → ⊥) → IsBreak window n
cut_break window n last some = elim last.is [ inl none ↦ absurd (some none) | inr is ↦ is ]

-- ---- the end of a window

last_byte : (front piece : List ℕ) (b : ℕ) → 0 < length piece → slice_get piece (length piece - 1) ≡ Some b → slice_get (front ++ piece) (length (front ++ piece) - 1) ≡ Some b
last_byte [] piece b some is = is
last_byte (a ∷ front) piece b some is =
    let size : length (a ∷ (front ++ piece)) - 1 ≡ suc (length (front ++ piece) - 1) = omega (arith, length-append front piece) in
    ap (slice_get (a ∷ (front ++ piece))) size ∙ last_byte front piece b some is

cut_last : (window : List ℕ) (n : ℕ) (b : ℕ) → 0 < n → n ≤ length window → slice_get window (n - 1) ≡ Some b → slice_get (take n window) (length (take n window) - 1) ≡ Some b
cut_last window n b some within is =
    let size : length (take n window) ≡ n = omega (arith, length-take n window, within) in
    ap (λ k. slice_get (take n window) (k - 1)) size ∙ (slice_get-take n window (n - 1) (omega arith) ∙ is)

pub ends_in_feed : (bytes window : List ℕ) (n : ℕ) → n ≤ length window → IsBreak window n → EndsInFeed (bytes ++ take n window)
ends_in_feed bytes window n within is =
    last_byte bytes (take n window) line_feed (omega (arith, length-take n window, is.0)) (cut_last window n line_feed is.0 within is.1)

ends_so : (bytes : List ℕ) (lines : FirstLines) → EndsInFeed bytes → EndSo bytes lines
ends_so bytes Nothing feed = tt
ends_so bytes (Table size) feed = feed
ends_so bytes (Faulty fault) feed = feed

lines_read : (bytes window : List ℕ) (n : ℕ) (new : Front) → n ≤ length window → IsBreak window n → new.len ≡ length bytes + n → AreFirstLines (bytes ++ take n window) new.lines
    → ReadsLines bytes window new
lines_read bytes window n new within is size are = record {
  taken = n;
  some = is.0;
  within = within;
  front = record {
    size = omega (arith, size, length-append bytes (take n window), length-take n window, within);
    are = are;
    ends = ends_so (bytes ++ take n window) new.lines (ends_in_feed bytes window n within is);
  };
}

pub reads_joined : (bytes window : List ℕ) (n len : ℕ) (lines : FirstLines) (piece : Piece) → n ≤ length window → IsBreak window n → len ≡ length bytes + n
    → IsPieceOf bytes (bytes ++ take n window) lines len piece → ReadsPiece bytes window lines piece
unfolding lines_read
reads_joined bytes window n len lines (Rows new file) within is size j = (lines_read bytes window n new within is (j.0 ∙ size) j.1, j.2)
reads_joined bytes window n len lines (Fault new) within is size j = (lines_read bytes window n new within is (j.0 ∙ size) j.1, j.2)
reads_joined bytes window n len lines Short within is size j = absurd j

pub reads_lasting : (bytes window : List ℕ) (n len : ℕ) (lines : FirstLines) (piece : Piece) → n ≤ length window → IsBreak window n → len ≡ length bytes + n
    → IsLasting (bytes ++ take n window) len piece → ReadsPiece bytes window lines piece
reads_lasting bytes window n len lines (Rows new file) within is size j = absurd j
reads_lasting bytes window n len lines (Fault new) within is size j = (lines_read bytes window n new within is (j.0 ∙ size) j.1, j.2)
reads_lasting bytes window n len lines Short within is size j = absurd j

-- the rest of the file follows
pub whole_file : (bytes window more : List ℕ) (n : ℕ) → (bytes ++ take n window) ++ (drop n window ++ more) ≡ (bytes ++ window) ++ more
whole_file bytes window more n =
    sym (append_assoc (bytes ++ take n window) (drop n window) more)
    ∙ ap (λ w. w ++ more) (append_assoc bytes (take n window) (drop n window) ∙ ap (λ w. bytes ++ w) (take-append-drop n window))
