-- More lines of a table, read after a line of empty fields.
use Rattle.std.proofs.Common.{◌≡◌, ℕ, zero, suc, ◌+◌, ◌-◌, ◌<◌, ◌≤◌, List, [], ◌∷◌, ◌++◌, length, length-append, map, Option, None, Some, option_map, refl, sym, ap, ◌∙◌, subst, append-nil, arith}
use Rattle.std.specs.Prelude.{replicate, slice_get}
use Rattle.std.specs.List.{AllByRecursion}
use Rattle.std.proofs.lemmas.List.{length-map, map-append}
use Rattle.csv_grammar.specs.Bytes.{comma, line_feed}
use Rattle.csv_grammar.specs.Records.{Field, unquoted, lf, Line, print_record, IsField, AreRecords}
use Rattle.csv_grammar.specs.Files.{text_of, IsTable, IsUneven}
use Rattle.csv_grammar.specs.Pieces.{AreLines, InWindows}
use Rattle.csv_grammar.specs.Raw.{RawField, RawTable, raw_of, field_of}
use Rattle.csv_index.specs.Index.{IsRawTable, raw_table}
use Rattle.csv_windows.specs.declared.front.TableSize.{TableSize}
use Rattle.csv_windows.specs.Windows.{blank_line, most_bytes, with_rows, HasSize}
use Rattle.csv_windows.proofs.CountLemmas.{records-count, rows-within}

-- ---- the line of empty fields

-- its record
abbrev pub blank : ℕ → List Field
blank commas = replicate (suc commas) (unquoted [])

blank_printed : (commas : ℕ) → print_record (blank commas) ≡ replicate commas comma
blank_printed zero = refl
blank_printed (suc commas) = ap (λ l. comma ∷ l) (blank_printed commas)

blank_fields : (n : ℕ) → AllByRecursion IsField (replicate n (unquoted []))
blank_fields zero = tt
blank_fields (suc n) = (tt, blank_fields n)

blank_text : (commas : ℕ) → text_of (blank_line (suc commas)) ≡ blank_line (suc commas)
blank_text zero = refl
blank_text (suc commas) = refl

pub length-blank : (n : ℕ) → length {A = Field} (replicate n (unquoted [])) ≡ n
length-blank zero = refl
length-blank (suc n) = ap suc (length-blank n)

pub blank_lines : (commas : ℕ) → AreLines (text_of (blank_line (suc commas))) (blank commas ∷ [])
blank_lines commas = subst (λ w. AreLines w (blank commas ∷ [])) (sym (blank_text commas)) (record {
  lines = record { fields = blank commas; end = lf } ∷ [];
  valid = ((omega (arith, length-blank (suc commas)), blank_fields (suc commas)), tt);
  printed = sym (append-nil (print_record (blank commas) ++ line_feed ∷ []) ∙ ap (λ l. l ++ line_feed ∷ []) (blank_printed commas));
  are = refl;
})

-- ---- the fields as they stand

fields_joined : (rows more : List (List RawField)) → map (map field_of) (rows ++ more) ≡ map (map field_of) rows ++ map (map field_of) more
fields_joined rows more = map-append (map field_of) rows more

header_of : (a b : RawTable) → a ≡ b → a.header ≡ b.header
header_of a b e = ap (λ (t : RawTable). t.header) e

rows_of : (a b : RawTable) → a ≡ b → a.rows ≡ b.rows
rows_of a b e = ap (λ (t : RawTable). t.rows) e

pub raw_joined : (bytes front window : List ℕ) (raw file : RawTable) → IsRawTable front raw → IsRawTable window file
    → IsTable bytes (map field_of raw.header) (map (map field_of) raw.rows ++ map (map field_of) file.rows) → IsRawTable bytes (with_rows raw file.rows)
raw_joined bytes front window raw file first next table = record {
  is = subst (IsTable bytes (map field_of raw.header)) (sym (fields_joined raw.rows file.rows)) table;
  stands =
      ap (λ h. record { header = h; rows = raw.rows ++ file.rows }) (header_of raw _ first.stands)
      ∙ ap (λ rs. record { header = map raw_of (map field_of raw.header); rows = rs })
      (ap (λ rs. rs ++ file.rows) (rows_of raw _ first.stands) ∙ (ap (λ rs. map (map raw_of) (map (map field_of) raw.rows) ++ rs) (rows_of file _ next.stands)
      ∙ (sym (map-append (map raw_of) (map (map field_of) raw.rows) (map (map field_of) file.rows)) ∙ ap (map (map raw_of)) (sym (fields_joined raw.rows file.rows)))));
}

-- ---- the first lines of a file

header_some : (bytes : List ℕ) (header : List Field) (rows : List (List Field)) → AreLines bytes (header ∷ rows) → 0 < length header
header_some bytes header rows are = on are.lines are.valid are.are
  where
    on : (lines : List Line) → AllByRecursion (λ (line : Line). (0 < length line.fields) × AllByRecursion IsField line.fields) lines
        → header ∷ rows ≡ map (λ (line : Line). line.fields) lines → 0 < length header
    on [] valid is = cc
    on (line ∷ lines) valid is = let same : header ≡ line.fields = cc in subst (λ h. 0 < length h) (sym same) valid.0.0

pub front_lines : InWindows → (front : List ℕ) (raw : RawTable) → IsRawTable front raw → slice_get front (length front - 1) ≡ Some line_feed
    → AreLines (text_of front) (map field_of raw.header ∷ map (map field_of) raw.rows)
front_lines laws front raw is feed = laws.lines front _ is.is.are feed

-- a line of as many fields as the header has
pub record HasBlank (raw : RawTable) (commas : ℕ) : Type 0 where
  pub is : length raw.header ≡ suc commas
  pub wide : length (blank commas) ≡ length (map field_of raw.header)

pub has_blank : InWindows → (front : List ℕ) (raw : RawTable) → IsRawTable front raw → slice_get front (length front - 1) ≡ Some line_feed
    → HasBlank raw (length raw.header - 1)
has_blank laws front raw is feed =
    let some = header_some (text_of front) (map field_of raw.header) (map (map field_of) raw.rows) (front_lines laws front raw is feed) in
    let size : length raw.header ≡ suc (length raw.header - 1) = omega (arith, some, length-map raw.header field_of) in record {
      is = size;
      wide = length-blank (suc (length raw.header - 1)) ∙ (sym size ∙ sym (length-map raw.header field_of));
    }

-- ---- what a window says

-- a table
pub record JoinsTable (front piece : List ℕ) (raw file : RawTable) : Type 0 where
  pub width : length file.header ≡ length raw.header
  pub is : IsRawTable (front ++ piece) (with_rows raw file.rows)

pub table_joined : InWindows → (front piece : List ℕ) (raw file : RawTable) → IsRawTable front raw → slice_get front (length front - 1) ≡ Some line_feed
    → IsRawTable (blank_line (length raw.header) ++ piece) file → JoinsTable front piece raw file
table_joined laws front piece raw file is feed next =
    let commas = length raw.header - 1 in
    let b = has_blank laws front raw is feed in
    let there : IsRawTable (blank_line (suc commas) ++ piece) file = subst (λ n. IsRawTable (blank_line n ++ piece) file) b.is next in
    let both = laws.table front (blank_line (suc commas)) piece (map field_of raw.header) (blank commas) (map field_of file.header) (map (map field_of) raw.rows) (map (map field_of) file.rows)
    (front_lines laws front raw is feed) (blank_lines commas) b.wide is.is there.is in record {
      width = sym (length-map file.header field_of) ∙ (ap length both.0 ∙ (b.wide ∙ length-map raw.header field_of));
      is = raw_joined (front ++ piece) front (blank_line (suc commas) ++ piece) raw file is there both.1;
    }

-- a row of another width
pub uneven_joined : InWindows → (front piece : List ℕ) (raw : RawTable) (row : ℕ) → IsRawTable front raw → slice_get front (length front - 1) ≡ Some line_feed
    → IsUneven (blank_line (length raw.header) ++ piece) row → IsUneven (front ++ piece) (length raw.rows + row)
uneven_joined laws front piece raw row is feed bad =
    let commas = length raw.header - 1 in
    let b = has_blank laws front raw is feed in
    subst (λ n. IsUneven (front ++ piece) (n + row)) (length-map raw.rows (map field_of))
    (laws.uneven front (blank_line (suc commas)) piece (map field_of raw.header) (blank commas) (map (map field_of) raw.rows) row (front_lines laws front raw is feed) (blank_lines commas)
    b.wide is.is (subst (λ n. IsUneven (blank_line n ++ piece) row) b.is bad))

-- no row is past the end of the file
pub uneven_within : (bytes : List ℕ) (row : ℕ) → IsUneven bytes row → row < length bytes
uneven_within bytes row bad = omega (arith, within bad.rows row bad.first.width bad.first.found, records-count bytes bad.header bad.rows bad.are)
  where
    within : (rows : List (List Field)) (k width : ℕ) → option_map length (slice_get rows k) ≡ Some width → k < length rows
    within [] k width is = cc
    within (r ∷ rs) zero width is = omega arith
    within (r ∷ rs) (suc k) width is = omega (arith, within rs k width is)

-- the size of both
pub more_sized : (raw : RawTable) (size : TableSize) (rows : List (List RawField)) → HasSize raw size
    → HasSize (with_rows raw rows) (record { width = size.width; rows = size.rows + length rows })
more_sized raw size rows sized = record { width = sized.width; rows = omega (arith, sized.rows, length-append raw.rows rows) }

pub sized_line : (piece : List ℕ) (raw : RawTable) (size : TableSize) (file : RawTable) → HasSize raw size → IsRawTable (blank_line size.width ++ piece) file
    → IsRawTable (blank_line (length raw.header) ++ piece) file
sized_line piece raw size file sized is = subst (λ n. IsRawTable (blank_line n ++ piece) file) sized.width is

-- both are a table
pub tables_follow : InWindows → (front piece : List ℕ) (size : TableSize) (file : RawTable) (raw : RawTable) → IsRawTable front raw → HasSize raw size
    → slice_get front (length front - 1) ≡ Some line_feed → IsRawTable (blank_line size.width ++ piece) file → JoinsTable front piece raw file
tables_follow laws front piece size file raw is sized feed next = table_joined laws front piece raw file is feed (sized_line piece raw size file sized next)

-- which has few rows
pub rows_few : (front piece : List ℕ) (raw file : RawTable) (size : TableSize) → JoinsTable front piece raw file → HasSize raw size → length front + length piece ≤ most_bytes
    → size.rows + length file.rows ≤ most_bytes
rows_few front piece raw file size joined sized short =
    omega (arith, rows-within (front ++ piece) (with_rows raw file.rows) joined.is, length-append raw.rows file.rows, length-append front piece, sized.rows, short)
