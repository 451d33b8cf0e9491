-- Rows that are written are read back.
use Rattle.std.proofs.Common.{◌≡◌, ◌∙◌, ℕ, Bool, true, false, List, [], ◌∷◌, ◌++◌, map, ap, refl, sym, append-nil, arith}
use Rattle.std.specs.Prelude.{if◌then◌else◌, IsTrue, not, ◌||◌, None}
use Rattle.std.specs.List.{flat_map, list_any, AllByRecursion}
use Rattle.std.proofs.lemmas.Bool.{false≢true}
use Rattle.std.proofs.lemmas.List.{length-map}
use Rattle.csv_grammar.specs.Bytes.{comma}
use Rattle.csv_grammar.specs.Records.{unquoted, quoted, IsField, IsRecord, Line, lf, content, is_plain, print_field, print_line, print_record}
use Rattle.csv_records.specs.Written.{AreRows, HaveCells, field_for, is_special, row_bytes, rows_bytes}

-- the fields of a record after its first one
abbrev pub next_fields : List (List ℕ) → List ℕ
next_fields cells = flat_map (λ cell. comma ∷ print_field (field_for cell)) cells

pub first_and_next : (cell : List ℕ) (cells : List (List ℕ)) → print_record (map field_for (cell ∷ cells)) ≡ print_field (field_for cell) ++ next_fields cells
first_and_next cell [] = sym (append-nil (print_field (field_for cell)))
first_and_next cell (next ∷ cells) = ap (λ bytes. print_field (field_for cell) ++ comma ∷ bytes) (first_and_next next cells)

or_false : (a b : Bool) → (a || b) ≡ false → (a ≡ false) × (b ≡ false)
or_false true b e = absurd (false≢true (sym e))
or_false false b e = (refl, e)

pub not_special : (t : Bool) → t ≡ false → IsTrue (not t)
not_special true e = absurd (false≢true (sym e))
not_special false e = refl

plain_bytes : (cell : List ℕ) → list_any is_special cell ≡ false → AllByRecursion (λ b. IsTrue (is_plain b)) cell
plain_bytes [] e = tt
plain_bytes (byte ∷ cell) e =
    let both : (is_special byte ≡ false) × (list_any is_special cell ≡ false) = or_false (is_special byte) (list_any is_special cell) e in
    (not_special (is_special byte) both.0, plain_bytes cell both.1)

is_field : (cell : List ℕ) (t : Bool) → list_any is_special cell ≡ t → IsField (if t then quoted cell else unquoted cell)
is_field cell true e = tt
is_field cell false e = plain_bytes cell e

pub content_is : (cell : List ℕ) (t : Bool) → content (if t then quoted cell else unquoted cell) ≡ cell
content_is cell true = refl
content_is cell false = refl

abbrev pub line_of : List (List ℕ) → Line
line_of row = record { fields = map field_for row; end = lf }

all_fields : (row : List (List ℕ)) → AllByRecursion IsField (map field_for row)
all_fields [] = tt
all_fields (cell ∷ row) = (is_field cell (list_any is_special cell) refl, all_fields row)

all_records : (rows : List (List (List ℕ))) → HaveCells rows → AllByRecursion (λ line. IsRecord line.fields) (map line_of rows)
all_records [] each = tt
all_records (row ∷ rows) each = ((omega (arith, length-map row field_for, each.0), all_fields row), all_records rows each.1)

printed_row : (row : List (List ℕ)) → row_bytes row ≡ print_line (line_of row)
unfolding row_bytes
printed_row row = refl

printed_rows : (rows : List (List (List ℕ))) → rows_bytes rows ≡ flat_map print_line (map line_of rows)
printed_rows [] = refl
printed_rows (row ∷ rows) = ap (λ bytes. row_bytes row ++ bytes) (printed_rows rows) ∙ ap (λ bytes. bytes ++ flat_map print_line (map line_of rows)) (printed_row row)

the_fields : (rows : List (List (List ℕ))) → map (map field_for) rows ≡ map (λ line. line.fields) (map line_of rows)
the_fields [] = refl
the_fields (row ∷ rows) = ap (λ more. map field_for row ∷ more) (the_fields rows)

pub are_rows : (rows : List (List (List ℕ))) → HaveCells rows → AreRows (rows_bytes rows) rows
are_rows rows each = record {
  tree = record { lines = map line_of rows; last = None };
  valid = record { lines = all_records rows each; last = tt };
  printed = printed_rows rows ∙ sym (append-nil (flat_map print_line (map line_of rows)));
  are = the_fields rows ∙ sym (append-nil (map (λ line. line.fields) (map line_of rows)));
}
