-- The pieces of bodies of rows: which is at a place, and that all of them are the body.
use Rattle.std.proofs.Common.{◌≡◌, ℕ, zero, suc, ◌+◌, ◌-◌, ◌<◌, ◌≤◌, Bool, true, false, List, [], ◌∷◌, ◌++◌, codes, get_or, length, map, take, refl, sym, ap, ◌∙◌, arith, append_assoc, append-nil, length-append}
use Rattle.std.specs.Prelude.{if◌then◌else◌}
use Rattle.std.specs.List.{AllByRecursion, concat, flat_map, join_with_byte}
use Rattle.std.proofs.lemmas.List.{get_or-append_right, get_or-map, get_or_append_left, length-map, take_all, take_more}
use Rattle.std.proofs.lemmas.List.Folds.{concat-append}
use Rattle.cell_types.specs.Value.{CellValue}
use Rattle.result_rows.specs.Rows.{OrderedOf, RowsOf}
use Rattle.reply_text.specs.declared.pieces.Pieces.{Pieces}
use Rattle.reply_text.specs.declared.pieces.Pieces.TheVariants.{Rows, Bytes}
use Rattle.reply_text.specs.Csv.{csv_line, row_line}
use Rattle.reply_text.specs.Json.{comma_before, json_count, json_row}
use Rattle.reply_text.specs.Pieces.{body_pieces, body_text, byte_pieces, cursor_pieces, opening_text, printed_row, row_piece, row_pieces}
use Rattle.reply_values.specs.Printed.{json_text, printed_value}
use Rattle.reply_text.proofs.JoinLemmas.{comma_after, concat_front, flat_is_concat, join_is}

abbrev pub end_pieces : Bool → List (List ℕ)
end_pieces json = if json then codes "]}" ∷ [] else []

-- ---- which is at a place

pub rows_count : (json : Bool) (names : List (List ℕ)) (rows : List (List CellValue)) → length (row_pieces json names rows) ≡ length rows
rows_count json names [] = refl
rows_count json names (row ∷ rows) = ap suc (length-map rows (row_piece json names 1))

pub row_is_at : (json : Bool) (names : List (List ℕ)) (rows : List (List CellValue)) (n : ℕ) → n < length rows
    → get_or (row_pieces json names rows) n [] ≡ row_piece json names n (get_or rows n [])
row_is_at json names [] n inside = absurd (omega (arith, inside))
row_is_at json names (row ∷ rows) zero inside = refl
row_is_at json names (row ∷ rows) (suc n) inside = get_or-map (row_piece json names 1) rows n [] [] (omega (arith, inside)) ∙ later json
  where
    later : (json : Bool) → row_piece json names 1 (get_or rows n []) ≡ row_piece json names (suc n) (get_or rows n [])
    later true = ap (λ comma. comma ++ json_row names (get_or rows n [])) (sym (comma_after n))
    later false = refl

-- the same by the number of the piece
piece_is : (json : Bool) (rows : RowsOf) (number : ℕ) → 0 < number → get_or (body_pieces json rows) number [] ≡ get_or (row_pieces json rows.names rows.rows ++ end_pieces json) (number - 1) []
piece_is json rows zero some = absurd (omega (arith, some))
piece_is json rows (suc number) some = let same : number ≡ suc number - 1 = omega arith in ap (λ n. get_or (row_pieces json rows.names rows.rows ++ end_pieces json) n []) same

pub row_number : (json : Bool) (rows : RowsOf) (number : ℕ) → 0 < number → number - 1 < length rows.rows
    → get_or (body_pieces json rows) number [] ≡ row_piece json rows.names (number - 1) (get_or rows.rows (number - 1) [])
row_number json rows number some inside =
    let all = row_pieces json rows.names rows.rows in
    piece_is json rows number some ∙ get_or_append_left all (end_pieces json) [] (number - 1) (omega (arith, inside, rows_count json rows.names rows.rows))
    ∙ row_is_at json rows.names rows.rows (number - 1) inside

count : (json : Bool) (rows : RowsOf) → length (body_pieces json rows) ≡ suc (length rows.rows + length (end_pieces json))
count json rows = omega (arith, rows_count json rows.names rows.rows, length-append (row_pieces json rows.names rows.rows) (end_pieces json))

pub last_number : (json : Bool) (rows : RowsOf) (number : ℕ) → 0 < number → length rows.rows ≤ number - 1 → number < length (body_pieces json rows)
    → get_or (body_pieces json rows) number [] ≡ codes "]}"
last_number false rows number some past inside = absurd (omega (arith, some, past, inside, count false rows))
last_number true rows number some past inside =
    let all = row_pieces true rows.names rows.rows in
    let none : number - 1 - length rows.rows ≡ 0 = omega (arith, past, inside, count true rows) in
    piece_is true rows number some ∙ get_or-append_right all (end_pieces true) (length rows.rows) (number - 1) [] (rows_count true rows.names rows.rows) past
    ∙ ap (λ n. get_or (end_pieces true) n []) none

-- one that is neither the first nor the last is a row
pub is_row : (json : Bool) (rows : RowsOf) (number len : ℕ) → (number ≡ 0 → ⊥) → number < length (body_pieces json rows) → (number - 1 ≡ len → ⊥) → len ≡ length rows.rows → number - 1 < length rows.rows
is_row true rows number len some within other is = omega (arith, some, within, other, is, count true rows)
is_row false rows number len some within other is = omega (arith, some, within, other, is, count false rows)

-- ---- of rows that are taken in turn

-- the same rows, of which one more was taken
abbrev pub with_next : OrderedOf → OrderedOf
with_next rows = record { stored = rows.stored; rows = rows.rows; taken = rows.taken + 1 }

-- the row that was next, as it stands in the table
pub row_taken : (json : Bool) (rows new : OrderedOf) (table : RowsOf) (number place : ℕ) → rows.taken ≡ number - 1 → 0 < number → number - 1 < length rows.rows.rows
    → get_or rows.stored.rows place [] ≡ get_or rows.rows.rows rows.taken [] → new ≡ with_next rows → table ≡ new.stored → new.rows.names ≡ new.stored.names
    → get_or (body_pieces json rows.rows) number [] ≡ row_piece json table.names (number - 1) (get_or table.rows place [])
row_taken json rows new table number place taken some inside is next table_is names =
    let stands : table ≡ rows.stored = table_is ∙ ap (λ (o : OrderedOf). o.stored) next in
    let named : rows.rows.names ≡ table.names = ap (λ (o : OrderedOf). o.rows.names) (sym next) ∙ names ∙ ap (λ (r : RowsOf). r.names) (sym table_is) in
    let row : get_or rows.rows.rows (number - 1) [] ≡ get_or table.rows place [] =
    ap (λ n. get_or rows.rows.rows n []) (sym taken) ∙ sym is ∙ ap (λ (r : RowsOf). get_or r.rows place []) (sym stands) in
    row_number json rows.rows number some inside ∙ ap (row_piece json rows.rows.names (number - 1)) row ∙ ap (λ ns. row_piece json ns (number - 1) (get_or table.rows place [])) named

-- ---- none is empty

abbrev AreSome : List (List ℕ) → Type 0
AreSome pieces = AllByRecursion (λ piece. 0 < length piece) pieces

pub some_row : (json : Bool) (names : List (List ℕ)) (values : List CellValue) → 0 < length (printed_row json names values)
some_row true names values = omega arith
some_row false names values = omega (arith, length-append (join_with_byte 44 (map (printed_value false) values)) (13 ∷ 10 ∷ []))

some_piece : (json : Bool) (names : List (List ℕ)) (place : ℕ) (row : List CellValue) → 0 < length (row_piece json names place row)
some_piece json names place row = omega (arith, length-append (comma_before (if json then place else 0)) (printed_row json names row), some_row json names row)

some_later : (json : Bool) (names : List (List ℕ)) (rows : List (List CellValue)) → AreSome (map (row_piece json names 1) rows)
some_later json names [] = tt
some_later json names (row ∷ rows) = (some_piece json names 1 row, some_later json names rows)

some_rows : (json : Bool) (names : List (List ℕ)) (rows : List (List CellValue)) → AreSome (row_pieces json names rows)
some_rows json names [] = tt
some_rows json names (row ∷ rows) = (some_piece json names 0 row, some_later json names rows)

some_append : (front back : List (List ℕ)) → AreSome front → AreSome back → AreSome (front ++ back)
some_append [] back first rest = rest
some_append (piece ∷ front) back first rest = (first.0, some_append front back first.1 rest)

pub some_body : (json : Bool) (rows : RowsOf) → AreSome (body_pieces json rows)
some_body true rows = (omega arith, some_append (row_pieces true rows.names rows.rows) (end_pieces true) (some_rows true rows.names rows.rows) (omega arith, tt))
some_body false rows =
    (omega (arith, length-append (join_with_byte 44 rows.names) (13 ∷ 10 ∷ [])), some_append (row_pieces false rows.names rows.rows) [] (some_rows false rows.names rows.rows) tt)

some_bytes : (bytes : List ℕ) → AreSome (byte_pieces bytes)
some_bytes [] = tt
some_bytes (b ∷ bytes) = (omega arith, tt)

pub some_pieces : (pieces : Pieces) → AllByRecursion (λ piece. 0 < length piece) (cursor_pieces pieces)
some_pieces (Rows body) = some_body body.json body.rows.rows
some_pieces (Bytes bytes) = some_bytes bytes.items

pub opening_same : (json : Bool) (one two : RowsOf) → one.names ≡ two.names → one.count ≡ two.count → opening_text json one ≡ opening_text json two
opening_same true one two names count = ap (λ n. codes "{" ++ json_count n ++ json_text (codes "value") ++ codes ":[") count
opening_same false one two names count = ap csv_line names

-- ---- all of them

all_objects : (names : List (List ℕ)) (rows : List (List CellValue)) → concat (row_pieces true names rows) ≡ join_with_byte 44 (map (json_row names) rows)
all_objects names [] = refl
all_objects names (row ∷ rows) = ap (λ l. json_row names row ++ l) (flat_is_concat (row_piece true names 1) rows) ∙ sym (join_is (json_row names) row rows)

all_lines : (names : List (List ℕ)) (rows : List (List CellValue)) → concat (row_pieces false names rows) ≡ flat_map row_line rows
all_lines names [] = refl
all_lines names (row ∷ rows) = ap (λ l. row_line row ++ l) (flat_is_concat (row_piece false names 1) rows)

pub body_is_pieces : (json : Bool) (rows : RowsOf) → concat (body_pieces json rows) ≡ body_text json rows
body_is_pieces true rows =
    let all = row_pieces true rows.names rows.rows in
    ap (λ l. opening_text true rows ++ l) (concat-append all (end_pieces true) ∙ ap (λ l. l ++ codes "]}") (all_objects rows.names rows.rows))
    ∙ sym (append_assoc (opening_text true rows) (join_with_byte 44 (map (json_row rows.names) rows.rows)) (codes "]}"))
body_is_pieces false rows =
    ap (λ l. opening_text false rows ++ l) (ap concat (append-nil (row_pieces false rows.names rows.rows)) ∙ all_lines rows.names rows.rows)

-- ---- a body that is written until there are too many bytes

pub rows_more : (json : Bool) (names : List (List ℕ)) (rows : List (List CellValue)) (start before after : List ℕ) (n : ℕ) → before ≡ start ++ concat (take n (row_pieces json names rows))
    → n < length rows → after ≡ before ++ row_piece json names n (get_or rows n []) → after ≡ start ++ concat (take (n + 1) (row_pieces json names rows))
rows_more json names rows start before after n so_far within is =
    let more = take_more (row_pieces json names rows) n [] (omega (arith, within, rows_count json names rows)) in
    rw (more, concat-append, row_is_at json names rows n within, append-nil, ← append_assoc, ← so_far) is

pub body_whole : (json : Bool) (rows : RowsOf) (n : ℕ) → length rows.rows ≤ n → (opening_text json rows ++ concat (take n (row_pieces json rows.names rows.rows))) ++ concat (end_pieces json) ≡ body_text json rows
body_whole json rows n all =
    let every = take_all n (row_pieces json rows.names rows.rows) (omega (arith, all, rows_count json rows.names rows.rows)) in
    rw (append_assoc, every, ← concat-append) (body_is_pieces json rows)

pub body_long : (json : Bool) (rows : RowsOf) (n : ℕ) → length (opening_text json rows ++ concat (take n (row_pieces json rows.names rows.rows))) ≤ length (body_text json rows)
body_long json rows n =
    let pieces = row_pieces json rows.names rows.rows in
    omega (
      arith,
      length-append (opening_text json rows) (concat (take n pieces)),
      concat_front n pieces,
      ap length (body_is_pieces json rows),
      length-append (opening_text json rows) (concat (pieces ++ end_pieces json)),
      ap length (concat-append pieces (end_pieces json)),
      length-append (concat pieces) (concat (end_pieces json)),
    )
