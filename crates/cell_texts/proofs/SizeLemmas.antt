-- Sizes of rows, value by value and column by column.
use Rattle.std.proofs.Common.{◌≡◌, ℕ, ◌+◌, ◌^◌, ◌<◌, ◌≤◌, Bool, true, false, not, List, [], ◌∷◌, ◌++◌, Some, drop, get_or, length, map, refl, replicate, take, ap, sym, ◌∙◌, arith, length-append}
use Rattle.std.specs.Prelude.{slice_get}
use Rattle.std.specs.List.{All, flat_map, list_any}
use Rattle.std.proofs.lemmas.List.{get_or-drop, get_or-map, get_or-replicate, get_or-take, get_or_default, length-drop, length-map, length-replicate, length-take, take_all, take_more}
use Rattle.std.proofs.lemmas.List.Folds.{Any-from_list_any, list_any_at}
use Rattle.std.proofs.lemmas.Option.{get_or_from_slice_get, slice_get-get_or, same_Some}
use Rattle.cell_types.specs.Value.{CellValue, null, text as text_cell}
use Rattle.reply_values.specs.Printed.{is_plain_text, needs_more, printed_text, printed_value}
use Rattle.reply_values.specs.Size.{told}
use Rattle.value_rows.specs.Packed.{HaveText, IsTextWithin}

-- sizes that begin with what a row takes without its values
pub filled : (sizes : List ℕ) (count frame k : ℕ) → sizes ≡ replicate count frame → k < length sizes → frame < 2 ^ 64 → get_or sizes k 0 ≡ told (frame + 0)
filled sizes count frame k is inside fits =
    omega (arith, ap (λ l. get_or l k 0) is, get_or-replicate count k frame 0 (omega (arith, inside, ap length is, length-replicate count frame)), fits)

flat_push : {X : Type 0} (f : X → List ℕ) (xs : List X) (x : X) → length (flat_map f (xs ++ x ∷ [])) ≡ length (flat_map f xs) + length (f x)
flat_push f [] x = omega (arith, length-append (f x) [])
flat_push f (first ∷ xs) x =
    omega (arith, length-append (f first) (flat_map f (xs ++ x ∷ [])), length-append (f first) (flat_map f xs), flat_push f xs x)

one_longer : (f : CellValue → List ℕ) (values : List CellValue) (value : CellValue) (col : ℕ) → col < length values → get_or values col null ≡ value
    → length (flat_map f (take (col + 1) values)) ≡ length (flat_map f (take col values)) + length (f value)
one_longer f values value col within is =
    ap (λ l. length (flat_map f l)) (take_more values col null within) ∙ flat_push f (take col values) (get_or values col null)
    ∙ ap (λ v. length (flat_map f (take col values)) + length (f v)) is

-- one value more
pub value_more : (f : CellValue → List ℕ) (values : List CellValue) (value : CellValue) (start col size after : ℕ) → col < length values → get_or values col null ≡ value
    → size ≡ told (start + length (flat_map f (take col values))) → after ≡ told (size + length (f value)) → after ≡ told (start + length (flat_map f (take (col + 1) values)))
value_more f values value start col size after within is so_far after_is = omega (arith, one_longer f values value col within is, so_far, after_is)

-- all of them
pub every_value : (f : CellValue → List ℕ) (values : List CellValue) (start col size : ℕ) → length values ≤ col → size ≡ told (start + length (flat_map f (take col values)))
    → size ≡ told (start + length (flat_map f values))
every_value f values start col size past is = is ∙ ap (λ l. told (start + length (flat_map f l))) (take_all col values past)

-- the same of numbers of bytes that values do not pass
pub room_more : (f : CellValue → List ℕ) (values : List CellValue) (value : CellValue) (start col size room after : ℕ) → col < length values → get_or values col null ≡ value
    → told (start + length (flat_map f (take col values))) ≤ size → told (length (f value)) ≤ room → after ≡ told (size + room)
    → told (start + length (flat_map f (take (col + 1) values))) ≤ after
room_more f values value start col size room after within is so_far fits after_is =
    omega (arith, one_longer f values value col within is, so_far, fits, after_is)

-- a row that is lent
pub row_lent : (rows : List (List CellValue)) (row : ℕ) (lent : List CellValue) → row < length rows → slice_get rows row ≡ Some lent → get_or rows row [] ≡ lent
row_lent rows row lent within there = same_Some (get_or rows row []) lent (sym (slice_get-get_or rows row [] within) ∙ there)

-- the value that is read from it
pub value_lent : (rows : List (List CellValue)) (row col : ℕ) (lent : List CellValue) (value : CellValue) → row < length rows → slice_get rows row ≡ Some lent → slice_get lent col ≡ Some value
    → get_or (get_or rows row []) col null ≡ value
value_lent rows row col lent value within there is =
    ap (λ l. get_or l col null) (row_lent rows row lent within there) ∙ get_or_from_slice_get lent col value null is

-- a cell of a column of some of the rows
pub cell_of_few : (rows : List (List CellValue)) (first count col i : ℕ) → i < count → first + count ≤ length rows
    → get_or (map (λ row. get_or row col null) (take count (drop first rows))) i null ≡ get_or (get_or rows (first + i) []) col null
cell_of_few rows first count col i less within =
    let few = take count (drop first rows) in
    let long : i < length few = omega (arith, less, within, length-take count (drop first rows), length-drop first rows) in
    get_or-map (λ row. get_or row col null) few i [] null long
    ∙ ap (λ (row : List CellValue). get_or row col null) (get_or-take count (drop first rows) i [] less ∙ get_or-drop first rows i [])

-- and how many they are
pub few_long : (rows : List (List CellValue)) (first count col : ℕ) → first + count ≤ length rows → length (map (λ row. get_or row col null) (take count (drop first rows))) ≡ count
few_long rows first count col within =
    omega (arith, within, length-map (take count (drop first rows)) (λ (row : List CellValue). get_or row col null), length-take count (drop first rows), length-drop first rows)

-- each of them has a value in each column
pub few_wide : (rows : List (List CellValue)) (first count width col : ℕ) → first + count ≤ length rows → col < width → All (λ (row : List CellValue). length row ≡ width) rows
    → (row : ℕ) → row < length (take count (drop first rows)) → col < length (get_or (take count (drop first rows)) row [])
few_wide rows first count width col within less wide row inside =
    let long : row < count = omega (arith, inside, length-take count (drop first rows)) in
    let at : get_or (take count (drop first rows)) row [] ≡ get_or rows (first + row) [] = get_or-take count (drop first rows) row [] long ∙ get_or-drop first rows row [] in
    omega (arith, ap (λ (r : List CellValue). length r) at, wide (first + row) [] (omega (arith, within, long)), less)

-- ---- texts each byte of which stands for itself

-- a text that such bytes have
pub part_plain : (json : Bool) (bytes t : List ℕ) → HaveText bytes t → is_plain_text json bytes ≡ true → is_plain_text json t ≡ true
part_plain json bytes t have plain = by (list_any (needs_more json) t) refl
  where
    by : (b : Bool) → list_any (needs_more json) t ≡ b → not b ≡ true
    by false e = refl
    by true e =
        let found = Any-from_list_any (needs_more json) t e in
        let there : needs_more json (get_or bytes (have.place + found.0) 0) ≡ true =
        ap (needs_more json) (have.reads found.0 found.2 ∙ get_or_default t found.0 0 found.1 found.2 ∙ found.3) ∙ found.4 in
        let no : not true ≡ true = ap not (sym (list_any_at (needs_more json) bytes (have.place + found.0) 0 (omega (arith, have.fits, found.2)) there)) ∙ plain in
        cc

-- the size of a value that is such a text
pub value_counted : (json : Bool) (value : CellValue) (bytes : List ℕ) (old len new : ℕ) → IsTextWithin value len bytes → is_plain_text json bytes ≡ true
    → ((t : List ℕ) → len ≡ length t → is_plain_text json t ≡ true → new ≡ told (old + length (printed_text json t))) → new ≡ told (old + length (printed_value json value))
value_counted json value bytes old len new within plain counted =
    counted within.t within.long (part_plain json bytes within.t within.have plain) ∙ ap (λ v. told (old + length (printed_value json v))) (sym within.is)

-- the size of a cell whose text is that
pub cell_counted : (json : Bool) (cell : CellValue) (t : List ℕ) (old new : ℕ) → cell ≡ text_cell t → new ≡ told (old + length (printed_text json t)) → new ≡ told (old + length (printed_value json cell))
cell_counted json cell t old new is new_is = new_is ∙ ap (λ v. told (old + length (printed_value json v))) (sym is)
