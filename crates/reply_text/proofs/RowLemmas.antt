-- A row, value by value.
use Rattle.std.proofs.Common.{◌≡◌, ◌<◌, ◌≤◌, ℕ, zero, suc, ◌+◌, ◌-◌, Bool, true, false, List, [], ◌∷◌, ◌++◌, Some, Vec, codes, get_or, length, map, take, refl, sym, ap, ◌∙◌, arith, append_assoc, append-nil, length-append, tests, IsTrue}
use Rattle.std.specs.Prelude.{◌==◌, if◌then◌else◌, not, slice_get}
use Rattle.std.specs.List.{concat, flat_map, join_with_byte, zip}
use Rattle.std.proofs.lemmas.List.{get_or-map, get_or_default, length-map, length-take-le, take_all, take_more}
use Rattle.std.proofs.lemmas.Option.{get_or_from_slice_get}
use Rattle.std.proofs.lemmas.Slice.Zip.{get_or-zip, length-zip}
use Rattle.cell_types.specs.Value.{CellValue, null}
use Rattle.reply_text.specs.Json.{comma_before, json_member}
use Rattle.reply_text.specs.Pieces.{printed_row, row_piece, value_head, AreHeads}
use Rattle.reply_text.specs.RowSizes.{labels_size, IsRowFrame}
use Rattle.reply_values.specs.Printed.{json_text, printed_value}
use Rattle.reply_values.specs.Size.{told, IsWrittenAt}
use Rattle.reply_text.proofs.JoinLemmas.{comma_after, flat_is_concat, join_front, join_more, length-join}

-- ---- texts that are written one after another

pub put_then : (old mid new : List ℕ) (at between to : ℕ) (one two : List ℕ) → IsWrittenAt old mid at between one → IsWrittenAt mid new between to two → IsWrittenAt old new at to (one ++ two)
put_then old mid new at between to one two first second = record {
  long = second.long ∙ first.long;
  bytes = second.bytes ∙ ap (λ l. l ++ two) first.bytes ∙ append_assoc (take at old) one two;
  end = omega (arith, second.end, first.end, length-append one two);
}

-- ---- the parts of a row

abbrev pub members : Bool → List (List ℕ) → List CellValue → List (List ℕ)
members json names values = if json then map json_member (zip names values) else map (printed_value false) values

abbrev pub before_values : Bool → List ℕ
before_values json = if json then codes "{" else []

abbrev pub after_values : Bool → List ℕ
after_values json = if json then codes "}" else 13 ∷ 10 ∷ []

pub row_is : (json : Bool) (names : List (List ℕ)) (values : List CellValue)
    → printed_row json names values ≡ (before_values json ++ join_with_byte 44 (members json names values)) ++ after_values json
row_is true names values = refl
row_is false names values = refl

pub members_count : (json : Bool) (names : List (List ℕ)) (values : List CellValue) → (IsTrue json → length values ≡ length names) → length (members json names values) ≡ length values
members_count true names values wide = omega (arith, length-map (zip names values) json_member, length-zip names values, wide refl)
members_count false names values wide = length-map values (printed_value false)

-- where each value is written
pub row_ends : (json : Bool) (names : List (List ℕ)) (values : List CellValue) (k : ℕ) → length values ≡ length names → length names ≤ k
    → printed_row json names values ≡ (before_values json ++ join_with_byte 44 (take k (members json names values))) ++ after_values json
row_ends json names values k wide past =
    row_is json names values
    ∙ ap (λ all. (before_values json ++ join_with_byte 44 all) ++ after_values json) (sym (take_all k (members json names values) (omega (arith, members_count json names values (λ is_json. wide), wide, past))))

-- what comes before a value, as it is kept
pub head_is : {A : Type 0} (json : Bool) (names : List (List ℕ)) (heads : List (Vec ℕ A)) (col : ℕ) (head : Vec ℕ A) (bytes : List ℕ) → AreHeads json names heads → col < length names
    → head ≡ get_or heads col head → bytes ≡ head.items → bytes ≡ value_head json names col
head_is json names heads col head bytes are inside is kept =
    kept ∙ ap (λ h. h.items) is ∙ sym (get_or-map (λ h. h.items) heads col head [] (omega (arith, are.count, inside))) ∙ are.heads_are col inside

pub csv_head : (json : Bool) (names : List (List ℕ)) (col : ℕ) (bytes : List ℕ) → bytes ≡ value_head json names col → not json ≡ true → bytes ≡ comma_before col
csv_head true names col bytes is csv = let no : ⊥ = cc in absurd no
csv_head false names col bytes is csv = is ∙ append-nil (comma_before col)

-- a value after what comes before it
member_at : (json : Bool) (names : List (List ℕ)) (values : List CellValue) (col : ℕ) (value : CellValue) → length values ≡ length names → col < length names → get_or values col value ≡ value
    → comma_before col ++ get_or (members json names values) col [] ≡ value_head json names col ++ printed_value json value
member_at true names values col value wide inside is =
    let name = get_or names col [] in
    let pair : List ℕ → CellValue → List ℕ × CellValue = λ n v. (n, v) in
    let at : get_or (zip names values) col (name, value) ≡ (name, value) =
    get_or-zip names values col (name, value) inside (omega (arith, wide, inside)) ∙ ap (λ n. pair n (get_or values col value)) (sym (get_or_default names col [] name inside)) ∙ ap (pair name) is in
    let there : get_or (map json_member (zip names values)) col [] ≡ json_member (name, value) =
    get_or-map json_member (zip names values) col (name, value) [] (omega (arith, length-zip names values, wide, inside)) ∙ ap json_member at in
    ap (λ l. comma_before col ++ l) there ∙ sym (append_assoc (comma_before col) (json_text name ++ codes ":") (printed_value true value))
member_at false names values col value wide inside is =
    ap (λ l. comma_before col ++ l) (get_or-map (printed_value false) values col value [] (omega (arith, wide, inside)) ∙ ap (printed_value false) is)
    ∙ ap (λ l. l ++ printed_value false value) (sym (append-nil (comma_before col)))

-- one value more
pub member_more : (json : Bool) (names : List (List ℕ)) (values : List CellValue) (col : ℕ) (value : CellValue) → length values ≡ length names → col < length names → get_or values col value ≡ value
    → join_with_byte 44 (take (col + 1) (members json names values)) ≡ join_with_byte 44 (take col (members json names values)) ++ (value_head json names col ++ printed_value json value)
member_more json names values col value wide inside is =
    let all = members json names values in
    let within : col < length all = omega (arith, members_count json names values (λ is_json. wide), wide, inside) in
    let here : length (take col all) ≡ col = length-take-le col all (omega (arith, within)) in
    ap (join_with_byte 44) (take_more all col [] within) ∙ join_more (take col all) (get_or all col [])
    ∙ ap (λ n. join_with_byte 44 (take col all) ++ (comma_before n ++ get_or all col [])) here
    ∙ ap (λ l. join_with_byte 44 (take col all) ++ l) (member_at json names values col value wide inside is)

-- with it there is no more than all
pub member_fits : (json : Bool) (names : List (List ℕ)) (values : List CellValue) (col : ℕ) (value : CellValue) → length values ≡ length names → col < length names → get_or values col value ≡ value
    → length (before_values json ++ join_with_byte 44 (take col (members json names values))) + (length (value_head json names col) + length (printed_value json value)) ≤ length (printed_row json names values)
member_fits json names values col value wide inside is =
    let all = members json names values in
    let some = join_with_byte 44 (take col all) in
    omega (
      arith,
      ap length (member_more json names values col value wide inside is),
      length-append some (value_head json names col ++ printed_value json value),
      length-append (value_head json names col) (printed_value json value),
      join_front (col + 1) all,
      ap length (row_is json names values),
      length-append (before_values json ++ join_with_byte 44 all) (after_values json),
      length-append (before_values json) (join_with_byte 44 all),
      length-append (before_values json) some,
    )

-- ---- how long a row is

one_member : (t k v a b d : List ℕ) → length a ≡ length b + length d → length ((t ++ k ++ v) ++ a) ≡ length ((t ++ k) ++ b) + length (v ++ d)
one_member t k v a b d e = omega (arith, e, length-append (t ++ k ++ v) a, length-append (t ++ k) v, length-append (t ++ k) b, length-append v d)

members_long : (json : Bool) (names : List (List ℕ)) (values : List CellValue) → (IsTrue json → length values ≡ length names)
    → length (concat (members json names values)) ≡ labels_size json names + length (flat_map (printed_value json) values)
members_long false names values wide = omega (arith, ap length (flat_is_concat (printed_value false) values))
members_long true [] [] wide = refl
members_long true [] (value ∷ values) wide = absurd (omega (arith, wide refl))
members_long true (name ∷ names) [] wide = absurd (omega (arith, wide refl))
members_long true (name ∷ names) (value ∷ values) wide =
    let same = wide refl in
    one_member (json_text name) (codes ":") (printed_value true value) (concat (map json_member (zip names values))) (flat_map (λ label. json_text label ++ codes ":") names) (flat_map (printed_value true) values)
    (members_long true names values (λ is_json. omega (arith, same)))

row_long : (json : Bool) (names : List (List ℕ)) (values : List CellValue) → (IsTrue json → length values ≡ length names)
    → length (row_piece json names 1 values) ≡ labels_size json names + (length values - 1) + (if json then 3 else 2) + length (flat_map (printed_value json) values)
row_long json names values wide =
    let all = members json names values in
    omega (
      arith,
      length-append (comma_before (if json then 1 else 0)) (printed_row json names values),
      ap length (row_is json names values),
      length-append (before_values json ++ join_with_byte 44 all) (after_values json),
      length-append (before_values json) (join_with_byte 44 all),
      length-join all,
      members_count json names values wide,
      members_long json names values wide,
      ends json,
    )
  where
    ends : (json : Bool) → length (comma_before (if json then 1 else 0)) + length (before_values json) + length (after_values json) ≡ (if json then 3 else 2)
    ends true = refl
    ends false = refl

-- no piece of a row is longer than the one after a comma
later_long : (json : Bool) (names : List (List ℕ)) (place : ℕ) (values : List CellValue) → length (row_piece json names place values) ≤ length (row_piece json names 1 values)
later_long true names zero values = omega arith
later_long true names (suc place) values = omega (arith, ap (λ comma. length (comma ++ printed_row true names values)) (comma_after place))
later_long false names place values = omega arith

-- a row after its comma has room where its frame and its values have
pub row_has_room : (json : Bool) (names : List (List ℕ)) (place : ℕ) (values kept : List CellValue) (width frame room : ℕ) → IsRowFrame json names width frame → length values ≡ width
    → kept ≡ values → told (frame + length (flat_map (printed_value json) kept)) ≤ room
    → told (length (comma_before (if json then place else 0)) + length (printed_row json names values)) ≤ room
row_has_room json names place values kept width frame room is wide same fits =
    omega (
      arith,
      later_long json names place values,
      is values wide,
      ap (λ (vs : List CellValue). length (flat_map (printed_value json) vs)) same,
      fits,
      length-append (comma_before (if json then place else 0)) (printed_row json names values),
    )

-- the frame of rows of that width
pub frame_is : (json : Bool) (names : List (List ℕ)) (width frame comma : ℕ) → (IsTrue json → width ≡ length names)
    → frame ≡ told (told (told (labels_size json names) + (width - 1)) + (2 + comma)) → comma ≡ (if json then 1 else 0) → IsRowFrame json names width frame
frame_is true names width frame comma wide all one values is = omega (arith, row_long true names values (λ t. is ∙ wide t), is, all, one)
frame_is false names width frame comma wide all one values is = omega (arith, row_long false names values (λ t. is ∙ wide t), is, all, one)

pub labels_same : (json : Bool) (under names : List (List ℕ)) → (IsTrue json → under ≡ names) → labels_size json names ≡ labels_size json under
labels_same true under names same = ap (λ ns. labels_size true ns) (sym (same refl))
labels_same false under names same = refl

-- ---- flags, and rows that were lent

pub is_set : (n : ℕ) → (n ≡ 0 → ⊥) → not (n == 0) ≡ true
is_set n other = grind (arith, tests, other)

pub lent_value : (rows : List (List CellValue)) (row col : ℕ) (lent : List CellValue) → slice_get rows row ≡ Some lent → col < length lent
    → get_or (get_or rows row []) col (get_or lent col null) ≡ get_or lent col null
lent_value rows row col lent there inside =
    ap (λ values. get_or values col (get_or lent col null)) (get_or_from_slice_get rows row lent [] there) ∙ get_or_default lent col (get_or lent col null) null inside

pub lent_width : (rows : List (List CellValue)) (row width : ℕ) (lent : List CellValue) → slice_get rows row ≡ Some lent → length lent ≡ width → length (get_or rows row []) ≡ width
lent_width rows row width lent there wide = ap length (get_or_from_slice_get rows row lent [] there) ∙ wide
