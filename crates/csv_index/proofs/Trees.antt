-- The structural places of a tree part its bytes into its fields.
use Rattle.std.proofs.Common.{◌≡◌, ℕ, ◌+◌, ◌-◌, ◌<◌, ◌≤◌, List, [], ◌∷◌, ◌++◌, length, length-append, length-drop, append_assoc, append-nil, get_or, take, drop, map, true, Option, Some, None, refl, sym, ap, ◌∙◌, subst, arith}
use Rattle.std.specs.Prelude.{IsUtf8, slice_index, slice_range, option_to_list, IfSome}
use Rattle.std.specs.List.{AllByRecursion, flat_map}
use Rattle.std.specs.Str.{is_utf8}
use Rattle.std.proofs.lemmas.List.{take_at, drop_at, get_or_at, drop-drop, length-map, map-append}
use Rattle.std.proofs.Math.Seq.{drop-append-add}
use Rattle.std.proofs.lemmas.Str.{IsUtf8-drop, is_utf8-from_IsUtf8, IsCharBoundary-before_ascii}
use Rattle.std.proofs.lemmas.List.Elements.{All-append, All-from_recursion, recursion_from_All}
use Rattle.csv_grammar.specs.Bytes.{comma, carriage_return, line_feed}
use Rattle.csv_grammar.specs.Records.{Field, print_field, IsField, print_record, IsRecord, IsLast, LineBreak, crlf, lf, Line, print_break, print_line, CsvText, print_last, print_text, IsText, records_of}
use Rattle.csv_grammar.specs.Structure.{Role, separator, inner, field_roles, record_roles, break_roles, line_roles, last_roles, text_roles}
use Rattle.csv_grammar.specs.Raw.{RawField, raw_of}
use Rattle.csv_fields.specs.Between.{cut, raw_between}
use Rattle.csv_index.specs.Index.{Rise, AreAscii}
use Rattle.csv_index.specs.Structure.{all_fields}
use Rattle.csv_index.proofs.Boundaries.{ascii_at, ascii_end}
use Rattle.csv_index.specs.Reading.{role_places}
use Rattle.csv_index.proofs.Bits.{role_places-append}
use Rattle.csv_index.proofs.FieldBytes.{raw_between_field, raw_between_return, utf8_before, utf8_behind, utf8_field}

-- the file is parted after a place
pub record Pieces (file : List ℕ) (at : ℕ) (ends : List ℕ) (raws : List RawField) : Type 0 where
  pub are : map raw_between (cut at ends file) ≡ raws
  pub rise : Rise at ends (length file)
  pub ascii : AreAscii file ends

piece : (file bytes rest : List ℕ) (at end : ℕ) → drop at file ≡ bytes ++ rest → end ≡ at + length bytes → slice_range file at end ≡ bytes
piece file bytes rest at end e h = ap (take (end - at)) e ∙ take_at bytes rest (end - at) (omega arith)

piece_end : (file bytes rest : List ℕ) (at : ℕ) → at ≤ length file → drop at file ≡ bytes ++ rest → at + (length bytes + length rest) ≡ length file
piece_end file bytes rest at h e = omega (arith, length-drop at file, ap length e, length-append bytes rest)

behind : (file bytes : List ℕ) (b : ℕ) (rest : List ℕ) (at to : ℕ) → drop at file ≡ bytes ++ b ∷ rest → to ≡ at + length bytes + 1 → drop to file ≡ rest
behind file bytes b rest at to e h =
    let same : to ≡ at + (length bytes + 1) = omega arith in
    ap (λ k. drop k file) same ∙ sym (drop-drop (length bytes + 1) at file) ∙ ap (drop (length bytes + 1)) e ∙ drop-append-add bytes (b ∷ rest) 1

-- one piece more
first_piece : (file bytes rest : List ℕ) (at end : ℕ) (ends : List ℕ) (raw : RawField) (raws : List RawField) → at ≤ length file → drop at file ≡ bytes ++ rest
    → end ≡ at + length bytes → slice_index file end < 128 → raw_between bytes ≡ raw → Pieces file (end + 1) ends raws → Pieces file at (end ∷ ends) (raw ∷ raws)
first_piece file bytes rest at end ends raw raws within e h small is more =
    let size = piece_end file bytes rest at within e in record {
      are = ap (λ r. r ∷ map raw_between (cut (end + 1) ends file)) (ap raw_between (piece file bytes rest at end e h) ∙ is) ∙ ap (λ rs. raw ∷ rs) more.are;
      rise = (omega arith, omega arith, more.rise);
      ascii = (small, more.ascii);
    }

-- ---- the places of a record

inner_places : (at to : ℕ) (bytes : List ℕ) (roles : List Role) → to ≡ at + length bytes → role_places at (map (λ _. inner) bytes ++ roles) ≡ role_places to roles
inner_places at to [] roles e = ap (λ k. role_places k roles) (omega arith)
inner_places at to (b ∷ bytes) roles e = inner_places (at + 1) to bytes roles (omega arith)

no_places : (at : ℕ) (bytes : List ℕ) → role_places at (map (λ _. inner) bytes) ≡ []
no_places at [] = refl
no_places at (b ∷ bytes) = no_places (at + 1) bytes

-- what stands between the last field of a record and its end
abbrev pub IsReturn : List ℕ → Type 0
IsReturn ret = (field : Field) → IsField field → raw_between (print_field field ++ ret) ≡ raw_of field

pub no_return : IsReturn []
no_return field valid = ap raw_between (append-nil (print_field field)) ∙ raw_between_field field valid

record_pieces : (file ret rest : List ℕ) (at end : ℕ) (fields : List Field) (more : List ℕ) (raws : List RawField) → IsReturn ret → AllByRecursion IsField fields
    → 0 < length fields → at ≤ length file → drop at file ≡ print_record fields ++ (ret ++ rest) → end ≡ at + length (print_record fields) + length ret
    → slice_index file end < 128 → Pieces file (end + 1) more raws → Pieces file at (role_places at (record_roles fields) ++ end ∷ more) (map raw_of fields ++ raws)
record_pieces file ret rest at end [] more raws is valid some within e h small pieces = absurd (omega arith)
record_pieces file ret rest at end (field ∷ []) more raws is valid some within e h small pieces =
    subst (λ l. Pieces file at (l ++ end ∷ more) (raw_of field ∷ raws)) (sym (no_places at (print_field field)))
    (first_piece file (print_field field ++ ret) rest at end more (raw_of field) raws within (e ∙ sym (append_assoc (print_field field) ret rest))
    (omega (arith, length-append (print_field field) ret)) small (is field valid.0) pieces)
record_pieces file ret rest at end (field ∷ next ∷ fields) more raws is valid some within e h small pieces =
    let behind_comma : List ℕ = print_record (next ∷ fields) ++ (ret ++ rest) in
    let whole : drop at file ≡ print_field field ++ comma ∷ behind_comma = e ∙ append_assoc (print_field field) (comma ∷ print_record (next ∷ fields)) (ret ++ rest) in
    let size = piece_end file (print_field field) (comma ∷ behind_comma) at within whole in
    let place : ℕ = at + length (print_field field) in
    let long = length-append (print_field field) (comma ∷ print_record (next ∷ fields)) in
    subst (λ l. Pieces file at (l ++ end ∷ more) (raw_of field ∷ map raw_of (next ∷ fields) ++ raws))
    (sym (inner_places at place (print_field field) (separator ∷ record_roles (next ∷ fields)) refl))
    (first_piece file (print_field field) (comma ∷ behind_comma) at place (role_places (place + 1) (record_roles (next ∷ fields)) ++ end ∷ more) (raw_of field) _ within whole refl
    (ascii_at file (print_field field) comma behind_comma at place whole refl (omega arith))
    (raw_between_field field valid.0)
    (record_pieces file ret rest (place + 1) end (next ∷ fields) more raws is valid.1 (omega arith) (omega arith)
    (behind file (print_field field) comma behind_comma at (place + 1) whole refl) (omega arith) small pieces))

pub length-record_roles : (fields : List Field) → length (record_roles fields) ≡ length (print_record fields)
length-record_roles [] = refl
length-record_roles (field ∷ []) = length-map (print_field field) (λ _. inner)
length-record_roles (field ∷ next ∷ fields) =
    length-append (field_roles field) (separator ∷ record_roles (next ∷ fields))
    ∙ omega (arith, length-map (print_field field) (λ _. inner), length-record_roles (next ∷ fields), length-append (print_field field) (comma ∷ print_record (next ∷ fields)))

-- ---- of a line

return_of : LineBreak → List ℕ
return_of crlf = carriage_return ∷ []
return_of lf = []

is_return : (end : LineBreak) → IsReturn (return_of end)
unfolding return_of
is_return crlf = raw_between_return
is_return lf = no_return

line_bytes : (line : Line) (rest : List ℕ) → print_line line ++ rest ≡ print_record line.fields ++ (return_of line.end ++ line_feed ∷ rest)
unfolding return_of
line_bytes line rest = append_assoc (print_record line.fields) _ rest ∙ ap (λ l. print_record line.fields ++ l) (on line.end)
  where
    on : (end : LineBreak) → print_break end ++ rest ≡ return_of end ++ line_feed ∷ rest
    on crlf = refl
    on lf = refl

line_places : (at end : ℕ) (line : Line) (roles : List Role) → end ≡ at + length (print_record line.fields) + length (return_of line.end)
    → role_places at (line_roles line ++ roles) ≡ role_places at (record_roles line.fields) ++ end ∷ role_places (end + 1) roles
unfolding return_of
line_places at end line roles h =
    ap (role_places at) (append_assoc (record_roles line.fields) _ roles)
    ∙ role_places-append at (record_roles line.fields) _
    ∙ ap (λ l. role_places at (record_roles line.fields) ++ l) (on line.end h)
  where
    on : (b : LineBreak) → end ≡ at + length (print_record line.fields) + length (return_of b)
        → role_places (at + length (record_roles line.fields)) (break_roles b ++ roles) ≡ end ∷ role_places (end + 1) roles
    on crlf e = let same : at + length (record_roles line.fields) + 1 ≡ end = omega (arith, length-record_roles line.fields) in ap (λ k. k ∷ role_places (k + 1) roles) same
    on lf e = let same : at + length (record_roles line.fields) ≡ end = omega (arith, length-record_roles line.fields) in ap (λ k. k ∷ role_places (k + 1) roles) same

line_length : (line : Line) → length (print_line line) ≡ length (print_record line.fields) + length (return_of line.end) + 1
unfolding return_of
line_length line = length-append (print_record line.fields) _ ∙ on line.end
  where
    on : (b : LineBreak) → length (print_record line.fields) + length (print_break b) ≡ length (print_record line.fields) + length (return_of b) + 1
    on crlf = omega arith
    on lf = omega arith

-- the fields of lines
abbrev pub lines_fields : List Line → List Field
lines_fields lines = all_fields (map (λ line. line.fields) lines)

lines_pieces : (file rest : List ℕ) (at to : ℕ) (lines : List Line) (roles : List Role) (more : List ℕ) (raws : List RawField)
    → AllByRecursion (λ line. IsRecord line.fields) lines → at ≤ length file → drop at file ≡ flat_map print_line lines ++ rest
    → to ≡ at + length (flat_map print_line lines) → (to ≤ length file → drop to file ≡ rest → Pieces file to (role_places to roles ++ more) raws)
    → Pieces file at (role_places at (flat_map line_roles lines ++ roles) ++ more) (map raw_of (lines_fields lines) ++ raws)
lines_pieces file rest at to [] roles more raws valid within e h pieces =
    let same : to ≡ at = omega arith in
    subst (λ k. Pieces file k (role_places k roles ++ more) raws) same (pieces (omega arith) (ap (λ k. drop k file) same ∙ e))
lines_pieces file rest at to (line ∷ lines) roles more raws valid within e h pieces =
    let end : ℕ = at + length (print_record line.fields) + length (return_of line.end) in
    let others : List ℕ = flat_map print_line lines ++ rest in
    let whole : drop at file ≡ print_record line.fields ++ (return_of line.end ++ line_feed ∷ others) =
    e ∙ append_assoc (print_line line) (flat_map print_line lines) rest ∙ line_bytes line others in
    let long = length-append (print_line line) (flat_map print_line lines) in
    let whole_line : drop at file ≡ (print_record line.fields ++ return_of line.end) ++ line_feed ∷ others = whole ∙ sym (append_assoc (print_record line.fields) (return_of line.end) (line_feed ∷ others)) in
    let size = piece_end file (print_record line.fields ++ return_of line.end) (line_feed ∷ others) at within whole_line in
    let parts = length-append (print_record line.fields) (return_of line.end) in
    let next = lines_pieces file rest (end + 1) to lines roles more raws valid.1 (omega arith)
    (behind file (print_record line.fields ++ return_of line.end) line_feed others at (end + 1) whole_line (omega arith)) (omega (arith, line_length line)) pieces in
    let these = record_pieces file (return_of line.end) (line_feed ∷ others) at end line.fields _ _ (is_return line.end) valid.0.1 valid.0.0 within whole refl
    (ascii_at file (print_record line.fields ++ return_of line.end) line_feed others at end whole_line (omega arith) (omega arith)) next in
    subst (λ l. Pieces file at l (map raw_of (lines_fields (line ∷ lines)) ++ raws))
    (sym (append_assoc (role_places at (record_roles line.fields)) (end ∷ role_places (end + 1) (flat_map line_roles lines ++ roles)) more)
    ∙ ap (λ l. l ++ more) (sym (line_places at end line (flat_map line_roles lines ++ roles) refl) ∙ ap (role_places at) (sym (append_assoc (line_roles line) (flat_map line_roles lines) roles))))
    (subst (Pieces file at _) (sym (ap (λ l. l ++ raws) (map-append raw_of line.fields (lines_fields lines)) ∙ append_assoc (map raw_of line.fields) (map raw_of (lines_fields lines)) raws)) these)

-- ---- of a text

-- where a last record with no line break ends
abbrev pub last_end : ℕ → Option (List Field) → Option ℕ
last_end size None = None
last_end size (Some fields) = Some size

last_pieces : (file : List ℕ) (to : ℕ) (last : Option (List Field)) → IfSome last IsLast → to ≤ length file → drop to file ≡ print_last last
    → Pieces file to (role_places to (last_roles last) ++ option_to_list (last_end (length file) last)) (map raw_of (all_fields (option_to_list last)))
last_pieces file to None valid within e = record { are = refl; rise = tt; ascii = tt }
last_pieces file to (Some fields) valid within e =
    subst (Pieces file to (role_places to (record_roles fields) ++ length file ∷ [])) (append-nil (map raw_of fields) ∙ ap (map raw_of) (sym (append-nil fields)))
    (record_pieces file [] [] to (length file) fields [] [] no_return valid.0.1 valid.0.0 within (e ∙ sym (append-nil (print_record fields)))
    (omega (arith, length-drop to file, ap length e)) (ascii_end file (length file) refl) (record { are = refl; rise = tt; ascii = tt }))

pub tree_pieces : (file : List ℕ) (mark : ℕ) (tree : CsvText) → IsText tree → mark ≤ length file → drop mark file ≡ print_text tree
    → Pieces file mark (role_places mark (text_roles tree) ++ option_to_list (last_end (length file) tree.last)) (map raw_of (all_fields (records_of tree)))
tree_pieces file mark tree valid within e =
    let lines : List (List Field) = map (λ line. line.fields) tree.lines in
    subst (Pieces file mark _)
    (sym (map-append raw_of (all_fields lines) (all_fields (option_to_list tree.last)))
    ∙ ap (map raw_of) (sym (all_fields-append lines (option_to_list tree.last))))
    (lines_pieces file (print_last tree.last) mark (mark + length (flat_map print_line tree.lines)) tree.lines (last_roles tree.last)
    (option_to_list (last_end (length file) tree.last)) (map raw_of (all_fields (option_to_list tree.last))) valid.lines within e refl
    (λ h d. last_pieces file (mark + length (flat_map print_line tree.lines)) tree.last valid.last h d))
  where
    all_fields-append : (xs ys : List (List Field)) → all_fields (xs ++ ys) ≡ all_fields xs ++ all_fields ys
    all_fields-append [] ys = refl
    all_fields-append (x ∷ xs) ys = ap (λ l. x ++ l) (all_fields-append xs ys) ∙ sym (append_assoc x (all_fields xs) (all_fields ys))

-- ---- each field is text

abbrev pub AreTexts : List RawField → Type 0
AreTexts raws = AllByRecursion (λ raw. is_utf8 raw.bytes ≡ true) raws

texts_append : (xs ys : List RawField) → AreTexts xs → AreTexts ys → AreTexts (xs ++ ys)
texts_append xs ys first more =
    let P : RawField → Type 0 = λ raw. is_utf8 raw.bytes ≡ true in
    recursion_from_All P (xs ++ ys) (All-append P xs ys (All-from_recursion P xs first) (All-from_recursion P ys more))

utf8_after : (xs : List ℕ) (b : ℕ) (ys : List ℕ) → b < 128 → IsUtf8 (xs ++ b ∷ ys) → IsUtf8 ys
utf8_after xs b ys small utf8 =
    let within : length xs < length (xs ++ b ∷ ys) = omega (arith, length-append xs (b ∷ ys)) in
    let here : get_or (xs ++ b ∷ ys) (length xs) 0 < 128 = rw (get_or_at xs b ys 0 (length xs) refl) small in
    utf8_behind b ys small (subst IsUtf8 (drop_at xs (b ∷ ys) (length xs) refl)
    (IsUtf8-drop (xs ++ b ∷ ys) (length xs) utf8 (IsCharBoundary-before_ascii (xs ++ b ∷ ys) (length xs) within here)))

record_texts : (fields : List Field) → IsUtf8 (print_record fields) → AreTexts (map raw_of fields)
record_texts [] utf8 = tt
record_texts (field ∷ []) utf8 = (is_utf8-from_IsUtf8 _ (utf8_field field utf8), tt)
record_texts (field ∷ next ∷ fields) utf8 = (
  is_utf8-from_IsUtf8 _ (utf8_field field (utf8_before (print_field field) comma (print_record (next ∷ fields)) (omega arith) utf8)),
  record_texts (next ∷ fields) (utf8_after (print_field field) comma (print_record (next ∷ fields)) (omega arith) utf8),
)

line_texts : (line : Line) (rest : List ℕ) → IsUtf8 (print_line line ++ rest) → IsUtf8 (print_record line.fields) × IsUtf8 rest
unfolding return_of
line_texts line rest utf8 = on line.end (subst IsUtf8 (line_bytes line rest) utf8)
  where
    on : (end : LineBreak) → IsUtf8 (print_record line.fields ++ (return_of end ++ line_feed ∷ rest)) → IsUtf8 (print_record line.fields) × IsUtf8 rest
    on crlf u = (
      utf8_before (print_record line.fields) carriage_return (line_feed ∷ rest) (omega arith) u,
      utf8_behind line_feed rest (omega arith) (utf8_after (print_record line.fields) carriage_return (line_feed ∷ rest) (omega arith) u),
    )
    on lf u = (utf8_before (print_record line.fields) line_feed rest (omega arith) u, utf8_after (print_record line.fields) line_feed rest (omega arith) u)

lines_texts : (lines : List Line) (last : Option (List Field)) → IsUtf8 (flat_map print_line lines ++ print_last last)
    → AreTexts (map raw_of (all_fields (map (λ line. line.fields) lines ++ option_to_list last)))
lines_texts [] None utf8 = tt
lines_texts [] (Some fields) utf8 = subst AreTexts (ap (map raw_of) (sym (append-nil fields))) (record_texts fields utf8)
lines_texts (line ∷ lines) last utf8 =
    let parts = line_texts line (flat_map print_line lines ++ print_last last) (subst IsUtf8 (append_assoc (print_line line) (flat_map print_line lines) (print_last last)) utf8) in
    let others : List Field = all_fields (map (λ (l : Line). l.fields) lines ++ option_to_list last) in
    subst AreTexts (sym (map-append raw_of line.fields others))
    (texts_append (map raw_of line.fields) (map raw_of others) (record_texts line.fields parts.0) (lines_texts lines last parts.1))

pub tree_texts : (tree : CsvText) → IsUtf8 (print_text tree) → AreTexts (map raw_of (all_fields (records_of tree)))
tree_texts tree utf8 = lines_texts tree.lines tree.last utf8
