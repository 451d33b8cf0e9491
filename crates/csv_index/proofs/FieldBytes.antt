-- The bytes of a field in a file, with or without the CR of a line break after them, say how the field stands.
use Rattle.std.proofs.Common.{◌≡◌, ℕ, ◌-◌, ◌<◌, zero, suc, List, [], ◌∷◌, ◌++◌, length, get_or, Bool, true, false, cond, ◌==◌, refl, ap, subst, ◌∙◌, arith, length-append}
use Rattle.std.specs.Prelude.{IsTrue, IsUtf8, not, ◌||◌, slice_range}
use Rattle.std.specs.List.{AllByRecursion}
use Rattle.std.proofs.lemmas.List.{get_or_at, take_at, length_push}
use Rattle.std.proofs.lemmas.Str.{IsUtf8-take, IsUtf8-drop, IsCharBoundary-before_ascii, IsCharBoundary-after_ascii}
use Rattle.csv_grammar.specs.Bytes.{double_quote, comma, carriage_return, line_feed}
use Rattle.csv_grammar.specs.Records.{Field, unquoted, quoted, is_plain, doubled, print_field, IsField}
use Rattle.csv_grammar.specs.Raw.{raw_of}
use Rattle.csv_fields.specs.Between.{without_return, unwrapped, raw_between}

-- ---- what a plain byte is not

none_of_four : (w x y z : Bool) → IsTrue (not (w || x || y || z)) → (w ≡ false) × (y ≡ false)
none_of_four true x y z h = cc
none_of_four false true y z h = cc
none_of_four false false true z h = cc
none_of_four false false false z h = (refl, refl)

-- a plain byte is no double quote, and no CR
pub plain_is_not : (b : ℕ) → IsTrue (is_plain b) → (b == double_quote ≡ false) × (b == carriage_return ≡ false)
plain_is_not b h = none_of_four (b == double_quote) (b == comma) (b == carriage_return) (b == line_feed) h

-- each byte of plain bytes is plain; so is the 0 past their end
pub plain_at : (bytes : List ℕ) (n : ℕ) → AllByRecursion (λ b. IsTrue (is_plain b)) bytes → IsTrue (is_plain (get_or bytes n 0))
plain_at [] n all = refl
plain_at (b ∷ bytes) zero all = all.0
plain_at (b ∷ bytes) (suc n) all = plain_at bytes n all.1

-- ---- the CR of a line break

pub slice_index_push : (xs : List ℕ) (b : ℕ) → get_or (xs ++ b ∷ []) (length (xs ++ b ∷ []) - 1) 0 ≡ b
slice_index_push xs b = get_or_at xs b [] 0 _ (omega (arith, length_push xs b))

pub slice_range_push : (xs : List ℕ) (b : ℕ) → slice_range (xs ++ b ∷ []) 0 (length (xs ++ b ∷ []) - 1) ≡ xs
slice_range_push xs b = take_at xs (b ∷ []) _ (omega (arith, length_push xs b))

pub without_return_push : (xs : List ℕ) (b : ℕ) → without_return (xs ++ b ∷ []) ≡ cond (b == carriage_return) xs (xs ++ b ∷ [])
without_return_push xs b =
    ap (λ c. cond (c == carriage_return) (slice_range (xs ++ b ∷ []) 0 (length (xs ++ b ∷ []) - 1)) (xs ++ b ∷ [])) (slice_index_push xs b)
    ∙ ap (λ ys. cond (b == carriage_return) ys (xs ++ b ∷ [])) (slice_range_push xs b)

without_return_plain : (bytes : List ℕ) → AllByRecursion (λ b. IsTrue (is_plain b)) bytes → without_return bytes ≡ bytes
without_return_plain bytes all =
    ap (λ t. cond t (slice_range bytes 0 (length bytes - 1)) bytes) ((plain_is_not _ (plain_at bytes (length bytes - 1) all)).1)

-- a field's bytes end in no CR
pub without_return_field : (field : Field) → IsField field → without_return (print_field field) ≡ print_field field
without_return_field (unquoted bytes) valid = without_return_plain bytes valid
without_return_field (quoted content) valid = without_return_push (double_quote ∷ doubled content) double_quote

-- ---- the double quotes

pub unwrapped_field : (field : Field) → IsField field → unwrapped (print_field field) ≡ raw_of field
unwrapped_field (unquoted bytes) valid =
    ap (λ t. cond t (record { bytes = slice_range bytes 1 (length bytes - 1); quoted = true }) (record { bytes = bytes; quoted = false }))
    ((plain_is_not _ (plain_at bytes 0 valid)).0)
unwrapped_field (quoted content) valid =
    let e : slice_range (double_quote ∷ doubled content ++ double_quote ∷ []) 1 (length (double_quote ∷ doubled content ++ double_quote ∷ []) - 1) ≡ doubled content =
    take_at (doubled content) (double_quote ∷ []) _ (omega (arith, length_push (doubled content) double_quote)) in
    ap (λ bytes. record { bytes = bytes; quoted = true }) e

-- ---- the field

-- the field whose bytes they are
pub raw_between_field : (field : Field) → IsField field → raw_between (print_field field) ≡ raw_of field
raw_between_field field valid = ap unwrapped (without_return_field field valid) ∙ unwrapped_field field valid

-- the field whose bytes they are, with a CR after
pub raw_between_return : (field : Field) → IsField field → raw_between (print_field field ++ carriage_return ∷ []) ≡ raw_of field
raw_between_return field valid = ap unwrapped (without_return_push (print_field field) carriage_return) ∙ unwrapped_field field valid

-- ---- text

-- what stands before an ASCII byte is text
pub utf8_before : (xs : List ℕ) (b : ℕ) (ys : List ℕ) → b < 128 → IsUtf8 (xs ++ b ∷ ys) → IsUtf8 xs
utf8_before xs b ys small utf8 =
    let within : length xs < length (xs ++ b ∷ ys) = omega (arith, length-append xs (b ∷ ys)) in
    let here : get_or (xs ++ b ∷ ys) (length xs) 0 < 128 = rw (get_or_at xs b ys 0 (length xs) refl) small in
    subst IsUtf8 (take_at xs (b ∷ ys) (length xs) refl)
    (IsUtf8-take (xs ++ b ∷ ys) (length xs) utf8 (IsCharBoundary-before_ascii (xs ++ b ∷ ys) (length xs) within here))

-- what stands after an ASCII byte is text
pub utf8_behind : (b : ℕ) (ys : List ℕ) → b < 128 → IsUtf8 (b ∷ ys) → IsUtf8 ys
utf8_behind b ys small utf8 =
    IsUtf8-drop (b ∷ ys) 1 utf8 (IsCharBoundary-after_ascii (b ∷ ys) 0 utf8 (omega arith) small)

-- the raw bytes of a field are text, if its bytes are
pub utf8_field : (field : Field) → IsUtf8 (print_field field) → IsUtf8 (raw_of field).bytes
utf8_field (unquoted bytes) utf8 = utf8
utf8_field (quoted content) utf8 =
    utf8_before (doubled content) double_quote [] (omega arith) (utf8_behind double_quote (doubled content ++ double_quote ∷ []) (omega arith) utf8)
