-- What a field is, among the bytes of its file from there on.
use Rattle.std.proofs.Common.{◌≡◌, ℕ, zero, suc, ◌+◌, ◌-◌, List, [], ◌∷◌, length, take, drop, min, Bool, true, false, if◌then◌else◌, ◌==◌, refl, ap, sym, ◌∙◌, arith}
use Rattle.std.proofs.lemmas.List.{drop-drop, take_all}
use Rattle.std.specs.List.{slice_index, slice_range}
use Rattle.csv_grammar.specs.Bytes.{double_quote, carriage_return}
use Rattle.csv_grammar.specs.Raw.{RawField}
use Rattle.csv_fields.specs.Between.{raw_between, without_return}

-- a front of a list
front_take : (k : ℕ) (ys : List ℕ) → take (length (take k ys)) ys ≡ take k ys
front_take zero ys = refl
front_take (suc k) [] = refl
front_take (suc k) (y ∷ ys) = ap (λ rest. y ∷ rest) (front_take k ys)

front_drop : (k : ℕ) (xs ys : List ℕ) → take (length xs) ys ≡ xs → take (length (drop k xs)) (drop k ys) ≡ drop k xs
front_drop zero xs ys e = e
front_drop (suc k) [] ys e = refl
front_drop (suc k) (x ∷ xs) [] e = absurd (cc)
front_drop (suc k) (x ∷ xs) (y ∷ ys) e = let rest : take (length xs) ys ≡ xs = cc in front_drop k xs ys rest

front_trans : (xs ys zs : List ℕ) → take (length xs) ys ≡ xs → take (length ys) zs ≡ ys → take (length xs) zs ≡ xs
front_trans [] ys zs e f = refl
front_trans (x ∷ xs) [] zs e f = absurd (cc)
front_trans (x ∷ xs) (y ∷ ys) [] e f = absurd (cc)
front_trans (x ∷ xs) (y ∷ ys) (z ∷ zs) e f =
    let first : z ≡ x = cc in
    let inner : take (length xs) ys ≡ xs = cc in
    let outer : take (length ys) zs ≡ ys = cc in
    ap (λ b. b ∷ take (length xs) zs) first ∙ ap (λ rest. x ∷ rest) (front_trans xs ys zs inner outer)

either : (P : List ℕ → Type 0) (test : Bool) (a b : List ℕ) → P a → P b → P (if test then a else b)
either P true a b p q = p
either P false a b p q = q

-- a text without its line break's CR is a front of it
front_of : (piece : List ℕ) → take (length (without_return piece)) piece ≡ without_return piece
front_of piece =
    either (λ front. take (length front) piece ≡ front) (slice_index piece (length piece - 1) == carriage_return) (slice_range piece 0 (length piece - 1)) piece
    (front_take (length piece - 1 - 0) piece) (take_all (length piece) piece (omega arith))

-- where the bytes of a field begin: past a double quote
abbrev pub quote_len : Bool → ℕ
quote_len true = 1
quote_len false = 0

unwrapped_front : (test : Bool) (bytes : List ℕ) (raw : RawField)
    → raw ≡ (if test then record { bytes = slice_range bytes 1 (length bytes - 1); quoted = true } else record { bytes = bytes; quoted = false })
    → take (length raw.bytes) (drop (quote_len raw.quoted) bytes) ≡ raw.bytes
unwrapped_front true bytes raw e = rw e (front_take (length bytes - 1 - 1) (drop 1 bytes))
unwrapped_front false bytes raw e = rw e (take_all (length bytes) bytes (omega arith))

pub field_rest : (piece rest : List ℕ) (raw : RawField) → take (length piece) rest ≡ piece → raw ≡ raw_between piece
    → take (length raw.bytes) (drop (quote_len raw.quoted) rest) ≡ raw.bytes
field_rest piece rest raw front is =
    let bytes = without_return piece in
    let inner = unwrapped_front (slice_index bytes 0 == double_quote) bytes raw is in
    let outer : take (length bytes) rest ≡ bytes = front_trans bytes piece rest (front_of piece) front in
    front_trans raw.bytes (drop (quote_len raw.quoted) bytes) (drop (quote_len raw.quoted) rest) inner (front_drop (quote_len raw.quoted) bytes rest outer)

pub rest_at : (text : List ℕ) (start end from : ℕ) (raw : RawField) → raw ≡ raw_between (slice_range text start end) → from ≡ start + quote_len raw.quoted
    → take (length raw.bytes) (drop from text) ≡ raw.bytes
rest_at text start end from raw is past =
    ap (λ k. take (length raw.bytes) (drop k text)) past
    ∙ ap (take (length raw.bytes)) (sym (drop-drop (quote_len raw.quoted) start text))
    ∙ field_rest (slice_range text start end) (drop start text) raw (front_take (end - start) (drop start text)) is

pub drop_min : (xs : List ℕ) (k : ℕ) → drop (min k (length xs)) xs ≡ drop k xs
drop_min [] zero = refl
drop_min [] (suc k) = let none : min (suc k) 0 ≡ 0 = omega arith in rw none refl
drop_min (x ∷ xs) zero = let none : min 0 (suc (length xs)) ≡ 0 = omega arith in rw none refl
drop_min (x ∷ xs) (suc k) = let more : min (suc k) (suc (length xs)) ≡ suc (min k (length xs)) = omega arith in rw more (drop_min xs k)
