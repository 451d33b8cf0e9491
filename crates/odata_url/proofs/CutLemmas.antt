-- A text cut at the first place of a byte.
use Rattle.std.proofs.Common.{◌≡◌, ℕ, ◌+◌, ◌<◌, Bool, false, List, [], ◌∷◌, length, take, drop, Bor, Option, Some, None, sym, refl, ◌∙◌, arith}
use Rattle.std.proofs.Common.{add_comm, add-one}
use Rattle.std.specs.Prelude.{◌==◌}
use Rattle.std.proofs.lemmas.Bool.{false_from_ne_true}
use Rattle.std.proofs.lemmas.List.{take_all, drop_all, get_or_default}
use Rattle.std.proofs.lemmas.List.Sums.{position_or_len_is}
use Rattle.std.proofs.lemmas.List.Splits.{slice_split_first, slice_split_none}
use Rattle.std.specs.List.{position_or_len}
use Rattle.memchr.specs.Find.{NoneBefore, Nowhere, Passes, is_byte as is_needle}
use Rattle.odata_url.specs.Cuts.{is_byte, in_front, behind, parts}

-- the first byte that passes the test stands at the place
pub first_at : (test : ℕ → Bool) (text : List ℕ) (place : ℕ) → NoneBefore (Passes test text) 0 (length text) place → Passes test text place → position_or_len test text ≡ place
first_at test text place none here =
    position_or_len_is test text place 0 (omega (arith, none.high)) (λ k below. false_from_ne_true _ (none.before k (omega arith) below)) (λ _. here)

-- no byte passes it
pub nowhere : (test : ℕ → Bool) (text : List ℕ) → Nowhere (Passes test text) 0 (length text) → position_or_len test text ≡ length text
nowhere test text none =
    position_or_len_is test text (length text) 0 (omega arith) (λ k below. false_from_ne_true _ (none k (omega arith) below)) (λ past. absurd (omega arith))

pub in_front-at : (byte : ℕ) (text : List ℕ) (place : ℕ) → position_or_len (is_byte byte) text ≡ place → take place text ≡ in_front byte text
in_front-at byte text place first = rw first refl

pub behind-at : (byte : ℕ) (text : List ℕ) (place : ℕ) → position_or_len (is_byte byte) text ≡ place → drop (place + 1) text ≡ behind byte text
behind-at byte text place first = rw first refl

pub parts-at : (byte : ℕ) (text : List ℕ) (place : ℕ) → place < length text → position_or_len (is_byte byte) text ≡ place → parts byte text ≡ take place text ∷ parts byte (drop (place + 1) text)
parts-at byte text place within first =
    let inside : position_or_len (is_byte byte) text < length text = rw first within in
    slice_split_first (is_byte byte) text 0 inside ∙ rw first refl

pub in_front-all : (byte : ℕ) (text : List ℕ) → position_or_len (is_byte byte) text ≡ length text → text ≡ in_front byte text
in_front-all byte text none = rw none (sym (take_all (length text) text (omega arith)))

pub behind-all : (byte : ℕ) (text : List ℕ) → position_or_len (is_byte byte) text ≡ length text → behind byte text ≡ []
behind-all byte text none = rw none (drop_all (length text + 1) text (omega arith))

pub parts-all : (byte : ℕ) (text : List ℕ) → Nowhere (Passes (is_needle byte) text) 0 (length text) → parts byte text ≡ text ∷ []
parts-all byte text none =
    slice_split_none (is_byte byte) text (λ k d within. let e = get_or_default text k d 0 within in rw e (false_from_ne_true _ (none k (omega arith) within)))

-- how much text is left, with its end
abbrev pub length_left : Option (Bor (List ℕ)) → ℕ
length_left None = 0
length_left (Some text) = length text.now + 1

-- another byte comes first
in_front-suc : (b : ℕ) (text : List ℕ) (place : ℕ) → take (1 + place) (b ∷ text) ≡ b ∷ take place text
in_front-suc b text place = rw (add_comm 1 place, add-one)

pub in_front-past : (byte b : ℕ) (text : List ℕ) → (b == byte) ≡ false → in_front byte (b ∷ text) ≡ b ∷ in_front byte text
in_front-past byte b text other = rw other (in_front-suc b text (position_or_len (is_byte byte) text))

behind-suc : (b : ℕ) (text : List ℕ) (place : ℕ) → drop (1 + place + 1) (b ∷ text) ≡ drop (place + 1) text
behind-suc b text place = rw (add_comm 1 place, add-one)

pub behind-past : (byte b : ℕ) (text : List ℕ) → (b == byte) ≡ false → behind byte (b ∷ text) ≡ behind byte text
behind-past byte b text other = rw other (behind-suc b text (position_or_len (is_byte byte) text))
