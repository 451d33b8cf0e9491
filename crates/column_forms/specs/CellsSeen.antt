-- Cells as they are read: with plain spaces, and without spaces at their ends; and those that may stand for null.
use Rattle.std.specs.Prelude.{◌≡◌, ◌⊎◌, ℕ, Bool, List, [], ◌∷◌, codes}
use Rattle.std.specs.List.{list_any}
use Rattle.std.specs.Str.{IsTrimAscii, bytes_eq}

-- a no-break space, a narrow one or a thin one (U+00A0, U+202F, U+2009), and the rest
abbrev pub BeginsWithSpace : List ℕ → List ℕ → Type 0
BeginsWithSpace text rest =
    (text ≡ 0xC2 ∷ 0xA0 ∷ rest) ⊎ ((text ≡ 0xE2 ∷ 0x80 ∷ 0xAF ∷ rest) ⊎ (text ≡ 0xE2 ∷ 0x80 ∷ 0x89 ∷ rest))

-- the first byte, or a plain space in the place of such a one
abbrev pub IsPlainByte : List ℕ → ℕ → List ℕ → Type 0
IsPlainByte text byte rest = (text ≡ byte ∷ rest) ⊎ ((byte ≡ 32) × BeginsWithSpace text rest)

-- a text with plain spaces in the place of others
pub data HasPlainSpaces : List ℕ → List ℕ → Type 0 where
  no_byte : HasPlainSpaces [] []
  next_byte : (text rest made : List ℕ) (byte : ℕ) → IsPlainByte text byte rest → HasPlainSpaces rest made → HasPlainSpaces text (byte ∷ made)

-- a cell with plain spaces, without spaces at its ends
abbrev pub IsSeen : List ℕ → List ℕ → Type 0
IsSeen cell text = (plain : List ℕ) × HasPlainSpaces cell plain × IsTrimAscii plain text

-- the texts that may stand for null
abbrev pub null_texts : List (List ℕ)
null_texts =
    codes "NA" ∷ codes "N/A" ∷ codes "n/a" ∷ codes "NULL" ∷ codes "null" ∷ codes "-" ∷ codes "." ∷ codes ".." ∷ codes "#N/A" ∷ []

abbrev pub is_null_word : List ℕ → Bool
is_null_word cell = list_any (λ text. bytes_eq text cell) null_texts
