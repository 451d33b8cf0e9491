-- The encodings of files of texts (Encoding Standard of WHATWG, section 4.2, and its BOM sniff): which bytes are which text, in UTF-8.
use Rattle.std.specs.Prelude.{◌≡◌, ℕ, ◌+◌, ◌*◌, List, [], ◌∷◌, ◌++◌, false, map, IsUtf8, encode_utf8_all}
use Rattle.std.specs.Char.Utf16.{has_unpaired_surrogate, utf16_lossy_chars}
use Rattle.csv_grammar.specs.Bytes.{byte_order_mark}
use Rattle.text_encodings.specs.declared.encoding.Encoding.{Encoding}
use Rattle.text_encodings.specs.declared.encoding.Encoding.TheVariants.{Utf8, MarkedUtf8, Utf16Little, Utf16Big, Windows1252}
use Rattle.text_encodings.specs.declared.utf16.ByteOrder.{ByteOrder}
use Rattle.text_encodings.specs.declared.utf16.ByteOrder.TheVariants.{Little, Big}
use Rattle.text_encodings.specs.Windows1252.{char_of_byte}

-- the unit of UTF-16 of two bytes, the first of which is the less significant one or the more
abbrev pub unit_of : ByteOrder → ℕ → ℕ → ℕ
unit_of Little first second = first + 256 * second
unit_of Big first second = 256 * first + second

-- the bytes are the units, two for each
pub data AreUnits (order : ByteOrder) : List ℕ → List ℕ → Type 0 where
  no_unit : AreUnits order [] []
  one_unit : (first second : ℕ) (bytes units : List ℕ) → AreUnits order bytes units → AreUnits order (first ∷ second ∷ bytes) (unit_of order first second ∷ units)

-- the byte order mark of UTF-16 (U+FEFF)
abbrev pub utf16_mark : ByteOrder → List ℕ
utf16_mark Little = 0xFF ∷ 0xFE ∷ []
utf16_mark Big = 0xFE ∷ 0xFF ∷ []

-- the bytes after the mark are units, each surrogate has its partner, and the text is their characters
pub record IsUtf16 (order : ByteOrder) (bytes text : List ℕ) : Type 0 where
  pub after : List ℕ
  pub units : List ℕ
  pub marked : bytes ≡ utf16_mark order ++ after
  pub are : AreUnits order after units
  pub paired : has_unpaired_surrogate units ≡ false
  pub text_is : text ≡ encode_utf8_all (utf16_lossy_chars units)

-- the bytes are this text in an encoding
abbrev pub IsTextIn : Encoding → List ℕ → List ℕ → Type 0
IsTextIn Utf8 bytes text = IsUtf8 text × (bytes ≡ text)
IsTextIn MarkedUtf8 bytes text = IsUtf8 text × (bytes ≡ byte_order_mark ++ text)
IsTextIn Utf16Little bytes text = IsUtf16 Little bytes text
IsTextIn Utf16Big bytes text = IsUtf16 Big bytes text
IsTextIn Windows1252 bytes text = ¬ (IsUtf8 bytes) × (text ≡ encode_utf8_all (map char_of_byte bytes))
