-- A file whose text is read in pieces.
use Rattle.std.specs.Prelude.{◌≡◌, ◌⊎◌, ℕ, ◌-◌, ◌<◌, Bool, true, false, List, [], ◌++◌, length, map, slice_index, IsUtf8, encode_utf8_all}
use Rattle.csv_grammar.specs.Bytes.{byte_order_mark}
use Rattle.text_encodings.specs.declared.decoder.Decoder.{Decoder}
use Rattle.text_encodings.specs.declared.encoding.Encoding.{Encoding}
use Rattle.text_encodings.specs.declared.encoding.Encoding.TheVariants.{Utf8, MarkedUtf8, Utf16Little, Utf16Big, Windows1252}
use Rattle.text_encodings.specs.declared.utf16.ByteOrder.TheVariants.{Little, Big}
use Rattle.text_encodings.specs.Encodings.{IsTextIn, IsUtf16, utf16_mark}
use Rattle.text_encodings.specs.Windows1252.{char_of_byte}

-- the byte order mark of a file in an encoding
abbrev pub mark_of : Encoding → List ℕ
mark_of Utf8 = []
mark_of MarkedUtf8 = byte_order_mark
mark_of Utf16Little = utf16_mark Little
mark_of Utf16Big = utf16_mark Big
mark_of Windows1252 = []

-- the last byte, if there is one, is of ASCII
abbrev pub EndsPlain : List ℕ → Type 0
EndsPlain bytes = slice_index bytes (length bytes - 1) < 128

-- where bytes of Windows-1252 are parted
abbrev pub EndsSo : Encoding → List ℕ → Type 0
EndsSo Windows1252 bytes = EndsPlain bytes
EndsSo _ bytes = Unit {0}

-- the bytes before may be a front of a text of UTF-8, and with these ones no longer
abbrev pub MayBeUtf8 : Bool → Bool → List ℕ → Type 0
MayBeUtf8 was is bytes = is ≡ false → (was ≡ false) ⊎ (¬ (IsUtf8 bytes))

-- bytes after a byte order mark are a text
abbrev pub Decodes : Encoding → Bool → Bool → List ℕ → List ℕ → Type 0
Decodes Utf8 was is bytes text = IsTextIn Utf8 bytes text
Decodes MarkedUtf8 was is bytes text = IsTextIn Utf8 bytes text
Decodes Utf16Little was is bytes text = IsUtf16 Little (utf16_mark Little ++ bytes) text
Decodes Utf16Big was is bytes text = IsUtf16 Big (utf16_mark Big ++ bytes) text
Decodes Windows1252 was is bytes text = (text ≡ encode_utf8_all (map char_of_byte bytes)) × MayBeUtf8 was is bytes

-- a file that is read so may be in an encoding: one of Windows-1252 is no text of UTF-8
abbrev pub MayEnd : Encoding → Bool → Type 0
MayEnd Windows1252 is_utf8 = is_utf8 ≡ false
MayEnd _ is_utf8 = Unit {0}

-- the first bytes of a file are a text, and others may follow; `is_utf8` is false if no text of UTF-8 begins with these of Windows-1252
abbrev pub IsFrontIn : Encoding → Bool → List ℕ → List ℕ → Type 0
IsFrontIn Windows1252 is_utf8 bytes text =
    EndsPlain bytes × (text ≡ encode_utf8_all (map char_of_byte bytes)) × (is_utf8 ≡ false → (more : List ℕ) → ¬ (IsUtf8 (bytes ++ more)))
IsFrontIn encoding is_utf8 bytes text = IsTextIn encoding bytes text

-- bytes are given so far, and the text of all but those that are left
pub record IsDecoded (decoder : Decoder) (given text : List ℕ) : Type 0 where
  pub front : List ℕ
  pub given_is : given ≡ front ++ decoder.left.items
  pub is : IsFrontIn decoder.encoding decoder.is_utf8 front text

-- a text is appended of which that holds
abbrev pub AddsText : List ℕ → List ℕ → (List ℕ → Type 0) → Type 0
AddsText before after Holds = (text : List ℕ) × (after ≡ before ++ text) × Holds text
