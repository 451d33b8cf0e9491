-- Bytes with their texts, worked out by hand. The bytes of UTF-8 in the texts are those of RFC 3629, section 3.
use Rattle.std.specs.Prelude.{ℕ, List, [], ◌∷◌, ◌++◌}
use Rattle.csv_grammar.specs.Bytes.{byte_order_mark}
use Rattle.text_encodings.specs.declared.encoding.Encoding.TheVariants.{Utf8, MarkedUtf8, Utf16Little, Utf16Big, Windows1252}
use Rattle.text_encodings.specs.Encodings.{IsTextIn}

-- `Köln` in UTF-8 and in Windows-1252
abbrev pub cologne : List ℕ
cologne = 75 ∷ 0xC3 ∷ 0xB6 ∷ 108 ∷ 110 ∷ []

abbrev pub windows_cologne : List ℕ
windows_cologne = 75 ∷ 0xF6 ∷ 108 ∷ 110 ∷ []

-- the euro sign, and the quotation marks of a word processor
abbrev pub euro : List ℕ
euro = 0xE2 ∷ 0x82 ∷ 0xAC ∷ []

pub record WorkedEncodings : Type 0 where
  pub plain : IsTextIn Utf8 cologne cologne
  pub marked : IsTextIn MarkedUtf8 (byte_order_mark ++ cologne) cologne
  pub windows : IsTextIn Windows1252 windows_cologne cologne
  -- the byte 0x80 is the euro sign, and no control character
  pub windows_euro : IsTextIn Windows1252 (0x80 ∷ []) euro
  pub windows_quotes : IsTextIn Windows1252 (0x93 ∷ 0x94 ∷ []) (0xE2 ∷ 0x80 ∷ 0x9C ∷ 0xE2 ∷ 0x80 ∷ 0x9D ∷ [])
  pub little : IsTextIn Utf16Little (0xFF ∷ 0xFE ∷ 75 ∷ 0 ∷ 0xF6 ∷ 0 ∷ 108 ∷ 0 ∷ 110 ∷ 0 ∷ []) cologne
  pub big : IsTextIn Utf16Big (0xFE ∷ 0xFF ∷ 0 ∷ 75 ∷ 0 ∷ 0xF6 ∷ 0 ∷ 108 ∷ 0 ∷ 110 ∷ []) cologne
  -- U+1F600 is a pair of surrogates
  pub pair : IsTextIn Utf16Big (0xFE ∷ 0xFF ∷ 0xD8 ∷ 0x3D ∷ 0xDE ∷ 0x00 ∷ []) (0xF0 ∷ 0x9F ∷ 0x98 ∷ 0x80 ∷ [])
