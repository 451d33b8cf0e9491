-- What holds of every text in a message.
use Rattle.std.specs.Prelude.{◌≡◌, ◌≢◌, ◌==◌, ℕ, List, [], ◌∷◌, ◌++◌, codes, IsUtf8}
use Rattle.std.specs.List.{All}
use Rattle.std.specs.Str.{NoCharPasses}
use Rattle.text_escapes.specs.Escapes.{backslash, is_control, escaped}

abbrev pub line_feed : ℕ
line_feed = 10

abbrev pub carriage_return : ℕ
carriage_return = 13

-- the text is one line: no byte of it is a line feed or a carriage return, and none of its characters is a control character
pub record IsOneLine (text : List ℕ) : Type 0 where
  pub breaks : All (λ byte. (byte ≢ line_feed) × (byte ≢ carriage_return)) text
  pub controls : NoCharPasses is_control text

-- a text without control characters is one line
abbrev pub PlainTextsAreOneLine : Type 0
PlainTextsAreOneLine = (text : List ℕ) → NoCharPasses is_control text → IsOneLine text

-- each text that is written out is one line
abbrev pub EscapedTextsAreOneLine : Type 0
EscapedTextsAreOneLine = (text : List ℕ) → IsOneLine (escaped text)

-- a text without control characters is written as it is
abbrev pub PlainTextsStay : Type 0
PlainTextsStay = (text : List ℕ) → IsUtf8 text → NoCharPasses is_control text → escaped text ≡ text

-- no backslash stands in the text
abbrev pub HasNoBackslash : List ℕ → Type 0
HasNoBackslash text = NoCharPasses (λ c. c == backslash) text

-- two texts without a backslash that are written in the same way are the same
abbrev pub TextsStayApart : Type 0
TextsStayApart = (a b : List ℕ) → IsUtf8 a → IsUtf8 b → HasNoBackslash a → HasNoBackslash b → escaped a ≡ escaped b → a ≡ b

-- texts, and how they are written
pub record WorkedTexts : Type 0 where
  -- a line feed, and a backslash that is no control character
  pub line : escaped (codes "x" ++ line_feed ∷ codes "opened 7") ≡ codes "x" ++ backslash ∷ codes "u000aopened 7"
  pub same : escaped (codes "x" ++ backslash ∷ codes "u000aopened 7") ≡ codes "x" ++ backslash ∷ codes "u000aopened 7"
  -- the sequence that makes the text of a terminal red
  pub red : escaped (0x1B ∷ codes "[31m") ≡ backslash ∷ codes "u001b[31m"
  -- U+001F and the space after it, U+007E and U+007F, U+009F and U+00A0
  pub space : escaped (0x1F ∷ 0x20 ∷ []) ≡ backslash ∷ codes "u001f "
  pub delete : escaped (0x7E ∷ 0x7F ∷ []) ≡ 0x7E ∷ backslash ∷ codes "u007f"
  pub last : escaped (0xC2 ∷ 0x9F ∷ 0xC2 ∷ 0xA0 ∷ []) ≡ backslash ∷ codes "u009f" ++ 0xC2 ∷ 0xA0 ∷ []
