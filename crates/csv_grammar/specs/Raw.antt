-- A field as it stands in a file: its bytes without the enclosing double quotes, and whether it has them (RFC 4180, section 2,
-- rules 5 to 7).
use Rattle.std.specs.Prelude.{ℕ, Bool, true, false, ◌&&◌, List, [], ◌∷◌, if◌then◌else◌, ◌==◌}
use Rattle.csv_grammar.specs.Bytes.{double_quote}
use Rattle.csv_grammar.specs.Records.{Field, unquoted, quoted, doubled, content}

pub record RawField : Type 0 where
  pub bytes : List ℕ
  pub quoted : Bool

-- how a field stands
abbrev pub raw_of : Field → RawField
raw_of (unquoted bytes) = record { bytes = bytes; quoted = false }
raw_of (quoted content) = record { bytes = doubled content; quoted = true }

-- each pair of double quotes made one
abbrev pub halved : List ℕ → List ℕ
halved [] = []
halved (b ∷ []) = b ∷ []
halved (b ∷ c ∷ bytes) = if b == double_quote && c == double_quote then double_quote ∷ halved bytes else b ∷ halved (c ∷ bytes)

-- the field that stands so
abbrev pub field_of : RawField → Field
field_of raw = if raw.quoted then quoted (halved raw.bytes) else unquoted raw.bytes

-- what it says
abbrev pub raw_content : RawField → List ℕ
raw_content raw = content (field_of raw)

-- the fields of the header, and those of each row after it, as they stand
pub record RawTable : Type 0 where
  pub header : List RawField
  pub rows : List (List RawField)
