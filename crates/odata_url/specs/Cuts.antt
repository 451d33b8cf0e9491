-- The parts of a text between the places of one byte.
use Rattle.std.specs.Prelude.{ℕ, Bool, ◌==◌, List, [], Option, Some, None}
use Rattle.std.specs.List.{before_first, after_first, slice_split}
use Rattle.std.specs.Borrow.{Bor}

-- the test that a byte is this one
abbrev pub is_byte : ℕ → ℕ → Bool
is_byte byte b = b == byte

-- the text in front of the byte's first place; all of it where there is none
abbrev pub in_front : ℕ → List ℕ → List ℕ
in_front byte text = before_first (is_byte byte) text

-- the text after it; nothing where there is none
abbrev pub behind : ℕ → List ℕ → List ℕ
behind byte text = after_first (is_byte byte) text

-- the parts of a text, split at each place of the byte
abbrev pub parts : ℕ → List ℕ → List (List ℕ)
parts byte text = slice_split (is_byte byte) text

-- the parts of a text that may be missing
abbrev pub parts_left : ℕ → Option (Bor (List ℕ)) → List (List ℕ)
parts_left byte None = []
parts_left byte (Some text) = parts byte text.now
