-- White space in the text of a cell (Model for Tabular Data and Metadata on the Web, section 6.4, steps 1 and 2).
use Rattle.std.specs.Prelude.{ℕ, List, [], ◌∷◌, Bool, true, false, ◌==◌, ◌||◌}
use Rattle.std.specs.List.{filter, join_with_byte, slice_split}

-- space, tab, line feed and carriage return
abbrev pub is_white : ℕ → Bool
is_white byte = (byte == 32) || (byte == 9) || (byte == 10) || (byte == 13)

-- a piece of a text with a byte in it
abbrev pub is_word : List ℕ → Bool
is_word [] = false
is_word (_ ∷ _) = true

-- the words of a text, which white space parts
unfoldable pub words : List ℕ → List (List ℕ)
words bytes = filter is_word (slice_split is_white bytes)

-- the text with no white space at its ends, and each run of white space made one space
unfoldable pub normal_text : List ℕ → List ℕ
normal_text bytes = join_with_byte 32 (words bytes)
