-- The lines that are printed of what commands are answered.
use Rattle.std.specs.Prelude.{ℕ, List, [], ◌∷◌, ◌++◌, codes, length}
use Rattle.std.specs.Fmt.{decimal}
use Rattle.std.specs.List.{flat_map}
use Rattle.event_scripts.specs.Escapes.{written_byte, line_feed}

-- a text as a line
abbrev pub line_of : List ℕ → List ℕ
line_of text = text ++ line_feed ∷ []

-- the place that a connection was opened at
abbrev pub place_text : ℕ → List ℕ
place_text place = codes "conn " ++ decimal place

-- the number of the bytes that were taken, and these
abbrev pub bytes_text : List ℕ → List ℕ
bytes_text bytes = codes "bytes " ++ decimal (length bytes) ++ codes " " ++ flat_map written_byte bytes

-- why a call was refused
abbrev pub text_of_refusal : List ℕ → List ℕ
text_of_refusal name = codes "refused " ++ name
