-- The lines of a script.
use Rattle.std.specs.Prelude.{ℕ, List, ◌==◌, Bool}
use Rattle.std.specs.Str.Lines.{lines, strip_carriage_return}

abbrev pub is_line_feed : ℕ → Bool
is_line_feed byte = byte == 10

-- a line less the one carriage return at its end, if it has one
abbrev pub less_return : List ℕ → List ℕ
less_return line = strip_carriage_return line

-- The lines of a script: each is ended by LF, with an optional CR before it, and the last one needs no end.
abbrev pub script_lines : List ℕ → List (List ℕ)
script_lines script = lines script
