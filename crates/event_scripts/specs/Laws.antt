-- What a line says.
use Rattle.std.specs.Prelude.{◌≡◌, ℕ, List}
use Rattle.std.specs.List.{flat_map}
use Rattle.event_scripts.specs.Escapes.{StandsForBytes, written_byte}
use Rattle.event_scripts.specs.Command.{CommandOf, IsCommand}

-- a line is at most one command
abbrev pub OneCommand : Type 0
OneCommand = (line : List ℕ) (c d : CommandOf) → IsCommand line c → IsCommand line d → c ≡ d

-- what is written for bytes stands for these bytes
abbrev pub EscapesReadBack : Type 0
EscapesReadBack = (bytes : List ℕ) → StandsForBytes (flat_map written_byte bytes) bytes
