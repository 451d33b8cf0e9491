-- The lines that say why a folder is refused.
use Rattle.std.specs.Prelude.{ℕ, List, [], ◌∷◌, ◌++◌, Option, None, Some, codes, if◌then◌else◌, nat_eq, take}
use Rattle.std.specs.List.{starts_with}
use Rattle.std.specs.Option.{unwrap_or}
use Rattle.diagnostics.specs.declared.report.TheConstants.{MOST_REFUSALS}

-- the first line that begins with a front
abbrev pub first_with : List ℕ → List (List ℕ) → Option (List ℕ)
first_with front [] = None
first_with front (line ∷ lines) = if starts_with nat_eq line front then Some line else first_with front lines

-- the lines but that one
abbrev pub without_first : List ℕ → List (List ℕ) → List (List ℕ)
without_first front [] = []
without_first front (line ∷ lines) = if starts_with nat_eq line front then lines else line ∷ without_first front lines

-- what says more of a cause
abbrev pub more_of : List ℕ → List ℕ
more_of cause = cause ++ codes ": "

-- the first line that says more of the cause, or the cause alone, and after it the others, at most as many as are reported
abbrev pub said_lines : List ℕ → List (List ℕ) → List (List ℕ)
said_lines cause lines = take MOST_REFUSALS (unwrap_or (first_with (more_of cause) lines) cause ∷ without_first (more_of cause) lines)
