-- A file that comes in pieces: its first lines are read, and the bytes after them are given.
use Rattle.std.specs.Prelude.{◌≡◌, ◌⊎◌, ℕ, ◌+◌, ◌^◌, ◌≤◌, List, ◌++◌, length}
use Rattle.csv_grammar.specs.Raw.{RawTable}
use Rattle.csv_windows.specs.Windows.{AreFaulty, BeginsFile, Continues, HasLines}
use Rattle.csv_windows.specs.declared.front.FirstLines.{FirstLines}
use Rattle.csv_windows.specs.declared.front.FirstLines.TheVariants as lines
use Rattle.csv_windows.specs.declared.front.TableSize.{TableSize}
use Rattle.folder_checks.specs.declared.windows.Fed.{Fed}
use Rattle.folder_checks.specs.declared.windows.Fed.TheVariants.{Rows, On}
use Rattle.folder_checks.specs.declared.windows.Windows.{Windows}

-- how many bytes were given
abbrev pub fed_len : Windows → ℕ
fed_len windows = windows.front.len + length windows.window.items

-- these bytes were given, and those first ones are read
pub record HasWindows (given front : List ℕ) (windows : Windows) : Type 0 where
  pub is : given ≡ front ++ windows.window.items
  pub begins : BeginsFile front windows.front
  pub short : length given ≤ 2 ^ 30

abbrev pub IsGivenTo : List ℕ → Windows → Type 0
IsGivenTo given windows = (front : List ℕ) × HasWindows given front windows

-- more of the bytes that were given is read: rows after the first lines, nothing, or lines with which the file is no table
abbrev pub ReadsWindowOn : List ℕ → List ℕ → Windows → Fed → Type 0
ReadsWindowOn given front old (Rows first file new) =
    (first ≡ old.front.lines) × (next : List ℕ) × HasWindows given next new × Continues front next first file (HasLines new.front.lines)
ReadsWindowOn given front old (On new) =
    (HasWindows given front new × (new.front.lines ≡ old.front.lines)) ⊎ ((next : List ℕ) × HasWindows given next new × AreFaulty new.front.lines)

-- the rows of the rest follow the first lines, and the whole is a table of that size
abbrev pub EndsWindows : List ℕ → List ℕ → Windows → FirstLines × RawTable × TableSize → Type 0
EndsWindows given front windows end = (end.0 ≡ windows.front.lines) × Continues front given end.0 end.1 (HasLines (lines.Table end.2))
