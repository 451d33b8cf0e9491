-- The texts of values that JSON and CSV write alike.
use Rattle.std.specs.Prelude.{ℕ, ℤ, Bool, List, [], ◌∷◌, ◌++◌, codes, if◌then◌else◌}
use Rattle.jiff_fmt.specs.Text.{year_text, pad2}

abbrev pub bool_text : Bool → List ℕ
bool_text truth = if truth then codes "true" else codes "false"

-- a date as `yyyy-MM-dd`
abbrev pub day_text : ℤ → ℕ → ℕ → List ℕ
day_text year month day = year_text year ++ 45 ∷ [] ++ pad2 month ++ 45 ∷ [] ++ pad2 day
