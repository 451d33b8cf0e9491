-- Sums of the numbers of a column.
use Rattle.std.specs.Prelude.{ℤ, pos, ◌+ℤ◌, List, [], ◌∷◌, Option, None, Some}

-- the sum of the numbers that are no null
abbrev pub number_sum : List (Option ℤ) → ℤ
number_sum [] = pos 0
number_sum (None ∷ ns) = number_sum ns
number_sum (Some n ∷ ns) = n +ℤ number_sum ns
