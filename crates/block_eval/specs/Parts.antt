-- The year, the month and the day of the day that a number stands for.
use Rattle.std.specs.Prelude.{ℤ, pos, ◌/◌, ◌%◌}
use Rattle.std.specs.Int.{int_div_euclid}
use Rattle.cell_types.specs.Kind.{place_in_year}
use Rattle.typed_trees.specs.declared.tree.DatePart.{DatePart}
use Rattle.typed_trees.specs.declared.tree.DatePart.TheVariants.{Year, Month, Day}

abbrev pub day_part : DatePart → ℤ → ℤ
day_part Year n = int_div_euclid n (pos 512)
day_part Month n = pos (place_in_year n / 32)
day_part Day n = pos (place_in_year n % 32)
