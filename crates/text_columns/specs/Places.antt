-- The places where texts end, in as few bytes as they need.
use Rattle.std.specs.Prelude.{ℕ, List}
use Rattle.text_columns.specs.declared.places.Places.{Places}
use Rattle.text_columns.specs.declared.places.Places.TheVariants.{Twos, Fours, Eights}

-- the places, whatever their width
abbrev pub place_list : Places → List ℕ
place_list (Twos v) = v.items
place_list (Fours v) = v.items
place_list (Eights v) = v.items
