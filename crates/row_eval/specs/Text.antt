-- Parts of texts (OData 4.01 URL Conventions, section 5.1.1.5).
use Rattle.std.specs.Prelude.{ℕ, ℤ, pos, negsuc, suc, Bool, List, [], ◌∷◌, Option, Some, None, option_map, nat_eq, is_some, length, if◌then◌else◌}
use Rattle.std.specs.List.{starts_with, ends_with}
use Rattle.std.specs.Str.{chars}
use Rattle.typed_trees.specs.declared.tree.TextTest.{TextTest}
use Rattle.typed_trees.specs.declared.tree.TextTest.TheVariants.{Contains, StartsWith, EndsWith}

-- how many elements stand before the first place where the part stands
abbrev pub place_of_part : List ℕ → List ℕ → Option ℕ
place_of_part [] part = if starts_with nat_eq [] part then Some 0 else None
place_of_part (c ∷ cs) part = if starts_with nat_eq (c ∷ cs) part then Some 0 else option_map suc (place_of_part cs part)

-- the part stands somewhere in the text
abbrev pub has_part : List ℕ → List ℕ → Bool
has_part text part = is_some (place_of_part text part)

-- a place, or -1 for none
abbrev pub index_of_place : Option ℕ → ℤ
index_of_place (Some n) = pos n
index_of_place None = negsuc 0

-- where the part begins in the text, in characters from 0; -1 where it is no part
abbrev pub index_in : List ℕ → List ℕ → ℤ
index_in text part = index_of_place (place_of_part (chars text) (chars part))

-- how many characters the text has
abbrev pub length_in : List ℕ → ℤ
length_in text = pos (length (chars text))

abbrev pub text_passes : TextTest → List ℕ → List ℕ → Bool
text_passes Contains text part = has_part text part
text_passes StartsWith text part = starts_with nat_eq text part
text_passes EndsWith text part = ends_with nat_eq text part
