-- A text, an array of texts, and a language map of such (Metadata Vocabulary for Tabular Data, sections 5.1.1 and 5.1.6).
use Rattle.std.specs.Prelude.{ℕ, Bool, not, ◌||◌, List, [], ◌∷◌, Option, None, Some, option_map, unwrap_or, is_some}
use Rattle.std.specs.List.{list_all, filter_map, flat_map}
use Rattle.serde_json.specs.Data.{Data, Members, no_members, member}
use Rattle.serde_json.specs.Find.{as_str, as_array, as_object}
use Rattle.csvw_meta.specs.Members.{present, values}

abbrev pub is_data_string : Data → Bool
is_data_string d = is_some (as_str d)

-- the values of an array, or the one value
abbrev pub values_or_one : Data → List Data
values_or_one d = unwrap_or (option_map values (as_array d)) (d ∷ [])

-- a text, or an array of texts
abbrev pub is_texts : Data → Bool
is_texts d = list_all is_data_string (values_or_one d)

-- the texts of such a value
abbrev pub texts_in : Data → List (List ℕ)
texts_in d = filter_map as_str (values_or_one d)

-- the values of an object
abbrev pub member_values : Members → List Data
member_values no_members = []
member_values (member name d ms) = d ∷ member_values ms

-- null, or a text or an array of texts
abbrev pub is_language_value : Data → Bool
is_language_value d = not (is_some (present d)) || is_texts d

-- a text, an array of texts, or a language map, in which members that are null count as absent
abbrev pub is_titles : Data → Bool
is_titles d = unwrap_or (option_map (λ ms. list_all is_language_value (member_values ms)) (as_object d)) (is_texts d)

-- all texts of such a value
abbrev pub titles_in : Data → List (List ℕ)
titles_in d = unwrap_or (option_map (λ ms. flat_map texts_in (member_values ms)) (as_object d)) (texts_in d)

-- all texts of such a value, none where there is no value
abbrev pub titles_of : Option Data → List (List ℕ)
titles_of None = []
titles_of (Some d) = titles_in d
