-- The members that a column inherits from its schema, its table and the group (Metadata Vocabulary for Tabular Data, section 5.7).
use Rattle.std.specs.Prelude.{ℕ, Bool, false, List, [], ◌∷◌, ◌++◌, length, nat_le, codes, Option, None, Some, option_and_then, option_map, is_some, unwrap_or}
use Rattle.serde_json.specs.Data.{Data}
use Rattle.serde_json.specs.Find.{as_str, as_bool}
use Rattle.csvw_meta.specs.declared.limits.TheConstants.{MOST_METADATA_BYTES}
use Rattle.csvw_meta.specs.Refusal.{Condition, ensure}
use Rattle.csvw_meta.specs.Members.{member, fits}
use Rattle.csvw_meta.specs.Texts.{is_texts, texts_in}
use Rattle.csvw_meta.specs.Datatype.{datatype_member_conditions}

abbrev pub is_truth : Data → Bool
is_truth d = is_some (as_bool d)

-- a text of at most as many bytes as metadata may have; each text in metadata is one, for a string of JSON has no fewer bytes than what it says
abbrev pub is_short_text : Data → Bool
is_short_text d = unwrap_or (option_map (λ text. nat_le (length text) MOST_METADATA_BYTES) (as_str d)) false

-- the conditions on what a level says for the columns in it
unfoldable pub inherited_conditions : Data → List Condition
inherited_conditions d =
    datatype_member_conditions (member (codes "datatype") d)
    ++ ensure (fits is_texts (member (codes "null") d)) (codes "BadNull")
    ∷ ensure (fits is_short_text (member (codes "default") d)) (codes "BadDefault")
    ∷ ensure (fits is_truth (member (codes "required") d)) (codes "BadRequired")
    ∷ []

-- the texts that stand for null: the empty one where no level says any
abbrev pub nulls_of : Option Data → List (List ℕ)
nulls_of None = [] ∷ []
nulls_of (Some d) = texts_in d

-- what an empty text stands for: the empty text where no level says another
abbrev pub default_of : Option Data → List ℕ
default_of d = unwrap_or (option_and_then as_str d) []

-- whether a value is required: not where no level says so
abbrev pub required_of : Option Data → Bool
required_of d = unwrap_or (option_and_then as_bool d) false
