-- The members of objects (RFC 8259, section 4). A member whose value is null counts as absent.
use Rattle.std.specs.Prelude.{ℕ, Bool, true, not, nat_lt, nat_le, length, List, [], ◌∷◌, Option, None, Some, option_map, option_and_then, is_some, unwrap_or}
use Rattle.std.specs.Option.{option_or}
use Rattle.serde_json.specs.Data.{Data, null, Items, no_items, item}
use Rattle.serde_json.specs.Find.{get, as_str, as_array}
use Rattle.csvw_meta.specs.Fault.{MetaCause, unsupported}
use Rattle.csvw_meta.specs.Refusal.{Condition, ensure}

-- a value that is not null
abbrev pub present : Data → Option Data
present null = None
present d = Some d

-- the value of that member, where there is one
abbrev pub member : List ℕ → Data → Option Data
member name d = option_and_then present (get name d)

-- there is such a member
abbrev pub has : List ℕ → Data → Bool
has name d = is_some (member name d)

-- there is no such member, for it is not served
abbrev pub absent : List ℕ → Data → Condition
absent name d = ensure (not (has name d)) (unsupported name)

-- there is no value, or the test holds of it
abbrev pub fits : (Data → Bool) → Option Data → Bool
fits test None = true
fits test (Some d) = test d

-- the text of that member, empty where it has none
abbrev pub text_member : List ℕ → Data → List ℕ
text_member name d = unwrap_or (option_and_then as_str (member name d)) []

-- the values of an array
abbrev pub values : Items → List Data
values no_items = []
values (item d ds) = d ∷ values ds

-- the values of that member, none where it is no array
abbrev pub array_member : List ℕ → Data → List Data
array_member name d = unwrap_or (option_map values (option_and_then as_array (member name d))) []

-- there is a value, and there are no more than the limit
unfoldable pub count_conditions : ℕ → MetaCause → MetaCause → List Data → List Condition
count_conditions limit none many ds =
    ensure (nat_lt 0 (length ds)) none
    ∷ ensure (nat_le (length ds) limit) many
    ∷ []

-- that member at the first level that has it
abbrev pub nearest : List ℕ → List Data → Option Data
nearest name [] = None
nearest name (level ∷ levels) = option_or (member name level) (nearest name levels)
