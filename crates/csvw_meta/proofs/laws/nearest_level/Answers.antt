-- Level by level.
use Rattle.std.proofs.Common.{◌≡◌, ℕ, List, [], ◌∷◌, ◌++◌, None, Some, refl}
use Rattle.std.specs.List.{All}
use Rattle.std.proofs.lemmas.List.Elements.{All-head, All-tail}
use Rattle.serde_json.specs.Data.{Data}
use Rattle.csvw_meta.specs.Members.{member, nearest}
use Rattle.csvw_meta.proofs.laws.nearest_level.Goals as goal

first : (name : List ℕ) (before : List Data) (level : Data) (behind : List Data) (value : Data) → All (λ d. member name d ≡ None) before
    → member name level ≡ Some value → nearest name (before ++ level ∷ behind) ≡ Some value
first name [] level behind value silent is = rw is refl
first name (d ∷ before) level behind value silent is =
    rw (All-head (λ d. member name d ≡ None) d before silent) (first name before level behind value (All-tail (λ d. member name d ≡ None) d before silent) is)

none : (name : List ℕ) (levels : List Data) → All (λ d. member name d ≡ None) levels → nearest name levels ≡ None
none name [] silent = refl
none name (d ∷ levels) silent =
    rw (All-head (λ d. member name d ≡ None) d levels silent) (none name levels (All-tail (λ d. member name d ≡ None) d levels silent))

pub returns : goal.returns
returns c = record { first = first; none = none }
