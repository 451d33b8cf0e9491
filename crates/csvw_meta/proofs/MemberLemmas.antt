-- The values of arrays, and members at levels.
use Rattle.std.proofs.Common.{◌≡◌, List, [], ◌∷◌, map, refl, ap}
use Rattle.serde_json.specs.View.{view, items_view, members_view}
use Rattle.serde_json.specs.declared.value.Value.{Value}
use Rattle.std.specs.Map.{values_of}
use Rattle.std.specs.Prelude.{String}
use Rattle.std.specs.declared.alloc.Global.{Global}
use Rattle.csvw_meta.specs.Members.{values}
use Rattle.csvw_meta.specs.Texts.{member_values}

-- the values of a list of them
pub values-items_view : (vs : List Value) → values (items_view vs) ≡ map view vs
values-items_view [] = refl
values-items_view (v ∷ vs) = ap (λ ds. view v ∷ ds) (values-items_view vs)

-- the values of an object's members
pub member_values-members_view : (ms : List (String Global × Value)) → member_values (members_view ms) ≡ map view (values_of ms)
member_values-members_view [] = refl
member_values-members_view (m ∷ ms) = ap (λ ds. view m.1 ∷ ds) (member_values-members_view ms)
