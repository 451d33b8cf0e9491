-- Searches among options, on what the code keeps and on what contracts see of it.
use Rattle.std.proofs.Common.{◌≡◌, ◌<◌, ◌+◌, ◌∙◌, ℕ, Bool, true, false, List, ◌∷◌, map, drop, Option, Some, option_map, find, cond, refl, length, get_or, String, string_bytes, sym, ap, suc, drop-cons, add-one}
use Rattle.std.specs.Global.{Global}
use Rattle.std.specs.Option.{option_or}
use Rattle.std.specs.Str.{bytes_eq}
use Rattle.odata_url.specs.contracts.option_name.OptionNamePartialEq.TheImpl.{ghosts}
use Rattle.odata_url.specs.declared.option_name.OptionName.{OptionName}
use Rattle.odata_url.specs.declared.option_name.OptionName.TheVariants.{Apply, Filter, Count, OrderBy, Skip, Top, Select, Format}
use Rattle.odata_url.specs.OptionName.{option_text}
use Rattle.odata_url.specs.Target.{QueryOption, option_view}
use Rattle.odata_request.specs.Resource.{ResourceOf}
use Rattle.odata_request.specs.Options.{is_named, option_fault, options_fault, option_value}

-- `==` of two names is `==` of their texts
pub eq-option_text : (a b : OptionName) → (ghosts).eq a b ≡ bytes_eq (option_text a) (option_text b)
eq-option_text Apply b = elim b as (λ other. (ghosts).eq Apply other ≡ bytes_eq (option_text Apply) (option_text other)) [ Apply ↦ refl | _ ↦ refl ]
eq-option_text Filter b = elim b as (λ other. (ghosts).eq Filter other ≡ bytes_eq (option_text Filter) (option_text other)) [ Filter ↦ refl | _ ↦ refl ]
eq-option_text Count b = elim b as (λ other. (ghosts).eq Count other ≡ bytes_eq (option_text Count) (option_text other)) [ Count ↦ refl | _ ↦ refl ]
eq-option_text OrderBy b = elim b as (λ other. (ghosts).eq OrderBy other ≡ bytes_eq (option_text OrderBy) (option_text other)) [ OrderBy ↦ refl | _ ↦ refl ]
eq-option_text Skip b = elim b as (λ other. (ghosts).eq Skip other ≡ bytes_eq (option_text Skip) (option_text other)) [ Skip ↦ refl | _ ↦ refl ]
eq-option_text Top b = elim b as (λ other. (ghosts).eq Top other ≡ bytes_eq (option_text Top) (option_text other)) [ Top ↦ refl | _ ↦ refl ]
eq-option_text Select b = elim b as (λ other. (ghosts).eq Select other ≡ bytes_eq (option_text Select) (option_text other)) [ Select ↦ refl | _ ↦ refl ]
eq-option_text Format b = elim b as (λ other. (ghosts).eq Format other ≡ bytes_eq (option_text Format) (option_text other)) [ Format ↦ refl | _ ↦ refl ]

-- the options from one on are it and those after it
from_here : (options : List (OptionName × String Global)) (i : ℕ) (option : OptionName × String Global)
    → i < length options → option ≡ get_or options i option → drop i options ≡ option ∷ drop (i + 1) options
from_here options i option less at = rw add-one (drop-cons options i option less ∙ ap (λ (x : OptionName × String Global). x ∷ drop (suc i) options) (sym at))

-- the fault of the options from one on is its own, or that of those after it
pub fault_from : (path : ResourceOf) (options : List (OptionName × String Global)) (i : ℕ) (option : OptionName × String Global)
    → i < length options → option ≡ get_or options i option
    → options_fault path (map option_view (drop i options))
    ≡ option_or (option_fault path option.0) (options_fault path (map option_view (drop (i + 1) options)))
fault_from path options i option less at =
    ap (λ (os : List (OptionName × String Global)). options_fault path (map option_view os)) (from_here options i option less at)

chosen : (b : Bool) (option : QueryOption) (o : Option QueryOption) → option_map (λ x. x.1) (cond b (Some option) o) ≡ cond b (Some option.1) (option_map (λ x. x.1) o)
chosen true option o = refl
chosen false option o = refl

-- the value among the options from one on is its own, or among those after it
pub value_from : (name : OptionName) (options : List (OptionName × String Global)) (i : ℕ) (option : OptionName × String Global)
    → i < length options → option ≡ get_or options i option
    → option_value name (map option_view (drop i options))
    ≡ cond (is_named name (option_view option)) (Some (string_bytes option.1)) (option_value name (map option_view (drop (i + 1) options)))
value_from name options i option less at =
    ap (λ (os : List (OptionName × String Global)). option_value name (map option_view os)) (from_here options i option less at)
    ∙ chosen (is_named name (option_view option)) (option_view option) (find (is_named name) (map option_view (drop (i + 1) options)))
