-- The columns that `$select` asks for (OData 4.01 URL Conventions, section 5.1.4).
use Rattle.std.specs.Prelude.{ℕ, ◌+◌, Bool, true, List, [], ◌∷◌, Option, Some, None, Result, Ok, Err, if◌then◌else◌}
use Rattle.std.specs.List.{list_all, list_any}
use Rattle.std.specs.Str.{bytes_eq}
use Rattle.odata_parse.specs.Tree.{SelectItemOf, all_columns, selected}
use Rattle.odata_types.specs.declared.fault.TypeFault.{TypeFault}
use Rattle.odata_types.specs.declared.fault.TypeFault.TheVariants.{UnknownName}
use Rattle.odata_types.specs.Columns.{InputOf}

-- a column has the name
abbrev pub has_name : List InputOf → List ℕ → Bool
has_name inputs name = list_any (λ c. bytes_eq name c.name) inputs

-- what an item names is there
abbrev pub is_known : List InputOf → SelectItemOf → Bool
is_known inputs all_columns = true
is_known inputs (selected name) = has_name inputs name

-- an item asks for the column of that name
abbrev pub selects : List ℕ → SelectItemOf → Bool
selects name all_columns = true
selects name (selected n) = bytes_eq name n

-- the numbers of the columns that some item asks for, of those from a number on: in the order of the columns, each once
abbrev pub selected_from : ℕ → List InputOf → List SelectItemOf → List ℕ
selected_from place [] items = []
selected_from place (c ∷ cs) items =
    if list_any (selects c.name) items then place ∷ selected_from (place + 1) cs items else selected_from (place + 1) cs items

abbrev pub selected_places : List InputOf → List SelectItemOf → List ℕ
selected_places inputs items = selected_from 0 inputs items

-- a selection, where there is one: each item must name a column, or all of them
abbrev pub optional_selection_typing : List InputOf → Option (List SelectItemOf) → Result (Option (List ℕ)) TypeFault
optional_selection_typing inputs None = Ok None
optional_selection_typing inputs (Some items) = if list_all (is_known inputs) items then Ok (Some (selected_places inputs items)) else Err UnknownName
