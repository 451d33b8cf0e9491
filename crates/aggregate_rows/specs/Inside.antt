-- Groups as they are kept: the values of all one after another, and their sets.
use Rattle.std.specs.Prelude.{◌≡◌, ◌*◌, ◌-◌, ◌≤◌, ◌<◌, ◌^◌, ℕ, List, [], Some, length, map, slice_get, slice_index_or}
use Rattle.std.specs.Hash as fed
use Rattle.std.specs.Hash.{HashWrites}
use Rattle.cell_types.specs.Value.{CellValue, value_view}
use Rattle.cell_types.specs.declared.value.Value.{Value}
use Rattle.insertion_map.specs.Hashes.{ArePlaces, PlacesOf}
use Rattle.insertion_map.specs.Places.{hash_value}
use Rattle.value_rows.specs.ValueRows.{rows_of}
use Rattle.aggregate_rows.specs.declared.groups.Groups.TheInside.{Inside}
use Rattle.aggregate_rows.specs.Table.{groups_of, key_of_group, GroupsOf}

-- how many groups there are
abbrev pub count_of : Inside → ℕ
count_of groups = length groups.places.before

abbrev pub groups_view : Inside → GroupsOf
groups_view groups = record {
  shape = record { key = groups.key_width; results = groups.width - groups.key_width; sets = groups.set_count };
  groups = groups_of groups.key_width (rows_of groups.width (count_of groups) groups.values) (rows_of groups.set_count (count_of groups) groups.sets.items);
}

-- the hash of a key
abbrev pub hash_of_key : (Value → HashWrites) → List Value → ℕ
hash_of_key input key = hash_value (fed.slice input key)

-- each key is at a place of the hash of the values that show it
pub record AreHashed (input : Value → HashWrites) (places : PlacesOf) (keys : List (List CellValue)) : Type 0 where
  pub hashes : List ℕ
  pub are : ArePlaces places hashes
  pub as_many : length hashes ≡ length keys
  pub each : (p h : ℕ) → slice_get hashes p ≡ Some h → (key : List Value) → map value_view key ≡ slice_index_or keys p [] → hash_of_key input key ≡ h

-- each group has its values and its sets, and is found by the hash of its key
pub record AreGroups (input : Value → HashWrites) (groups : Inside) : Type 0 where
  pub wide : groups.key_width ≤ groups.width
  pub few : groups.width < 2 ^ 62
  pub values : count_of groups * groups.width ≤ length groups.values
  pub sets : count_of groups * groups.set_count ≤ length groups.sets.items
  pub places : AreHashed input groups.places (map key_of_group (groups_view groups).groups)
