-- Keys in a path (OData 4.01 URL Conventions, section 4.3.1).
use Rattle.std.specs.Prelude.{ℕ, nat_eq, Bool, List, [], ◌∷◌, length, find, Option, Some, None, option_map, Result, Ok, Err, if◌then◌else◌, slice_get}
use Rattle.std.specs.Str.{bytes_eq}
use Rattle.cell_types.specs.Value.{CellValue}
use Rattle.odata_parse.specs.Tree.{LiteralOf, KeyOf, KeyPairOf, key_pair, single, named}
use Rattle.odata_types.specs.declared.fault.TypeFault.{TypeFault}
use Rattle.odata_types.specs.declared.fault.TypeFault.TheVariants.{BadKey}
use Rattle.odata_types.specs.declared.types.ColumnType.{ColumnType}
use Rattle.odata_types.specs.Columns.{InputOf}
use Rattle.odata_types.specs.KeyValue.{kind_value}
use Rattle.odata_types.specs.Result.{◌>>=◌}

-- a literal in a column of the key
abbrev pub key_value : ColumnType → LiteralOf → Result CellValue TypeFault
key_value type v = kind_value type.kind v

-- the name and the value of a pair
abbrev pub is_under : List ℕ → KeyPairOf → Bool
is_under name (key_pair n v) = bytes_eq name n

abbrev pub pair_value : KeyPairOf → LiteralOf
pair_value (key_pair n v) = v

-- the value under a name
abbrev pub value_under : List KeyPairOf → List ℕ → Option LiteralOf
value_under pairs name = option_map pair_value (find (is_under name) pairs)

abbrev pub value_of_type : ColumnType → Option LiteralOf → Result CellValue TypeFault
value_of_type type None = Err BadKey
value_of_type type (Some v) = key_value type v

-- a literal, or the one under the column's name, in the column of a key
abbrev pub literal_in : Option InputOf → LiteralOf → Result CellValue TypeFault
literal_in None v = Err BadKey
literal_in (Some c) v = key_value c.column_type v

abbrev pub named_value_in : Option InputOf → List KeyPairOf → Result CellValue TypeFault
named_value_in None pairs = Err BadKey
named_value_in (Some c) pairs = value_of_type c.column_type (value_under pairs c.name)

abbrev pub value_in_place : List InputOf → ℕ → LiteralOf → Result CellValue TypeFault
value_in_place inputs place v = literal_in (slice_get inputs place) v

abbrev pub named_value : List InputOf → List KeyPairOf → ℕ → Result CellValue TypeFault
named_value inputs pairs place = named_value_in (slice_get inputs place) pairs

-- the values under the names of the key's columns, in the key's order
abbrev pub named_values : List InputOf → List KeyPairOf → List ℕ → Result (List CellValue) TypeFault
named_values inputs pairs [] = Ok []
named_values inputs pairs (place ∷ places) = named_value inputs pairs place >>= λ v. named_values inputs pairs places >>= λ vs. Ok (v ∷ vs)

abbrev pub single_values : List InputOf → ℕ → LiteralOf → Result (List CellValue) TypeFault
single_values inputs place v = value_in_place inputs place v >>= λ x. Ok (x ∷ [])

-- The values of a key, for a table whose key is these columns: a literal alone is for a key of one column; under names there are as many values as
-- columns, in any order, and one under the name of each.
abbrev pub key_typing : List InputOf → List ℕ → KeyOf → Result (List CellValue) TypeFault
key_typing inputs [] key = Err BadKey
key_typing inputs (place ∷ []) (single v) = single_values inputs place v
key_typing inputs places (single v) = Err BadKey
key_typing inputs places (named pairs) = if nat_eq (length pairs) (length places) then named_values inputs pairs places else Err BadKey

-- a key, where there is one
abbrev pub optional_key_typing : List InputOf → List ℕ → Option KeyOf → Result (Option (List CellValue)) TypeFault
optional_key_typing inputs places None = Ok None
optional_key_typing inputs places (Some key) = key_typing inputs places key >>= λ values. Ok (Some values)
