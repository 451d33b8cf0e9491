-- The hash of a key: each of its values writes its own bytes, one value after another. Keys with the same values have one hash; nothing else is
-- said of it.
use Rattle.std.specs.Prelude.{ℕ, ℤ, List, [], ◌∷◌, Option, None, Some}
use Rattle.std.specs.Hash.{HashWrites, i128}
use Rattle.std.specs.Hash.FoldHasher.{finish, initial, write}
use Rattle.std.specs.List.{fold}
use Rattle.std.specs.declared.hash.FoldHasher.{FoldHasher}
use Rattle.cell_types.specs.Kind.{number_of}
use Rattle.cell_types.specs.Value.{CellValue, text}

-- what a value writes: a null nothing, a text its bytes, any other value its number
abbrev pub number_writes : Option ℤ → HashWrites
number_writes None = []
number_writes (Some number) = i128 number

abbrev pub cell_writes : CellValue → HashWrites
cell_writes (text t) = t ∷ []
cell_writes value = number_writes (number_of value)

-- a hasher after a value
abbrev pub hash_cell : FoldHasher → CellValue → FoldHasher
hash_cell hasher value = fold write hasher (cell_writes value)

-- the hash of a key
abbrev pub key_hash : List CellValue → ℕ
key_hash key = finish (fold hash_cell initial key)
