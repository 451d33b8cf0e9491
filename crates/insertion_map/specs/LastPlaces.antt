-- The last place of each hash.
use Rattle.std.specs.Prelude.{ℕ, ◌/◌, ◌^◌, nat_eq, List, [], ◌∷◌, Option, map, slice_index_or}
use Rattle.std.specs.HashMap.{HashMap}
use Rattle.std.specs.Map.{lookup}
use Rattle.std.specs.Option.{option_or}

-- the last places of the first hashes, those of later ones in parts, and how many more hashes there is room for
pub record LastOf : Type 0 where
  pub first : List (ℕ × ℕ)
  pub parts : List (List (ℕ × ℕ))
  pub room : ℕ

-- the entries of maps
abbrev pub entries_of : {S : Type 0} → List (HashMap ℕ ℕ S) → List (List (ℕ × ℕ))
entries_of parts = map (λ part. part.entries) parts

-- the entries of the map with a number
abbrev pub entries_at : {S : Type 0} → List (HashMap ℕ ℕ S) → ℕ → List (ℕ × ℕ)
entries_at parts at = slice_index_or (entries_of parts) at []

-- the room of the first map, as long as there are no parts
abbrev pub first_room : {X : Type 0} → List X → ℕ → ℕ
first_room [] room = room
first_room (_ ∷ _) room = 0

-- the last place of a hash: of its part, or else of the first hashes
abbrev pub last_of : LastOf → ℕ → Option ℕ
last_of last hash = option_or (lookup (nat_eq hash) (slice_index_or last.parts (hash / 2 ^ 24) [])) (lookup (nat_eq hash) last.first)
