-- Keys in the order in which they came, each with its place among them.
use Rattle.std.specs.Prelude.{ℕ, ◌/◌, ◌^◌, Bool, List, [], ◌∷◌, ◌++◌, if◌then◌else◌, map, refl}
use Rattle.std.specs.Coded.{Coded, code_by, coded×, coded_list, coded_ℕ}
use Rattle.std.specs.Hash.{HashWrites}
use Rattle.std.specs.Hash.FoldHasher.{finish, initial, write}
use Rattle.std.specs.List.{fold, list_any, IsDistinct}
use Rattle.insertion_map.specs.Hashes.{ArePlaces, PlacesOf}

-- the keys that came, and how many more there is room for
pub record KeysOf (K : Type 0) : Type 0 where
  pub keys : List K
  pub room : ℕ

-- how they are distinguished
abbrev pub keys_of_code : {K : Type 0} → Coded K → Coded (KeysOf K)
keys_of_code {K} code =
    code_by (List K × ℕ) (coded× (coded_list code) coded_ℕ) (λ of. (of.keys, of.room)) (λ p. record { keys = p.0; room = p.1 }) (λ _. refl)

-- the keys after one came: they stay if one of them is equal to it, and else it goes last
abbrev pub insert_key : {K : Type 0} → (K → K → Bool) → List K → K → List K
insert_key eq keys key = if list_any (eq key) keys then keys else keys ++ key ∷ []

-- the hash of what a key writes: the upper half of its 64 bits
abbrev pub hash_value : HashWrites → ℕ
hash_value writes = finish (fold write initial writes) / 2 ^ 32

-- no two keys are equal, and the places are those of the keys' hashes
pub record ArePlaced {K : Type 0} (eq : K → K → Bool) (hash : K → ℕ) (keys : List K) (places : PlacesOf) : Type 0 where
  pub distinct : IsDistinct eq keys
  pub places_are : ArePlaces places (map hash keys)
