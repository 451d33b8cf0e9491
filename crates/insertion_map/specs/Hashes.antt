-- Places by hashes.
use Rattle.std.specs.Prelude.{◌≡◌, ◌<◌, ◌≤◌, ℕ, Bool, true, false, nat_le, List, Option, Some, None, length, if◌then◌else◌, slice_get, slice_index_or}
use Rattle.insertion_map.specs.LastPlaces.{LastOf, last_of}

-- the last place of each hash, for each place the one before it of the same hash, and how many more places there is room for
pub record PlacesOf : Type 0 where
  pub last : LastOf
  pub before : List ℕ
  pub room : ℕ

-- the less of two numbers
abbrev pub less_of : ℕ → ℕ → ℕ
less_of a b = if nat_le a b then a else b

-- the place before a place
abbrev pub before_at : List ℕ → ℕ → ℕ
before_at before place = slice_index_or before place 0

-- each place leads to the nearest place before it that has the same hash
pub record AreLinked (hashes before : List ℕ) : Type 0 where
  pub long : length hashes ≡ length before
  pub nearest : (p q h : ℕ) → slice_get hashes p ≡ Some h → slice_get hashes q ≡ Some h → q < p → (before_at before p < p) × (q ≤ before_at before p)
  pub same : (p h : ℕ) → slice_get hashes p ≡ Some h → before_at before p < p → slice_get hashes (before_at before p) ≡ Some h

-- a hash has the last place that has it
pub record HasLast (hashes : List ℕ) (last : LastOf) : Type 0 where
  pub each : (q h : ℕ) → slice_get hashes q ≡ Some h → (p : ℕ) × (last_of last h ≡ Some p) × (q ≤ p)
  pub within : (h p : ℕ) → last_of last h ≡ Some p → slice_get hashes p ≡ Some h

-- those are the hashes of the places
pub record ArePlaces (places : PlacesOf) (hashes : List ℕ) : Type 0 where
  pub linked : AreLinked hashes places.before
  pub lasts : HasLast hashes places.last

-- a test may be made of each place of a hash
pub record MayFindPlace (tests : ℕ → Type 0) (places : PlacesOf) (hash : ℕ) : Type 0 where
  pub hashes : List ℕ
  pub are : ArePlaces places hashes
  pub each : (p : ℕ) → slice_get hashes p ≡ Some hash → tests p

-- what is found is a place of the hash on which the test is true; if there is none, the test is false on each of the hash
pub record IsFoundOf (tells : ℕ → Bool → Type 0) (hashes : List ℕ) (hash : ℕ) (found : Option ℕ) : Type 0 where
  pub some : (p : ℕ) → found ≡ Some p → (slice_get hashes p ≡ Some hash) × tells p true
  pub none : found ≡ None → (p : ℕ) → slice_get hashes p ≡ Some hash → tells p false

-- a test may be made of a place, and of each before it that has the same hash
pub record MayFindFrom (tests : ℕ → Type 0) (before : List ℕ) (place : ℕ) : Type 0 where
  pub hashes : List ℕ
  pub hash : ℕ
  pub linked : AreLinked hashes before
  pub here : slice_get hashes place ≡ Some hash
  pub each : (p : ℕ) → slice_get hashes p ≡ Some hash → p ≤ place → tests p

-- and so of what is found
pub record IsFoundFrom (tells : ℕ → Bool → Type 0) (before : List ℕ) (place : ℕ) (found : Option ℕ) : Type 0 where
  pub some : (p : ℕ) → found ≡ Some p → (hashes : List ℕ) (hash : ℕ) → AreLinked hashes before → slice_get hashes place ≡ Some hash → (slice_get hashes p ≡ Some hash) × tells p true
  pub none : found ≡ None → (hashes : List ℕ) (hash : ℕ) → AreLinked hashes before → slice_get hashes place ≡ Some hash → (p : ℕ) → slice_get hashes p ≡ Some hash → p ≤ place → tells p false
