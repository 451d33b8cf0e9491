-- Rows in slots by the hashes of their keys: each row is in the first slot that was free, from the slot of its hash on; after the last slot the first
-- one comes again. A slot holds the number of its row, raised by an amount that the hash of its key decides.
use Rattle.std.specs.Prelude.{◌≡◌, ◌≢◌, ◌<◌, ◌≤◌, ◌+◌, ◌-◌, ◌*◌, ◌/◌, ◌%◌, ◌^◌, ◌==◌, ℕ, List, length, slice_index_or, nat_lt, if◌then◌else◌}
use Rattle.std.specs.List.{count_by}
use Rattle.cell_types.specs.Value.{CellValue}
use Rattle.key_index.specs.Hashes.{key_hash}
use Rattle.key_index.specs.declared.slots.Met.{Met}
use Rattle.key_index.specs.declared.slots.Met.TheVariants.{Row, Free, Nothing}

-- what a free slot holds
abbrev pub free : ℕ
free = 0xFFFF_FFFF

-- how many slots are free
abbrev pub free_slots : List ℕ → ℕ
free_slots slots = count_by (λ slot. slot == free) slots

-- the share of a count that a number has of 2^32
unfoldable pub share_of : ℕ → ℕ → ℕ
share_of number count = number * count / 2 ^ 32

-- the first slot of a hash
unfoldable pub first_slot : ℕ → ℕ → ℕ
first_slot hash slots = share_of (hash / 2 ^ 32) slots

-- by how much a slot raises the number of its row
unfoldable pub raise_of : ℕ → ℕ → ℕ
raise_of hash slots = share_of (hash % 2 ^ 32) (0xFFFF_FFFF - slots)

-- the slot at a place that is counted on after the last one
abbrev pub slot_index : ℕ → ℕ → ℕ
slot_index slots place = if nat_lt place slots then place else place - slots

-- what it holds
abbrev pub slot_at : List ℕ → ℕ → ℕ
slot_at slots place = slice_index_or slots (slot_index (length slots) place) free

-- no slot from the first one on is free, before a place
abbrev pub NoneFree : List ℕ → ℕ → ℕ → Type 0
NoneFree slots first place = (p : ℕ) → first ≤ p → p < place → slot_at slots p ≢ free

-- this is held in a slot that is reached from the first one on
pub record IsHeld (slots : List ℕ) (first held : ℕ) : Type 0 where
  pub place : ℕ
  pub from : first ≤ place
  pub to : place < first + length slots
  pub holds : slot_at slots place ≡ held
  pub taken : NoneFree slots first place

-- the rows below a count are held, each from the slot of its key's hash on
abbrev pub AreSeated : (ℕ → List CellValue) → List ℕ → ℕ → Type 0
AreSeated key_at slots count = (row : ℕ) → row < count
    → IsHeld slots (first_slot (key_hash (key_at row)) (length slots)) (raise_of (key_hash (key_at row)) (length slots) + row)

-- no row below a count has a key, of those that are held from the slot of the key's hash on
abbrev pub NoneHas : List ℕ → ℕ → (ℕ → List CellValue) → List CellValue → Type 0
NoneHas slots count key_at key = (row : ℕ) → row < count
    → IsHeld slots (first_slot (key_hash key) (length slots)) (raise_of (key_hash key) (length slots) + row) → key ≢ key_at row

-- a slot is the first free one from the slot of a hash on
pub record IsFirstFree (slots : List ℕ) (hash at : ℕ) : Type 0 where
  pub within : at < length slots
  pub is : slice_index_or slots at free ≡ free
  pub place : ℕ
  pub from : first_slot hash (length slots) ≤ place
  pub to : place < first_slot hash (length slots) + length slots
  pub same : slot_index (length slots) place ≡ at
  pub taken : NoneFree slots (first_slot hash (length slots)) place

-- what is met from the slot of a key's hash on: a row below a count that has the key, or else a free slot, or nothing
abbrev pub IsFirstMet : List ℕ → ℕ → (ℕ → List CellValue) → List CellValue → Met → Type 0
IsFirstMet slots count key_at key (Row row) = (row < count) × (key ≡ key_at row)
IsFirstMet slots count key_at key (Free at) = IsFirstFree slots (key_hash key) at × NoneHas slots count key_at key
IsFirstMet slots count key_at key Nothing = ((k : ℕ) → k < length slots → slice_index_or slots k free ≢ free) × NoneHas slots count key_at key
