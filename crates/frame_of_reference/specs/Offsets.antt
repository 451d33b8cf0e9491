-- The values of the rows of a block, and how far each is above the least one.
use Rattle.std.specs.Prelude.{◌≡◌, ℕ, ℤ, pos, Bool, false, List, ◌<◌, ◌^◌, ◌+ℤ◌, ◌≤ℤ◌, ◌<ℤ◌, length, slice_index_or}

-- each of these numbers is below 2^63
abbrev pub AreBelow : ℤ → List ℕ → Type 0
AreBelow least offsets = (i : ℕ) → i < length offsets → (least +ℤ pos (slice_index_or offsets i 0)) <ℤ pos (2 ^ 63)

-- the values lie between two numbers, where they are no null
abbrev pub AreWithin : ℤ → ℤ → List Bool → List ℤ → Type 0
AreWithin least greatest nulls values =
    (i : ℕ) → i < length values → slice_index_or nulls i false ≡ false → (least ≤ℤ slice_index_or values i (pos 0)) × (slice_index_or values i (pos 0) ≤ℤ greatest)

-- from the least number the offset of each row leads to its value, and to no number above the greatest
pub record AreOffsets (least greatest : ℤ) (nulls : List Bool) (values : List ℤ) (offsets : List ℕ) : Type 0 where
  pub long : length offsets ≡ length values
  pub bound : (i : ℕ) → i < length offsets → (least +ℤ pos (slice_index_or offsets i 0)) ≤ℤ greatest
  pub each : (i : ℕ) → i < length offsets → slice_index_or nulls i false ≡ false → least +ℤ pos (slice_index_or offsets i 0) ≡ slice_index_or values i (pos 0)

-- each number is the sum of the least one and an offset
abbrev pub AreSums : ℤ → List ℕ → List ℤ → Type 0
AreSums least offsets out = (i : ℕ) → i < length out → slice_index_or out i (pos 0) ≡ least +ℤ pos (slice_index_or offsets i 0)
