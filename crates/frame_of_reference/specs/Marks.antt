-- Marks of the rows of a block, by their offsets.
use Rattle.std.specs.Prelude.{◌≡◌, ◌<◌, ℕ, Bool, false, ◌&&◌, nat_le, List, length, slice_index_or}

-- an offset lies between two
abbrev pub is_offset_between : ℕ → ℕ → ℕ → Bool
is_offset_between low high offset = nat_le low offset && nat_le offset high

-- the rows are marked whose offsets lie between two
abbrev pub AreMarkedBetween : ℕ → ℕ → List ℕ → List Bool → Type 0
AreMarkedBetween low high offsets out = (i : ℕ) → i < length out → slice_index_or out i false ≡ is_offset_between low high (slice_index_or offsets i 0)
