-- The cells of a column of integers.
pub use Rattle.frame_of_reference.specs.Offsets.{AreBelow, AreOffsets, AreSums, AreWithin}
use Rattle.std.specs.Prelude.{◌≡◌, ◌⊎◌, MatchOption, ℕ, ℤ, pos, Bool, true, false, List, [], ◌∷◌, Option, None, Some, ◌+ℤ◌, ◌≤ℤ◌, length, map, slice_index_or}
use Rattle.block_summary.specs.declared.bounds.Bounds.{Bounds}

-- a number, or null
abbrev pub number_or_null : Bool → ℤ → Option ℤ
number_or_null true value = None
number_or_null false value = Some value

-- the number of each row, or null; no row is null past the end of the marks
abbrev pub cells_of : List Bool → List ℤ → List (Option ℤ)
cells_of nulls [] = []
cells_of [] (v ∷ vs) = Some v ∷ cells_of [] vs
cells_of (n ∷ ns) (v ∷ vs) = number_or_null n v ∷ cells_of ns vs

-- the number that each offset leads to
abbrev pub sums : ℤ → List ℕ → List ℤ
sums least offsets = map (λ offset. least +ℤ pos offset) offsets

-- the numbers of the rows lie between two numbers
abbrev pub AreBetween : ℤ → ℤ → List (Option ℤ) → Type 0
AreBetween least greatest cells =
    (i : ℕ) (value : ℤ) → slice_index_or cells i None ≡ Some value → (least ≤ℤ value) × (value ≤ℤ greatest)

-- the least number of the rows, and the greatest
pub record AreBounds (least greatest : ℤ) (cells : List (Option ℤ)) : Type 0 where
  pub least_among : (i : ℕ) × (slice_index_or cells i None ≡ Some least)
  pub greatest_among : (i : ℕ) × (slice_index_or cells i None ≡ Some greatest)
  pub between : AreBetween least greatest cells

-- no row has a number
abbrev pub AreNull : List (Option ℤ) → Type 0
AreNull cells = (i : ℕ) → slice_index_or cells i None ≡ None

-- the bounds of the rows, where some row has a number
abbrev pub HaveBounds : Option Bounds → List (Option ℤ) → Type 0
HaveBounds bounds cells = MatchOption bounds (AreNull cells) (λ b. AreBounds b.least b.greatest cells)

-- the number of each row that has one stands in its place
abbrev pub AreUnpacked : List (Option ℤ) → List ℤ → Type 0
AreUnpacked cells out = (i : ℕ) (value : ℤ) → slice_index_or cells i None ≡ Some value → slice_index_or out i (pos 0) ≡ value

-- marks of nulls that are kept in place of others: none, where none is set
pub record AreMarks (nulls kept : List Bool) : Type 0 where
  pub same : (i : ℕ) → slice_index_or kept i false ≡ slice_index_or nulls i false
  pub long : (kept ≡ []) ⊎ (length kept ≡ length nulls)
