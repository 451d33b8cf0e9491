-- A list of numbers in which the numbers of rows are looked up.
use Rattle.std.specs.Prelude.{◌≡◌, ◌≢◌, ◌<◌, ◌%◌, ℕ, ℤ, pos, Option, None, Some, List, FitsSigned, length, slice_index_or}
use Rattle.std.specs.Int.{cast_unsigned, w64}
use Rattle.std.specs.List.{list_any}
use Rattle.std.specs.Ordering.{int_cmp, int_eq}
use Rattle.block_summary.specs.declared.bounds.Bounds.{Bounds}
use Rattle.row_eval.specs.declared.truth.Truth.{Truth}
use Rattle.row_eval.specs.Comparison.{is_among}
use Rattle.row_eval.specs.Logic.{truth_of}
use Rattle.block_eval.specs.declared.bounded.Bounded.{Bounded}
use Rattle.block_eval.specs.declared.items.Items.{Items}
use Rattle.block_eval.specs.declared.items.TheConstants.{SLOTS}
use Rattle.block_eval.specs.Bounded.{IsLaneWithin}
use Rattle.block_eval.specs.Bounds.{IsWithinKnown}
use Rattle.block_eval.specs.Lanes.{number_lane, truth_lane}

-- the slot of a number is what its 64 bits leave
abbrev pub slot_of : ℤ → ℕ
slot_of n = cast_unsigned w64 n % SLOTS

-- an item by itself, where it is a number of 64 bits that may lie between the bounds
abbrev pub IsNearItem : Option Bounds → Option ℤ → Option ℤ → Type 0
IsNearItem known item (Some near) = item ≡ Some near
IsNearItem known item None = (n : ℤ) → FitsSigned w64 n → IsWithinKnown known (Some n) → item ≢ Some n

-- a number of 64 bits that lies between the bounds is one of the numbers where it is one of the items
abbrev pub HaveNearItems : Option Bounds → List (Option ℤ) → List ℤ → Type 0
HaveNearItems known items numbers =
    (n : ℤ) → FitsSigned w64 n → IsWithinKnown known (Some n) → list_any (λ m. int_eq m n) numbers ≡ is_among int_cmp (Some n) items

-- the slot of each number is above 0
pub record AreSlotted (numbers : List ℤ) (slots : List ℕ) : Type 0 where
  pub each : (k : ℕ) → k < length numbers → slice_index_or slots (slot_of (slice_index_or numbers k (pos 0))) 0 ≢ 0
  pub long : length slots ≡ SLOTS

-- those numbers in their slots, and whether null is an item
pub record HasItems (known : Option Bounds) (items : List (Option ℤ)) (made : Items) : Type 0 where
  pub near : HaveNearItems known items made.numbers.items
  pub slotted : AreSlotted made.numbers.items made.slots.items
  pub null_is : made.has_null ≡ is_among int_cmp None items

-- on each row, for whichever bounds and items those are, if its number lies between the bounds: whether it is one of the items
abbrev pub HaveFound : Items → (ℕ → Option ℤ) → List Truth → Type 0
HaveFound made number truths = (known : Option Bounds) (items : List (Option ℤ)) → HasItems known items made → (row : ℕ) → row < length truths → IsWithinKnown known (number row)
    → truth_lane truths row ≡ truth_of (is_among int_cmp (number row) items)

-- on each row whose number lies between the bounds, whether it is one of the items
pub record AreFoundAmong (v : Bounded) (items : List (Option ℤ)) (rows : ℕ) (truths : List Truth) : Type 0 where
  pub each : (row : ℕ) → row < rows → IsLaneWithin v row → truth_lane truths row ≡ truth_of (is_among int_cmp (number_lane v.numbers row) items)
  pub long : length truths ≡ rows
