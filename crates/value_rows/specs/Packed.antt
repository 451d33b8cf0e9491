-- Values, each in a slot: beside the slots there are the texts, one after another, and the values that are not packed, each with its place in the list.
use Rattle.std.specs.Prelude.{◌≡◌, ◌+◌, ◌*◌, ◌<◌, ◌≤◌, ◌++◌, ℕ, suc, List, [], ◌∷◌, Option, Some, None, IsUtf8, length, slice_get, slice_index_or, slice_range}
use Rattle.std.specs.Str.{IsCharBoundary}
use Rattle.cell_types.specs.Value.{CellValue, null, integer, decimal, boolean, date, text, value_view}
use Rattle.value_rows.specs.declared.slots.LentValue.{LentValue}
use Rattle.value_rows.specs.declared.slots.LentValue.TheVariants as lent
use Rattle.value_rows.specs.declared.slots.Other.{Other}
use Rattle.value_rows.specs.declared.slots.Slot.{Slot}
use Rattle.value_rows.specs.declared.slots.Slot.TheVariants as slots

-- a value that is lent
abbrev pub lent_value_view : LentValue → CellValue
lent_value_view lent.Null = null
lent_value_view (lent.Integer number) = integer number
lent_value_view (lent.Decimal number) = decimal number
lent_value_view (lent.Boolean truth) = boolean truth
lent_value_view (lent.Date day) = date day.year day.month day.day
lent_value_view (lent.Text t) = text t.now
lent_value_view (lent.Other value) = value_view value.now

-- a value that is not packed
abbrev pub other_view : Option Other → CellValue
other_view (Some other) = value_view other.value
other_view None = null

-- the value of a slot
abbrev pub slot_view : List ℕ → List Other → Slot → CellValue
slot_view texts others slots.Null = null
slot_view texts others (slots.Integer number) = integer number
slot_view texts others (slots.Decimal number) = decimal number
slot_view texts others (slots.Boolean truth) = boolean truth
slot_view texts others (slots.Date day) = date day.year day.month day.day
slot_view texts others (slots.Text start len) = text (slice_range texts start (start + len))
slot_view texts others (slots.Other other) = other_view (slice_get others other)

-- a slot is that of a text of that length between two places among all texts
pub record IsSpanned (slot : Slot) (len low high : ℕ) : Type 0 where
  pub start : ℕ
  pub is : slot ≡ slots.Text start len
  pub after : low ≤ start
  pub before : start + len ≤ high

-- and so for as many slots from one on as there are lengths, of which each comes some places after the one before; one of them ends where all end
pub record AreSpanned (all : List Slot) (from step : ℕ) (lengths : List ℕ) (low high : ℕ) : Type 0 where
  pub order : low ≤ high
  pub each : (i : ℕ) → i < length lengths → IsSpanned (slice_index_or all (from + i * step) slots.Null) (slice_index_or lengths i 0) low high
  pub last : ℕ
  pub within : last < length lengths
  pub start : ℕ
  pub len : ℕ
  pub is : slice_index_or all (from + last * step) slots.Null ≡ slots.Text start len
  pub end : high ≤ start + len

-- bytes have a text somewhere
pub record HaveText (bytes t : List ℕ) : Type 0 where
  pub place : ℕ
  pub fits : place + length t ≤ length bytes
  pub reads : (k : ℕ) → k < length t → slice_index_or bytes (place + k) 0 ≡ slice_index_or t k 0

-- a value is a text of that length, which bytes have
pub record IsTextWithin (value : CellValue) (len : ℕ) (bytes : List ℕ) : Type 0 where
  pub t : List ℕ
  pub is : value ≡ text t
  pub long : len ≡ length t
  pub have : HaveText bytes t

-- and so for as many values as there are lengths
abbrev pub AreTextsWithin : (ℕ → CellValue) → List ℕ → List ℕ → Type 0
AreTextsWithin value lengths bytes = (i : ℕ) → i < length lengths → IsTextWithin (value i) (slice_index_or lengths i 0) bytes

-- what a slot names is there: a whole text, or a value that is that of this place
abbrev pub IsSlot : List ℕ → List Other → ℕ → Slot → Type 0
IsSlot texts others place (slots.Text start len) = IsCharBoundary texts start × IsCharBoundary texts (start + len)
IsSlot texts others place (slots.Other other) = (o : Other) × (slice_get others other ≡ Some o) × (o.place ≡ place)
IsSlot texts others place _ = Unit {0}

-- and so for each slot, the first of which is at a place
abbrev pub AreSlots : List ℕ → List Other → ℕ → List Slot → Type 0
AreSlots texts others place [] = Unit {0}
AreSlots texts others place (slot ∷ more) = IsSlot texts others place slot × AreSlots texts others (suc place) more

-- a slot has a value
pub record IsSlotOfValue (texts : List ℕ) (others : List Other) (place : ℕ) (value : CellValue) (slot : Slot) : Type 0 where
  pub is : IsSlot texts others place slot
  pub view : slot_view texts others slot ≡ value

-- whatever else is there
abbrev pub IsPlain : CellValue → Slot → Type 0
IsPlain value slot = (texts : List ℕ) (others : List Other) (place : ℕ) → IsSlotOfValue texts others place value slot

-- it is that of a text, whatever else is there
abbrev pub IsTextSlot : List ℕ → List ℕ → Slot → Type 0
IsTextSlot texts t slot = (others : List Other) (place : ℕ) → IsSlotOfValue texts others place (text t) slot

-- more came after some
abbrev pub Grows : List Other → List Other → Type 0
Grows old new = (more : List Other) × (new ≡ old ++ more)

abbrev pub GrowsByText : List ℕ → List ℕ → Type 0
GrowsByText old new = (more : List ℕ) × IsUtf8 more × (new ≡ old ++ more)

abbrev pub Grow : List ℕ → List Other → List ℕ → List Other → Type 0
Grow texts others new_texts new_others = GrowsByText texts new_texts × Grows others new_others
