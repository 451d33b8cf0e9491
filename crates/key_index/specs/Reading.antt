-- The keys of rows are read, those of the first rows first: they rise, or the rows are put in slots.
use Rattle.std.specs.Prelude.{◌≡◌, ℕ, ◌+◌, ◌-◌, ◌*◌, ◌/◌, ◌<◌, ◌≤◌, List, length, replicate, take, None, Vec, vec_len}
use Rattle.std.specs.Global.{Global}
use Rattle.key_index.specs.declared.reading.KeyStep.{KeyStep}
use Rattle.key_index.specs.declared.reading.KeyStep.TheVariants as key_steps
use Rattle.key_index.specs.declared.reading.KeysReading.{KeysReading}
use Rattle.key_index.specs.declared.reading.Next.{Next}
use Rattle.key_index.specs.declared.reading.Next.TheVariants as nexts
use Rattle.key_index.specs.declared.reading.Seats.{Seats}
use Rattle.key_index.specs.declared.reading.Held.{Held}
use Rattle.key_index.specs.declared.reading.Held.TheVariants as held_by
use Rattle.key_index.specs.Key.{null_row, repeated_row, row_key}
use Rattle.key_index.specs.Keys.{typed_keys, typed_row, AreKeysOf, HasKeyFault}
use Rattle.key_index.specs.Rising.{Rises}
use Rattle.key_index.specs.Slots.{free, free_slots, AreSeated}
use Rattle.column_blocks.specs.ColumnCells.{ColumnCells}

-- how many slots that many keys take
abbrev pub slots_for : ℕ → ℕ
slots_for keys = keys + keys / 3 + 1

-- these slots are made, all of them free, and no more than that many keys take
pub record HasFreeSlots (keys : ℕ) (slots : Vec ℕ Global) : Type 0 where
  pub are : slots.items ≡ replicate (vec_len slots) free
  pub within : vec_len slots ≤ slots_for keys

-- none of the keys of the first rows has a null, the first that is repeated is known, and until then each row is in a slot
pub record SeatsRows (places : List ℕ) (columns : List ColumnCells) (rows : ℕ) (seats : Seats) : Type 0 where
  pub within : seats.row ≤ length (typed_keys places columns rows)
  pub long : length seats.slots.items ≡ slots_for (length (typed_keys places columns rows))
  pub whole : null_row (take seats.row (typed_keys places columns rows)) ≡ None
  pub repeated : seats.repeated ≡ repeated_row (take seats.row (typed_keys places columns rows))
  pub seated : seats.repeated ≡ None → AreSeated (λ r. row_key places (typed_row r columns)) seats.slots.items seats.row
  pub room : seats.repeated ≡ None → seats.row + free_slots seats.slots.items ≡ length seats.slots.items

-- the keys of the first rows are read
abbrev pub AreHeldBy : List ℕ → List ColumnCells → ℕ → Held → Type 0
AreHeldBy places columns rows (held_by.Rising rise) = (rise.row ≤ rows) × Rises (λ row. row_key places (typed_row row columns)) rise
AreHeldBy places columns rows (held_by.Free slots) = HasFreeSlots (length (typed_keys places columns rows)) slots
AreHeldBy places columns rows (held_by.Slots seats) = SeatsRows places columns rows seats

abbrev pub AreHeld : List ℕ → KeysReading → Type 0
AreHeld places reading = AreHeldBy places reading.columns.items reading.rows reading.held

-- no more steps than these are left: slots may have to be made, and the rows put in them from the first one on
abbrev pub held_left : ℕ → Held → ℕ
held_left rows (held_by.Rising rise) = (rows - rise.row) + (3 * rows + 5)
held_left rows (held_by.Free slots) = (2 * rows + 2 - vec_len slots) + (rows + 2)
held_left rows (held_by.Slots seats) = rows - seats.row + 1

abbrev pub keys_left : KeysReading → ℕ
keys_left reading = held_left reading.rows reading.held

-- the keys of more rows are read, or those of all, or the first thing that is wrong with them is known
abbrev pub HoldsOn : List ℕ → List ColumnCells → ℕ → Held → Next → Type 0
HoldsOn places columns rows old (nexts.On new) = AreHeldBy places columns rows new × (held_left rows new < held_left rows old)
HoldsOn places columns rows old (nexts.Over keys) = AreKeysOf keys (typed_keys places columns rows)
HoldsOn places columns rows old (nexts.Refused fault) = HasKeyFault (typed_keys places columns rows) fault

-- the same of the same rows
abbrev pub KeysGoOn : List ℕ → KeysReading → KeyStep → Type 0
KeysGoOn places old (key_steps.On new) =
    AreHeld places new × (new.rows ≡ old.rows) × (new.columns.items ≡ old.columns.items) × (keys_left new < keys_left old)
KeysGoOn places old (key_steps.Over of) =
    AreKeysOf of.keys (typed_keys places old.columns.items old.rows) × (of.rows ≡ old.rows) × (of.columns.items ≡ old.columns.items)
KeysGoOn places old (key_steps.Refused fault) = HasKeyFault (typed_keys places old.columns.items old.rows) fault
