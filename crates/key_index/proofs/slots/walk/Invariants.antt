use Rattle.std.proofs.Common.{◌≡◌, ◌+◌, length, map}
use Rattle.cell_types.specs.Value.{value_view}
use Rattle.key_index.specs.Hashes.{key_hash}
use Rattle.key_index.specs.Key.{row_key}
use Rattle.key_index.specs.Keys.{typed_row}
use Rattle.key_index.specs.Slots.{first_slot, raise_of, slot_index}
use Rattle.key_index.proofs.SlotLemmas.{HaveLooked}
use Rattle.key_index.proofs.slots.walk.Given as goal

-- the next slot, and what those before it hold
abbrev pub invariant-loop-look : goal.invariant-loop-look
invariant-loop-look l =
    let hash = key_hash (map value_view l.key) in
    let first = first_slot hash (length l.slots) in record {
      at : l.at ≡ slot_index (length l.slots) (first + l._look);
      looked : HaveLooked l.slots first (raise_of hash (length l.slots)) l.rows (λ row. row_key l.places (typed_row row l.columns)) (map value_view l.key) (first + l._look);
    }
