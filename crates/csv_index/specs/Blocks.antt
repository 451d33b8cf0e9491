-- The structural places of a text, the commas that part fields and the LFs that end records (RFC 4180, section 2, rules 1, 2
-- and 4), as the set bits of masks: a block has 64 bytes, and bit i speaks of byte i.
use Rattle.std.specs.Prelude.{◌≡◌, ℕ, zero, suc, ◌+◌, ◌-◌, ◌*◌, ◌/◌, ◌^◌, ◌<◌, ◌≤◌, List, [], ◌∷◌, ◌++◌, length, take, drop, if◌then◌else◌, ◌==◌, slice_get, Some, bit_and}
use Rattle.std.specs.Int.{bit_at}
use Rattle.std.specs.Vec.{vec_capacity}
use Rattle.csv_index.specs.declared.blocks.ByteBlocks.{ByteBlocks}

-- the places of the set bits among n bits of a word, from bit i on, where bit 0 is of the byte at that place
unfoldable pub set_places : ℕ → ℕ → ℕ → ℕ → List ℕ
set_places at word i zero = []
set_places at word i (suc n) =
    if bit_at word i == 1 then (at + i) ∷ set_places at word (i + 1) n else set_places at word (i + 1) n

-- the structural places of the masks of blocks, the first of which begins at that place
abbrev pub block_places : ℕ → List ℕ → List ℕ
block_places at [] = []
block_places at (mask ∷ masks) = set_places at mask 0 64 ++ block_places (at + 64) masks

-- how many structural places stand before a block
abbrev pub rank : List ℕ → ℕ → ℕ
rank masks number = length (block_places 0 (take number masks))

-- each sixteenth block begins a group, and each group has the number of the places before it
pub record AreRanked (masks before : List ℕ) : Type 0 where
  pub least : 16 * length before < length masks + 16
  pub most : length masks ≤ 16 * length before
  pub each : (group places : ℕ) → slice_get before group ≡ Some places → places ≡ rank masks (16 * group)

-- there is room for the blocks of that many bytes, and for the counts before their groups
pub record HasRoomFor (bytes : ℕ) (blocks : ByteBlocks) : Type 0 where
  pub masks : bytes ≤ 64 * vec_capacity blocks.masks
  pub before : bytes ≤ 1024 * vec_capacity blocks.before

-- the bit of the block of that number is the structural place number n: n places come before it, and these after
pub record Stands (masks : List ℕ) (n number bit : ℕ) : Type 0 where
  pub mask : ℕ
  pub is : slice_get masks number ≡ Some mask
  pub within : bit < 64
  pub set : bit_at mask bit ≡ 1
  pub front : ℕ → List ℕ
  pub before : (at : ℕ) → front at ≡ block_places at (take number masks) ++ set_places (at + 64 * number) mask 0 bit
  pub count : (at : ℕ) → length (front at) ≡ n
  pub split : (at : ℕ) → block_places at masks
      ≡ front at ++ (at + 64 * number + bit) ∷ (set_places (at + 64 * number) mask (bit + 1) (63 - bit)
      ++ block_places (at + 64 * number + 64) (drop (number + 1) masks))
