-- What is known of a text after its first blocks of 64 bytes (RFC 4180, section 2), in the words of the grammar.
use Rattle.std.specs.Prelude.{◌≡◌, ℕ, ◌+◌, ◌-◌, ◌*◌, ◌<◌, ◌≤◌, List, [], ◌∷◌, length, take, Bool, true, false}
use Rattle.std.specs.Vec.{vec_len}
use Rattle.csv_grammar.specs.Faults.{IsViable, cause_at, HasFault}
use Rattle.csv_grammar.specs.Structure.{Role, separator, record_end, inner, AreRoles}
use Rattle.csv_grammar.specs.Following.{TextCarry, carry_of}
use Rattle.csv_index.specs.Blocks.{block_places, AreRanked, HasRoomFor}
use Rattle.csv_index.specs.Widths.{uncounted, roles_counted}
use Rattle.csv_index.specs.declared.reading.Reading.{Reading}
use Rattle.csv_index.specs.declared.widths.Widths.{Widths}

-- the structural places of bytes of these roles, the first of which stands at that place
abbrev pub role_places : ℕ → List Role → List ℕ
role_places at [] = []
role_places at (separator ∷ roles) = at ∷ role_places (at + 1) roles
role_places at (record_end ∷ roles) = at ∷ role_places (at + 1) roles
role_places at (inner ∷ roles) = role_places (at + 1) roles

-- a record is under way after a byte of that role
abbrev pub role_open : Role → Bool
role_open separator = true
role_open record_end = false
role_open inner = true

-- and after bytes of these roles: after none, as before them
abbrev pub open_after : Bool → List Role → Bool
open_after was [] = was
open_after was (role ∷ roles) = open_after (role_open role) roles

-- the first n blocks of the text are read, the last of which may be short: what is carried is the carry of their bytes, which have a continuation in
-- the grammar; the roles of these bytes there say where the places of the blocks stand, what is counted, and whether a record is under way
pub record HasReadText (text : List ℕ) (n : ℕ) (carry : TextCarry) (masks : List ℕ) (widths : Widths) (unended : Bool) : Type 0 where
  pub carried : carry ≡ carry_of (take (64 * n) text)
  pub viable : IsViable (take (64 * n) text)
  pub roles : List Role
  pub are : AreRoles (take (64 * n) text) roles
  pub places : (mark : ℕ) → block_places mark masks ≡ role_places mark roles
  pub counted : widths ≡ roles_counted uncounted roles
  pub count : length masks ≡ n
  pub state : unended ≡ open_after false roles

-- and so much is known in a reading
abbrev pub HasReadBlocks : List ℕ → ℕ → Reading → Type 0
HasReadBlocks text n r = HasReadText text n r.carry r.blocks.masks.items r.widths r.unended

-- so much of the text is read, and there is room for all of its blocks
pub record IsBlockReading (text : List ℕ) (r : Reading) : Type 0 where
  pub read : HasReadBlocks text (vec_len r.blocks.masks) r
  pub ranked : AreRanked r.blocks.masks.items r.blocks.before.items
  pub within : 64 * vec_len r.blocks.masks < length text + 64
  pub room : HasRoomFor (length text) r.blocks

-- how many bytes are left
abbrev pub bytes_left : List ℕ → Reading → ℕ
bytes_left text r = length text - 64 * vec_len r.blocks.masks

-- `left` bytes are left from the text's first fault on
abbrev pub HasFaultFrom : List ℕ → ℕ → Type 0
HasFaultFrom text left = (0 < left) × (left ≤ length text) × HasFault text (length text - left) (cause_at text (length text - left))
