-- What the masks of a block say of the block after a text, in the words of the grammar (RFC 4180, section 2).
use Rattle.std.specs.Prelude.{◌≡◌, ◌↔◌, ℕ, ◌+◌, ◌<◌, ◌≤◌, List, ◌++◌, length, take, drop, Some, slice_get}
use Rattle.std.specs.Int.{bit_at}
use Rattle.csv_grammar.specs.Faults.{IsViable, cause_at, HasFault}
use Rattle.csv_grammar.specs.Structure.{Role, separator, record_end, AreRoles}
use Rattle.quote_parity.specs.Words.{IsLowest}
use Rattle.quote_parity.specs.declared.carry.Masks.{Masks}

-- the bits of the word are set exactly where these roles are this one
abbrev pub MarksRole : ℕ → List Role → Role → Type 0
MarksRole word roles role = (i : ℕ) → i < length roles → (bit_at word i ≡ 1) ↔ (slice_get roles i ≡ Some role)

-- the masks are those of the block after the text, some continuation of which is in the grammar
pub record AreMasks (masks : Masks) (text block : List ℕ) : Type 0 where
  -- the lowest bit of `fault` is the place of the fault in the block, whatever follows the block
  pub place : (n : ℕ) (more : List ℕ) → IsLowest masks.fault n
      → HasFault ((text ++ block) ++ more) (length text + n) (cause_at ((text ++ block) ++ more) (length text + n))
  -- where no bit of it is set, there is a continuation of the text and the block
  pub viable : masks.fault ≡ 0 → IsViable (text ++ block)
  -- so far as there is a continuation, `sep` has the commas that part fields, and `eol` the LFs that end records
  pub sep : (n : ℕ) (roles : List Role) → n ≤ length block → AreRoles (text ++ take n block) roles
      → MarksRole masks.sep (drop (length text) roles) separator
  pub eol : (n : ℕ) (roles : List Role) → n ≤ length block → AreRoles (text ++ take n block) roles
      → MarksRole masks.eol (drop (length text) roles) record_end
