-- Blocks of a text, and which bits of a word stand for which bytes of a block: bit i speaks of byte i.
use Rattle.std.specs.Prelude.{◌≡◌, ◌↔◌, ℕ, ◌<◌, List, ◌++◌, length, take, drop, replicate, slice_index}
use Rattle.std.specs.Int.{bit_at}
use Rattle.lane_class.specs.declared.Classes.{Classes}

-- the 64 bytes of the text from a place on, with zeros past its end
abbrev pub block_from : List ℕ → ℕ → List ℕ
block_from bytes at = take 64 (drop at bytes ++ replicate 64 0)

-- for each byte of the block, its bit of the word is set exactly where it is this byte
abbrev pub Marks : ℕ → List ℕ → ℕ → Type 0
Marks word block byte = (i : ℕ) → i < length block → (bit_at word i ≡ 1) ↔ (slice_index block i ≡ byte)

-- the words tell which bytes of the block are double quotes, commas, CR and LF (RFC 4180, section 2: %x22, %x2C, %x0D, %x0A)
pub record AreClasses (classes : Classes) (block : List ℕ) : Type 0 where
  pub quote : Marks classes.quote block 34
  pub comma : Marks classes.comma block 44
  pub cr : Marks classes.cr block 13
  pub lf : Marks classes.lf block 10
