-- The words of a step, as the code makes them of the classes of a block and of the carry before it.
use Rattle.std.proofs.Common.{◌≡◌, ℕ, ◌+◌, ◌-◌, ◌*◌, ◌/◌, ◌%◌, ◌^◌, ◌<◌, ◌≤◌, arith, bit_and, bit_or, bit_xor}
use Rattle.std.specs.Int.{bit_at}
use Rattle.std.proofs.lemmas.Nat.{and_le_l, and_le_r, pow_pos}
use Rattle.csv_grammar.specs.Following.{LastByte, TextCarry}
use Rattle.lane_class.specs.declared.Classes.{Classes}
use Rattle.quote_parity.specs.Words.{ones_below}
use Rattle.quote_parity.specs.Kinds.{last_kind, AreBits}
use Rattle.quote_parity.specs.declared.carry.Masks.{Masks}
use Rattle.quote_parity.proofs.BitLemmas.{low_is}

-- n has the parities up to each byte of the block; o, s, k and t are the words of the carry before it: whether its double quotes
-- are odd, and whether its last byte starts a field, is a double quote, or a CR

-- the carry of these parts
abbrev pub carry_with : ℕ → LastByte → TextCarry
carry_with parity last = record { parity = parity; last = last }

-- the places of the block outside double quotes
abbrev pub outside_word : Classes → ℕ → ℕ → ℕ
outside_word c n len = bit_and (2 ^ 64 - 1 - bit_xor n c.quote) ((2 ^ 64 - 1) / 2 ^ (64 - len))

abbrev pub ends_word : Classes → ℕ
ends_word c = bit_or c.comma c.lf

abbrev pub quotes_word : Classes → ℕ → ℕ
quotes_word c k = bit_or (c.quote * 2 % 2 ^ 64) k

abbrev pub starts_word : Classes → ℕ → ℕ
starts_word c s = bit_or (ends_word c * 2 % 2 ^ 64) s

abbrev pub returns_word : Classes → ℕ → ℕ
returns_word c t = bit_or (c.cr * 2 % 2 ^ 64) t

-- what may not follow outside double quotes
abbrev pub wrong_word : Classes → ℕ → ℕ → ℕ → ℕ
wrong_word c s k t =
    bit_or
    (bit_or (bit_and (returns_word c t) (2 ^ 64 - 1 - c.lf)) (bit_and c.quote (2 ^ 64 - 1 - bit_or (quotes_word c k) (starts_word c s))))
    (bit_and (quotes_word c k) (2 ^ 64 - 1 - bit_or (bit_or c.quote (ends_word c)) c.cr))

abbrev pub step_masks : Classes → ℕ → ℕ → ℕ → ℕ → ℕ → Masks
step_masks c n s k t len = record {
  sep = bit_and (outside_word c n len) c.comma;
  eol = bit_and (outside_word c n len) c.lf;
  fault = bit_and (outside_word c n len) (wrong_word c s k t);
}

abbrev pub step_carry : Classes → ℕ → ℕ → TextCarry
step_carry c n len = carry_with (bit_and (n / 2 ^ (len - 1)) 1)
    (last_kind (bit_and (ends_word c / 2 ^ (len - 1)) 1) (bit_and (c.quote / 2 ^ (len - 1)) 1) (bit_and (c.cr / 2 ^ (len - 1)) 1))

-- the words are of 64 bits, those of the carry are bits, and n has the parities
pub record AreWords (c : Classes) (n o s k t : ℕ) : Type 0 where
  pub quoted : (i : ℕ) → i < 64 → bit_at n i ≡ ones_below (bit_xor c.quote o) (i + 1) % 2
  pub bits : AreBits o s k t
  pub quote : c.quote < 2 ^ 64
  pub comma : c.comma < 2 ^ 64
  pub cr : c.cr < 2 ^ 64
  pub lf : c.lf < 2 ^ 64
  pub parities : n < 2 ^ 64

-- a bit of a carry is a bit
pub top_bit : (w i : ℕ) → bit_and (w / 2 ^ i) 1 < 2
top_bit w i = omega (arith, and_le_r (w / 2 ^ i) 1)

-- no mask has a bit from the block's end on
pub mask_fits : (c : Classes) (n len w : ℕ) → len ≤ 64 → bit_and (outside_word c n len) w < 2 ^ len
mask_fits c n len w most =
    omega (
      arith,
      and_le_l (outside_word c n len) w,
      and_le_r (2 ^ 64 - 1 - bit_xor n c.quote) ((2 ^ 64 - 1) / 2 ^ (64 - len)),
      low_is len most,
      pow_pos len,
    )

pub masks_fit : (c : Classes) (n s k t len : ℕ) → len ≤ 64 → let m = step_masks c n s k t len in (m.sep < 2 ^ len) × (m.eol < 2 ^ len) × (m.fault < 2 ^ len)
masks_fit c n s k t len most = (mask_fits c n len c.comma most, mask_fits c n len c.lf most, mask_fits c n len _ most)
