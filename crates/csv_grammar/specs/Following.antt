-- What may follow a text that some continuation brings into the grammar (RFC 4180, section 2). It depends on two things: the
-- parity of the text's double quotes, and the kind of its last byte.
use Rattle.std.specs.Prelude.{ℕ, ◌-◌, ◌%◌, Bool, true, ◌||◌, not, List, length, if◌then◌else◌, ◌==◌, slice_get, count_by, Option, None, Some}
use Rattle.csv_grammar.specs.Bytes.{double_quote, comma, carriage_return, line_feed}
use Rattle.csv_grammar.specs.Records.{is_plain}
use Rattle.csv_grammar.specs.Structure.{Role, separator, record_end, inner}

-- the kind of a text's last byte
pub data LastByte : Type 0 where
  -- a comma or an LF, or there is no byte yet
  field_start : LastByte
  a_double_quote : LastByte
  a_carriage_return : LastByte
  -- any other
  a_plain : LastByte

abbrev pub byte_kind : ℕ → LastByte
byte_kind b =
    if b == comma || b == line_feed then field_start
    else (if b == double_quote then a_double_quote else (if b == carriage_return then a_carriage_return else a_plain))

abbrev pub kind_of_last : Option ℕ → LastByte
kind_of_last None = field_start
kind_of_last (Some b) = byte_kind b

-- the parity of the double quotes of a text, 0 or 1, with the kind of its last byte
pub record TextCarry : Type 0 where
  pub parity : ℕ
  pub last : LastByte

abbrev pub carry_of : List ℕ → TextCarry
carry_of text = record {
  parity = count_by (λ b. b == double_quote) text % 2;
  last = kind_of_last (slice_get text (length text - 1));
}

-- which bytes may follow outside double quotes: after a CR an LF alone; after a closing double quote its second, or what ends
-- a field; after a plain byte no double quote
abbrev pub may_follow_outside : LastByte → ℕ → Bool
may_follow_outside field_start b = true
may_follow_outside a_double_quote b = not (is_plain b)
may_follow_outside a_carriage_return b = b == line_feed
may_follow_outside a_plain b = not (b == double_quote)

-- inside double quotes any byte may follow
abbrev pub may_follow : TextCarry → ℕ → Bool
may_follow carry b = if carry.parity == 1 then true else may_follow_outside carry.last b

-- the role of a byte that follows
abbrev pub following_role : TextCarry → ℕ → Role
following_role carry b =
    if carry.parity == 1 then inner else (if b == comma then separator else (if b == line_feed then record_end else inner))

-- the text may end here: outside double quotes, and after no CR
abbrev pub may_end_outside : LastByte → Bool
may_end_outside field_start = true
may_end_outside a_double_quote = true
may_end_outside a_carriage_return = not true
may_end_outside a_plain = true

abbrev pub may_end : TextCarry → Bool
may_end carry = if carry.parity == 1 then not true else may_end_outside carry.last
