-- What the words of a carry mean. Each is 0 or 1, and of those of the last byte one at most is 1 after a text.
use Rattle.std.specs.Prelude.{ℕ, ◌<◌, Bool, true, false, ◌==◌}
use Rattle.csv_grammar.specs.Following.{LastByte, field_start, a_double_quote, a_carriage_return, a_plain}

-- the kind of a last byte that is a comma or an LF, or there is none; a double quote; a CR
abbrev pub kind_of_tests : Bool → Bool → Bool → LastByte
kind_of_tests start quote true = a_carriage_return
kind_of_tests start true false = a_double_quote
kind_of_tests true false false = field_start
kind_of_tests false false false = a_plain

abbrev pub last_kind : ℕ → ℕ → ℕ → LastByte
last_kind start quote cr = kind_of_tests (start == 1) (quote == 1) (cr == 1)

-- each word is a bit
pub record AreBits (odd start quote cr : ℕ) : Type 0 where
  pub parity : odd < 2
  pub ends : start < 2
  pub quotes : quote < 2
  pub returns : cr < 2
