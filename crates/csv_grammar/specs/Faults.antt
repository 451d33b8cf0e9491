-- Where and why a text is not in the grammar (RFC 4180, section 2).
use Rattle.std.specs.Prelude.{◌≡◌, ℕ, ◌-◌, ◌≤◌, List, ◌++◌, length, take, slice_index, if◌then◌else◌, ◌==◌}
use Rattle.csv_grammar.specs.Bytes.{double_quote, carriage_return}
use Rattle.csv_grammar.specs.Records.{Field, AreRecords}

-- why a text is not in the grammar
pub data Cause : Type 0 where
  -- a CR outside quotes with no LF after it
  bare_cr : Cause
  -- a double quote inside an unquoted field
  stray_quote : Cause
  -- a byte after a closing double quote
  after_quote : Cause
  -- the text ends inside quotes, or after a CR
  unfinished : Cause

-- some continuation of the prefix is in the grammar
pub record IsViable (prefix : List ℕ) : Type 0 where
  pub more : List ℕ
  pub records : List (List Field)
  pub are : AreRecords (prefix ++ more) records

-- the cause, by the end of the text, the byte before the place and the byte at it
abbrev pub cause_at : List ℕ → ℕ → Cause
cause_at bytes place =
    if place == length bytes then unfinished
    else (if slice_index bytes (place - 1) == carriage_return then bare_cr
    else (if slice_index bytes place == double_quote then stray_quote else after_quote))

-- The text is not in the grammar; the place is the length of its longest viable prefix.
pub record HasFault (bytes : List ℕ) (place : ℕ) (cause : Cause) : Type 0 where
  pub outside : (records : List (List Field)) → ¬ (AreRecords bytes records)
  pub within : place ≤ length bytes
  pub viable : IsViable (take place bytes)
  pub longest : (n : ℕ) → n ≤ length bytes → IsViable (take n bytes) → n ≤ place
  pub why : cause ≡ cause_at bytes place
