-- Arguments of a command line, as `clap` describes them, and the numbers that they have.
use Rattle.std.specs.Prelude.{◌≡◌, ◌<◌, ◌^◌, ℕ, Bool, List, Option, Some, None, codes, false, map, pos, true}
use Rattle.std.specs.Borrow.{Bor}
use Rattle.std.specs.Str.Parse.{IsNumeral, digits_value, without_leading_plus}
use Rattle.clap.specs.Words.{Rule, Text, new_rule}
use Rattle.clap.specs.declared.builder.ValueParser.TheVariants as parser

-- an argument that has to be there
abbrev pub required_rule : Text → Rule
required_rule id = record (new_rule id) { required = true }

-- `--port P`, a number of 16 bits
abbrev pub port_rule : Rule
port_rule = record (required_rule (codes "port")) { long = Some (codes "port"); parser = Some (parser.Signed (pos 0) (pos 65535)) }

-- the words as texts
abbrev pub texts : List (Bor Text) → List Text
texts = map (λ word. word.now)

-- the text is there, is a numeral of decimal digits with or without a `+` before it, of a number of `bits` bits, and n is that number
abbrev pub IsNumberOfBits : ℕ → Option Text → ℕ → Type 0
IsNumberOfBits bits None n = ⊥
IsNumberOfBits bits (Some t) n =
    (IsNumeral 10 (without_leading_plus t) × (digits_value 10 (without_leading_plus t) < 2 ^ bits)) × (n ≡ digits_value 10 (without_leading_plus t))

-- the number of `bits` bits that the text is, or none if it is no such number
abbrev pub ReadsNumberOfBits : ℕ → Option Text → Option ℕ → Type 0
ReadsNumberOfBits bits t (Some n) = IsNumberOfBits bits t n
ReadsNumberOfBits bits t None = (n : ℕ) → IsNumberOfBits bits t n → ⊥

-- whether an option without a value is there: `clap` reads `true` for it
abbrev pub HasFlag : Option Text → Bool → Type 0
HasFlag None flag = flag ≡ false
HasFlag (Some text) flag = (text ≡ codes "true" → flag ≡ true) × (text ≡ codes "false" → flag ≡ false)
