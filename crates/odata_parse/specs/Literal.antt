-- Values written in expressions (OData 4.01 URL Conventions, section 5.1.1.14.1; OData ABNF Construction Rules, section 7).
use Rattle.std.specs.Prelude.{◌≡◌, ℕ, ◌+◌, ◌-◌, ◌*◌, ◌^◌, ℤ, pos, neg_ℤ, Bool, ◌==◌, true, false, List, [], ◌∷◌, ◌++◌, length, codes}
use Rattle.std.specs.List.{before_first, after_first}
use Rattle.std.specs.Str.Parse.{digits_value}
use Rattle.odata_lex.specs.Token.{apostrophe, point, apostrophes_doubled, year_of, month_of, day_digits, TokenOf}
use Rattle.odata_lex.specs.declared.token.TokenKind.{TokenKind}
use Rattle.odata_lex.specs.declared.token.TokenKind.TheVariants.{Text, Date, Decimal, Number, Word, Minus}
use Rattle.odata_parse.specs.declared.fault.PhraseFault.{PhraseFault}
use Rattle.odata_parse.specs.declared.fault.PhraseFault.TheVariants.{NoMemory}
use Rattle.odata_parse.specs.Keyword.{lower}
use Rattle.odata_parse.specs.Tree.{LiteralOf, null, boolean, number, text, date, decimal}

-- a text is the keyword of a value: `true`, `false` or `null`, in any ASCII case
abbrev pub IsWordLiteral : List ℕ → LiteralOf → Type 0
IsWordLiteral bytes (boolean true) = lower bytes ≡ codes "true"
IsWordLiteral bytes (boolean false) = lower bytes ≡ codes "false"
IsWordLiteral bytes null = lower bytes ≡ codes "null"
IsWordLiteral bytes _ = ⊥

-- a text is this content with each `'` doubled, between `'` and `'`
abbrev pub Quotes : List ℕ → List ℕ → Type 0
Quotes content bytes = bytes ≡ apostrophe ∷ apostrophes_doubled content ++ apostrophe ∷ []

abbrev pub is_decimal_point : ℕ → Bool
is_decimal_point b = b == point

-- the digits before the point, and those after it
abbrev pub whole_of : List ℕ → List ℕ
whole_of bytes = before_first is_decimal_point bytes

abbrev pub fraction_of : List ℕ → List ℕ
fraction_of bytes = after_first is_decimal_point bytes

-- the millionths that a decimal writes
abbrev pub millionths_of : List ℕ → ℕ
millionths_of bytes =
    digits_value 10 (whole_of bytes) * 1000000 + digits_value 10 (fraction_of bytes) * 10 ^ (6 - length (fraction_of bytes))

-- the value that a token of a kind with a text is, where it is one
abbrev pub IsLiteralOfKind : TokenKind → List ℕ → LiteralOf → Type 0
IsLiteralOfKind Number bytes v = v ≡ number (pos (digits_value 10 bytes))
IsLiteralOfKind Decimal bytes v = v ≡ decimal (pos (millionths_of bytes))
IsLiteralOfKind Date bytes v = v ≡ date (pos (year_of bytes)) (month_of bytes) (day_digits bytes)
IsLiteralOfKind Text bytes v = (content : List ℕ) × Quotes content bytes × (v ≡ text content)
IsLiteralOfKind Word bytes v = IsWordLiteral bytes v
IsLiteralOfKind _ bytes v = ⊥

abbrev pub IsLiteral : TokenOf → LiteralOf → Type 0
IsLiteral t v = IsLiteralOfKind t.kind t.text v

-- a token that is a value was not read because memory ran out
abbrev pub FailsLiteral : TokenOf → PhraseFault → Type 0
FailsLiteral t fault = (v : LiteralOf) → IsLiteral t v → fault ≡ NoMemory

-- a number or a decimal, as it stands after `-`
pub data ReadsNegative : List TokenOf → LiteralOf → List TokenOf → Type 0 where
  negative_number : {t : TokenOf} {n : ℤ} {after : List TokenOf} → t.kind ≡ Number → n ≡ neg_ℤ (pos (digits_value 10 t.text)) → ReadsNegative (t ∷ after) (number n) after
  negative_decimal : {t : TokenOf} {n : ℤ} {after : List TokenOf} → t.kind ≡ Decimal → n ≡ neg_ℤ (pos (millionths_of t.text)) → ReadsNegative (t ∷ after) (decimal n) after

-- `literal`: a value of one token, or `-` and a number or a decimal
pub data ReadsLiteral : List TokenOf → LiteralOf → List TokenOf → Type 0 where
  one_token : {t : TokenOf} {v : LiteralOf} {after : List TokenOf} → IsLiteral t v → ReadsLiteral (t ∷ after) v after
  behind_minus : {sign : TokenOf} {v : LiteralOf} {before after : List TokenOf} → sign.kind ≡ Minus → ReadsNegative before v after → ReadsLiteral (sign ∷ before) v after
