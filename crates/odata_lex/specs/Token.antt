-- The form of each kind of token (OData 4.01 URL Conventions, section 5.1.1; OData ABNF Construction Rules, sections 6 and 7), and a token
-- with its text. Letters and digits are those of ASCII; any other character stands inside a Text alone.
use Rattle.std.specs.Prelude.{◌≡◌, ℕ, ◌≤◌, ◌<◌, Bool, true, ◌==◌, ◌||◌, not, IsTrue, if◌then◌else◌, List, [], ◌∷◌, ◌++◌, length, map, take, slice_index, pos, Option, MatchOption}
use Rattle.std.specs.List.{AllByRecursion, slice_range}
use Rattle.std.specs.Char.{is_ascii_alphabetic, is_ascii_alphanumeric}
use Rattle.std.specs.Str.Parse.{AllDigits, digits_value}
use Rattle.jiff_core.specs.Calendar.{IsDate}
use Rattle.jiff_core.specs.Date.{IsYmd}
use Rattle.jiff_core.specs.declared.civil.date.Date.{Date as Day}
use Rattle.odata_lex.specs.declared.token.TheConstants.{MAX_DIGITS, MAX_WHOLE_DIGITS, MAX_FRACTION_DIGITS}
use Rattle.odata_lex.specs.declared.token.Token.{Token}
use Rattle.odata_lex.specs.declared.token.TokenKind.{TokenKind}
use Rattle.odata_lex.specs.declared.token.TokenKind.TheVariants.{Text, Date, Decimal, Number, Word, Dollar, OpenParenthesis, CloseParenthesis, Comma, Slash, Minus, Star, EqualsSign}

-- `'`
abbrev pub apostrophe : ℕ
apostrophe = 39

-- `-`
abbrev pub minus : ℕ
minus = 45

-- `.`
abbrev pub point : ℕ
point = 46

-- `$`
abbrev pub dollar : ℕ
dollar = 36

-- `_`
abbrev pub underscore : ℕ
underscore = 95

-- a letter or `_`
abbrev pub begins_word : ℕ → Bool
begins_word b = is_ascii_alphabetic b || b == underscore

-- a letter, a digit or `_`
abbrev pub is_word_byte : ℕ → Bool
is_word_byte b = is_ascii_alphanumeric b || b == underscore

-- a content with each `'` doubled
abbrev pub apostrophes_doubled : List ℕ → List ℕ
apostrophes_doubled [] = []
apostrophes_doubled (b ∷ content) = if b == apostrophe then apostrophe ∷ apostrophe ∷ apostrophes_doubled content else b ∷ apostrophes_doubled content

-- a Text: `'`, a content with each `'` doubled, `'`
pub record IsTextToken (text : List ℕ) : Type 0 where
  pub content : List ℕ
  pub printed : text ≡ apostrophe ∷ apostrophes_doubled content ++ apostrophe ∷ []

abbrev pub AreDigits : List ℕ → Type 0
AreDigits bytes = AllDigits 10 bytes

-- four digits, `-`, two digits, `-`, two digits
pub record IsDateForm (text : List ℕ) : Type 0 where
  pub ten : length text ≡ 10
  pub year : AreDigits (take 4 text)
  pub before_month : slice_index text 4 ≡ minus
  pub month : AreDigits (slice_range text 5 7)
  pub before_day : slice_index text 7 ≡ minus
  pub day : AreDigits (slice_range text 8 10)

-- the numbers that a text of that form writes
abbrev pub year_of : List ℕ → ℕ
year_of text = digits_value 10 (take 4 text)

abbrev pub month_of : List ℕ → ℕ
month_of text = digits_value 10 (slice_range text 5 7)

abbrev pub day_digits : List ℕ → ℕ
day_digits text = digits_value 10 (slice_range text 8 10)

-- a day of the calendar, in the years from 1
abbrev pub IsDayFromOne : ℕ → ℕ → ℕ → Type 0
IsDayFromOne year month day = (1 ≤ year) × IsDate (pos year) (pos month) (pos day)

-- a Date: that form, and a day of the calendar in the years from 1 (to 9999, for there are four digits)
pub record IsDateToken (text : List ℕ) : Type 0 where
  pub form : IsDateForm text
  pub day : IsDayFromOne (year_of text) (month_of text) (day_digits text)

-- the day that three numbers name, in the years from 1; none where the calendar has no such day
abbrev pub IsDayOrNone : ℕ → ℕ → ℕ → Option Day → Type 0
IsDayOrNone year month day found =
    MatchOption found (¬ (IsDayFromOne year month day)) (λ date. IsDayFromOne year month day × IsYmd (pos year) (pos month) (pos day) date)

-- the day that a text writes; none where it is no Date
abbrev pub IsDayOfText : List ℕ → Option Day → Type 0
IsDayOfText text found =
    MatchOption found (¬ (IsDateToken text)) (λ date. IsDateToken text × IsYmd (pos (year_of text)) (pos (month_of text)) (pos (day_digits text)) date)

-- a Decimal: digits, `.`, digits
pub record IsDecimal (text : List ℕ) : Type 0 where
  pub whole : List ℕ
  pub fraction : List ℕ
  pub printed : text ≡ whole ++ point ∷ fraction
  pub before : AreDigits whole
  pub behind : AreDigits fraction
  pub some_before : 0 < length whole
  pub some_behind : 0 < length fraction
  pub few_before : length whole ≤ MAX_WHOLE_DIGITS
  pub few_behind : length fraction ≤ MAX_FRACTION_DIGITS

-- a Number: digits
pub record IsNumberToken (text : List ℕ) : Type 0 where
  pub digits : AreDigits text
  pub nonempty : 0 < length text
  pub short : length text ≤ MAX_DIGITS

-- a Word: a letter or `_`, then letters, digits and `_`
pub data IsWord : List ℕ → Type 0 where
  word : {b : ℕ} {bytes : List ℕ} → IsTrue (begins_word b) → AllByRecursion (λ c. IsTrue (is_word_byte c)) bytes → IsWord (b ∷ bytes)

-- a Dollar: `$` and a Word
pub record IsDollar (text : List ℕ) : Type 0 where
  pub name : List ℕ
  pub is_word : IsWord name
  pub printed : text ≡ dollar ∷ name

-- the text has the form of the kind
abbrev pub IsOfTokenKind : TokenKind → List ℕ → Type 0
IsOfTokenKind Text text = IsTextToken text
IsOfTokenKind Date text = IsDateToken text
IsOfTokenKind Decimal text = IsDecimal text
IsOfTokenKind Number text = IsNumberToken text
IsOfTokenKind Word text = IsWord text
IsOfTokenKind Dollar text = IsDollar text
IsOfTokenKind OpenParenthesis text = text ≡ 40 ∷ []
IsOfTokenKind CloseParenthesis text = text ≡ 41 ∷ []
IsOfTokenKind Comma text = text ≡ 44 ∷ []
IsOfTokenKind Slash text = text ≡ 47 ∷ []
IsOfTokenKind Minus text = text ≡ minus ∷ []
IsOfTokenKind Star text = text ≡ 42 ∷ []
IsOfTokenKind EqualsSign text = text ≡ 61 ∷ []

-- whether a byte may follow a token of the kind: no `'` follows a Text; no letter, digit or `_` a Date, Decimal, Number, Word
-- or Dollar
abbrev pub may_follow_token : TokenKind → ℕ → Bool
may_follow_token Text b = not (b == apostrophe)
may_follow_token Date b = not (is_word_byte b)
may_follow_token Decimal b = not (is_word_byte b)
may_follow_token Number b = not (is_word_byte b)
may_follow_token Word b = not (is_word_byte b)
may_follow_token Dollar b = not (is_word_byte b)
may_follow_token _ b = true

-- a token of the kind may end before this text
abbrev pub EndsBefore : TokenKind → List ℕ → Type 0
EndsBefore kind [] = Unit {0}
EndsBefore kind (b ∷ _) = IsTrue (may_follow_token kind b)

-- a token and its text
pub record TokenOf : Type 0 where
  pub kind : TokenKind
  pub text : List ℕ

-- the bytes of a token in its source
abbrev pub token_text : List ℕ → Token → List ℕ
token_text source token = slice_range source token.start token.end

abbrev pub token_view : List ℕ → Token → TokenOf
token_view source token = record { kind = token.kind; text = token_text source token }

-- the tokens of a source as kinds and texts
abbrev pub token_views : List ℕ → List Token → List TokenOf
token_views source tokens = map (token_view source) tokens
