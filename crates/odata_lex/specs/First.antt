-- The token that a text begins with, as a function: what the private calls compute. The public ones speak of `Begins`, and each
-- token that it allows is the one that this function gives.
use Rattle.std.specs.Prelude.{ℕ, suc, Bool, true, false, ◌==◌, ◌&&◌, not, ◌+◌, nat_le, if◌then◌else◌, List, [], ◌∷◌, length, take, drop, slice_index, Option, None, Some, pos}
use Rattle.std.specs.List.{slice_range, list_all, prefix_len}
use Rattle.std.specs.Option.{option_map}
use Rattle.std.specs.Int.{is_in_range}
use Rattle.std.specs.Char.{is_ascii_digit}
use Rattle.jiff_core.specs.Calendar.{days_in_month}
use Rattle.odata_lex.specs.Token.{apostrophe, minus, point, dollar, begins_word, is_word_byte, year_of, month_of, day_digits}
use Rattle.odata_lex.specs.declared.token.TheConstants.{MAX_DIGITS, MAX_WHOLE_DIGITS, MAX_FRACTION_DIGITS}
use Rattle.odata_lex.specs.declared.token.TokenKind.{TokenKind}
use Rattle.odata_lex.specs.declared.token.TokenKind.TheVariants.{Text, Date, Decimal, Number, Word, Dollar, OpenParenthesis, CloseParenthesis, Comma, Slash, Minus, Star, EqualsSign}

-- the letters, digits and `_` at the front
abbrev pub word_len : List ℕ → ℕ
word_len text = prefix_len is_word_byte text

-- neither a letter, a digit nor `_` begins the text
abbrev pub ends_word : List ℕ → Bool
ends_word [] = true
ends_word (b ∷ _) = not (is_word_byte b)

-- the bytes up to the end of a Text, after its first `'`, or after a `'` that may be its last one
unfoldable pub text_len : Bool → List ℕ → Option ℕ
text_len closed [] = if closed then Some 0 else None
text_len closed (b ∷ text) =
    if b == apostrophe then option_map suc (text_len (not closed) text)
    else (if closed then Some 0 else option_map suc (text_len closed text))

-- four digits, `-`, two digits, `-`, two digits
abbrev pub is_date_form : List ℕ → Bool
is_date_form text =
    (length text == 10) && list_all is_ascii_digit (take 4 text)
    && (slice_index text 4 == minus) && list_all is_ascii_digit (slice_range text 5 7)
    && (slice_index text 7 == minus) && list_all is_ascii_digit (slice_range text 8 10)

-- a text of that form begins here
abbrev pub begins_date : List ℕ → Bool
begins_date text = is_date_form (take 10 text) && ends_word (drop 10 text)

-- the calendar has the day that a text of that form writes
abbrev pub is_day : List ℕ → Bool
is_day text =
    nat_le 1 (year_of text) && is_in_range 1 12 (month_of text)
    && is_in_range 1 (days_in_month (pos (year_of text)) (month_of text)) (day_digits text)

abbrev pub date_token : List ℕ → Option (TokenKind × ℕ)
date_token text = if is_day (take 10 text) then Some (Date, 10) else None

-- `.` and a digit begin here
abbrev pub begins_fraction : List ℕ → Bool
begins_fraction [] = false
begins_fraction (_ ∷ []) = false
begins_fraction (b ∷ c ∷ _) = (b == point) && is_ascii_digit c

-- digits, `.` and a digit begin here
abbrev pub begins_decimal : List ℕ → Bool
begins_decimal text = list_all is_ascii_digit (take (word_len text) text) && begins_fraction (drop (word_len text) text)

-- what stands after the digits and `.`
abbrev pub behind_point : List ℕ → List ℕ
behind_point text = drop (word_len text + 1) text

-- the fraction ends with a digit, and neither part is too long
abbrev pub fits_decimal : ℕ → List ℕ → Bool
fits_decimal whole fraction =
    nat_le whole MAX_WHOLE_DIGITS && nat_le (word_len fraction) MAX_FRACTION_DIGITS && list_all is_ascii_digit (take (word_len fraction) fraction)

abbrev pub decimal_token : List ℕ → Option (TokenKind × ℕ)
decimal_token text =
    if fits_decimal (word_len text) (behind_point text) then Some (Decimal, word_len text + 1 + word_len (behind_point text)) else None

abbrev pub number_token : List ℕ → Option (TokenKind × ℕ)
number_token text =
    if nat_le (word_len text) MAX_DIGITS && list_all is_ascii_digit (take (word_len text) text) then Some (Number, word_len text) else None

-- what begins with a digit
abbrev pub digit_token : List ℕ → Option (TokenKind × ℕ)
digit_token text =
    if begins_date text then date_token text else (if begins_decimal text then decimal_token text else number_token text)

abbrev pub dollar_token : List ℕ → Option (TokenKind × ℕ)
dollar_token [] = None
dollar_token (b ∷ text) = if begins_word b then Some (Dollar, suc (word_len (b ∷ text))) else None

-- the signs
abbrev pub sign : ℕ → Option TokenKind
sign b =
    if b == 40 then Some OpenParenthesis else (if b == 41 then Some CloseParenthesis
    else (if b == 44 then Some Comma else (if b == 47 then Some Slash
    else (if b == minus then Some Minus else (if b == 42 then Some Star
    else (if b == 61 then Some EqualsSign else None))))))

abbrev pub sign_token : ℕ → Option (TokenKind × ℕ)
sign_token b = option_map (λ kind. (kind, 1)) (sign b)

-- the kind and the length of the token that the text begins with
unfoldable pub first_token : List ℕ → Option (TokenKind × ℕ)
first_token [] = None
first_token (b ∷ text) =
    if b == apostrophe then option_map (λ n. (Text, suc n)) (text_len false text)
    else (if is_ascii_digit b then digit_token (b ∷ text)
    else (if begins_word b then Some (Word, word_len (b ∷ text))
    else (if b == dollar then dollar_token text
    else sign_token b)))
