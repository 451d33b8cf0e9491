-- Times of day (ISO 8601-1, section 5.3: hours, minutes and seconds with colons between, and perhaps a `Z`), and the days before them.
use Rattle.std.specs.Prelude.{ℕ, ◌==◌, ◌&&◌, ◌||◌, Bool, false, not, List, [], ◌∷◌, length, nat_lt, unwrap_or}
use Rattle.std.specs.Char.{is_ascii_digit}
use Rattle.std.specs.List.{after_last, list_all, suffix_len}
use Rattle.value_forms.specs.Numbers.{before_end}

abbrev pub are_two_digits : ℕ → ℕ → Bool
are_two_digits tens ones = is_ascii_digit tens && is_ascii_digit ones

-- an hour below 24 and a minute below 60
abbrev pub is_minute : ℕ → ℕ → ℕ → ℕ → Bool
is_minute h i m n =
    are_two_digits h i && are_two_digits m n && nat_lt m 54 && (nat_lt h 50 || h == 50 && nat_lt i 52)

-- below 60
abbrev pub is_second : ℕ → ℕ → Bool
is_second tens ones = are_two_digits tens ones && nat_lt tens 54

-- two digits, and perhaps a point and more digits
abbrev pub are_seconds : List ℕ → Bool
are_seconds (tens ∷ (ones ∷ [])) = is_second tens ones
are_seconds (tens ∷ (ones ∷ (point ∷ (first ∷ rest)))) =
    point == 46 && is_second tens ones && list_all is_ascii_digit (first ∷ rest)
are_seconds _ = false

-- `HH:mm`, `HH:mm:ss` or with a fraction of seconds
abbrev pub is_clock : List ℕ → Bool
is_clock (h ∷ (i ∷ (colon ∷ (m ∷ (n ∷ []))))) = colon == 58 && is_minute h i m n
is_clock (h ∷ (i ∷ (colon ∷ (m ∷ (n ∷ (next ∷ rest)))))) = colon == 58 && next == 58 && is_minute h i m n && are_seconds rest
is_clock _ = false

-- a time of day, and perhaps a `Z`
unfoldable pub is_time : List ℕ → Bool
is_time text = is_clock (unwrap_or (before_end 90 text) text)

-- the time at which a day begins
abbrev pub is_midnight : List ℕ → Bool
is_midnight text = list_all (λ byte. byte == 48 || byte == 58 || byte == 46 || byte == 90) text

-- a space or a `T` is between a day and a time of day
abbrev pub is_between : ℕ → Bool
is_between byte = byte == 32 || byte == 84

abbrev pub last_part_len : List ℕ → ℕ
last_part_len text = suffix_len (λ byte. not (is_between byte)) text

-- the bytes after the last space or `T` are a time of day
abbrev pub ends_in_time : List ℕ → Bool
ends_in_time text = nat_lt (last_part_len text) (length text) && is_time (after_last is_between text)
