-- Percent-encoding (RFC 3986, section 2.1): `%` and two hexadecimal digits are an escape and stand for the octet of that number; every other
-- byte stands for itself.
use Rattle.std.specs.Prelude.{ℕ, Bool, false, ◌+◌, ◌*◌, ◌==◌, ◌&&◌, List, [], ◌∷◌, Option, Some, None, option_map, Result, Ok, Err, if◌then◌else◌}
use Rattle.std.specs.Char.{digit_value, is_ascii_hexdigit}
use Rattle.std.specs.Str.{is_utf8}
use Rattle.odata_url.specs.declared.fault.UrlFault.{UrlFault}
use Rattle.odata_url.specs.declared.fault.UrlFault.TheVariants.{BadEscape, BadUtf8}

abbrev pub percent_sign : ℕ
percent_sign = 37

-- the octet of two hexadecimal digits
abbrev pub octet : ℕ → ℕ → ℕ
octet high low = 16 * digit_value high + digit_value low

-- two hexadecimal digits come first
abbrev pub begins_with_digits : List ℕ → Bool
begins_with_digits (high ∷ low ∷ text) = is_ascii_hexdigit high && is_ascii_hexdigit low
begins_with_digits text = false

-- the octets that a text stands for; none where a `%` has not two hexadecimal digits after it
abbrev pub octets_of : List ℕ → Option (List ℕ)
octets_of [] = Some []
octets_of (b ∷ high ∷ low ∷ text) =
    if b == percent_sign
    then (if is_ascii_hexdigit high && is_ascii_hexdigit low then option_map (λ octets. octet high low ∷ octets) (octets_of text) else None)
    else option_map (λ octets. b ∷ octets) (octets_of (high ∷ low ∷ text))
octets_of (b ∷ text) = if b == percent_sign then None else option_map (λ octets. b ∷ octets) (octets_of text)

-- octets that are UTF-8 (RFC 3629)
abbrev pub utf8_text : Option (List ℕ) → Result (List ℕ) UrlFault
utf8_text None = Err BadEscape
utf8_text (Some octets) = if is_utf8 octets then Ok octets else Err BadUtf8

-- the text that an encoded one says
unfoldable pub decoded_text : List ℕ → Result (List ℕ) UrlFault
decoded_text text = utf8_text (octets_of text)
