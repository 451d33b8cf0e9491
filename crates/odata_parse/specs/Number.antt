-- The values of the options `$skip` and `$top` (OData 4.01 URL Conventions, section 5.1.6).
use Rattle.std.specs.Prelude.{ℕ, ◌≤◌, ◌<◌, List, length}
use Rattle.std.specs.Str.Parse.{AllDigits, digits_value}
use Rattle.odata_parse.specs.declared.number.TheConstants.{MAX_NUMBER, MAX_NUMBER_DIGITS}

-- digits that write a number within the range
pub record IsNumberText (text : List ℕ) : Type 0 where
  pub digits : AllDigits 10 text
  pub nonempty : 0 < length text
  pub short : length text ≤ MAX_NUMBER_DIGITS
  pub small : digits_value 10 text ≤ MAX_NUMBER
