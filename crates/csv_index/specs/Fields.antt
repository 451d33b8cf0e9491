-- The fields of a file that are left.
use Rattle.std.specs.Prelude.{◌≡◌, ℕ, ◌<◌, true, List, length, map, IsUtf8}
use Rattle.std.specs.List.{AllByRecursion}
use Rattle.std.specs.Str.{is_utf8, IsCharBoundary}
use Rattle.csv_fields.specs.Between.{cut, raw_between}
use Rattle.csv_index.specs.Index.{AreAscii, Rise}

-- the places part the text from a place on: they rise, each field is text, and no character is cut
pub record AreLeft (start : ℕ) (ends bytes : List ℕ) : Type 0 where
  pub rise : Rise start ends (length bytes)
  pub text : AllByRecursion (λ raw. is_utf8 raw.bytes ≡ true) (map raw_between (cut start ends bytes))
  pub utf8 : IsUtf8 bytes
  pub boundary : 0 < length ends → IsCharBoundary bytes start
  pub ascii : AreAscii bytes ends
