-- The value of the option `$format` (OData 4.01 URL Conventions, section 5.1.10).
use Rattle.std.specs.Prelude.{ℕ, Bool, ◌||◌, List, map, codes, Option, None, Some, if◌then◌else◌, ◌≡◌, Result, MatchResult}
use Rattle.std.specs.Str.{bytes_eq}
use Rattle.std.specs.Char.{to_ascii_lowercase}
use Rattle.odata_parse.specs.declared.fault.Syntax.{Syntax}
use Rattle.odata_parse.specs.declared.format.Format.{Format}
use Rattle.odata_parse.specs.declared.format.Format.TheVariants.{Json, Csv}

-- the same text, in any case of ASCII letters
abbrev pub same_text : List ℕ → List ℕ → Bool
same_text text other = bytes_eq (map to_ascii_lowercase text) (map to_ascii_lowercase other)

-- a value where there is one, and otherwise `Syntax`
abbrev pub IsValueOrSyntax : {T : Type 0} → Option T → Result T Syntax → Type 0
IsValueOrSyntax value result = MatchResult result (λ x. value ≡ Some x) (λ _. value ≡ None)

-- the format that a text names
abbrev pub format_of : List ℕ → Option Format
format_of text =
    if same_text text (codes "json") || same_text text (codes "application/json") then Some Json
    else (if same_text text (codes "text/csv") then Some Csv else None)
