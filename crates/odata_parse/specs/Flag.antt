-- The value of the option `$count` (OData 4.01 URL Conventions, section 5.1.7).
use Rattle.std.specs.Prelude.{ℕ, Bool, true, false, List, codes, Option, None, Some, if◌then◌else◌}
use Rattle.odata_parse.specs.Format.{same_text}

-- the boolean that a text names, in any case of ASCII letters
abbrev pub flag_of : List ℕ → Option Bool
flag_of text = if same_text text (codes "true") then Some true else (if same_text text (codes "false") then Some false else None)
