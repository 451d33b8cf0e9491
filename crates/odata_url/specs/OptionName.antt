-- The names of query options (OData URL Conventions 4.01, section 5): a system option's name is the same with or without `$` in front and in any
-- ASCII case; an alias of a parameter has `@` in front; every other name is a custom option's.
use Rattle.std.specs.Prelude.{ℕ, Bool, false, ◌==◌, ◌||◌, List, [], ◌∷◌, map, codes, find, Option, Some, None, Result, Ok, Err, if◌then◌else◌}
use Rattle.std.specs.Char.{to_ascii_lowercase}
use Rattle.std.specs.List.{list_any}
use Rattle.std.specs.Str.{bytes_eq}
use Rattle.odata_url.specs.declared.option_name.OptionName.{OptionName}
use Rattle.odata_url.specs.declared.option_name.OptionName.TheVariants.{Apply, Filter, Count, OrderBy, Skip, Top, Select, Format}
use Rattle.odata_url.specs.declared.fault.UrlFault.{UrlFault}
use Rattle.odata_url.specs.declared.fault.UrlFault.TheVariants.{UnknownOption, NotServed}

abbrev pub dollar_sign : ℕ
dollar_sign = 36

abbrev pub at_sign : ℕ
at_sign = 64

-- the name of an option that is served
abbrev pub option_text : OptionName → List ℕ
option_text Apply = codes "apply"
option_text Filter = codes "filter"
option_text Count = codes "count"
option_text OrderBy = codes "orderby"
option_text Skip = codes "skip"
option_text Top = codes "top"
option_text Select = codes "select"
option_text Format = codes "format"

abbrev pub served_options : List OptionName
served_options = Apply ∷ Filter ∷ Count ∷ OrderBy ∷ Skip ∷ Top ∷ Select ∷ Format ∷ []

-- the names of the system options that are not
abbrev pub unserved_names : List (List ℕ)
unserved_names = codes "expand" ∷ codes "search" ∷ codes "compute" ∷ codes "levels" ∷ codes "skiptoken" ∷ codes "deltatoken"
    ∷ codes "schemaversion" ∷ codes "id" ∷ codes "index" ∷ []

-- the byte comes first
abbrev pub begins_with : ℕ → List ℕ → Bool
begins_with byte [] = false
begins_with byte (b ∷ text) = b == byte

-- without one `$` in front
abbrev pub without_dollar : List ℕ → List ℕ
without_dollar [] = []
without_dollar (b ∷ name) = if b == dollar_sign then name else b ∷ name

-- a name as it is compared: in lower case, without `$`
unfoldable pub plain_name : List ℕ → List ℕ
plain_name name = without_dollar (map to_ascii_lowercase name)

-- a system option that is not served has the name
unfoldable pub is_unserved : List ℕ → Bool
is_unserved plain = list_any (λ other. bytes_eq other plain) unserved_names

-- the served option that has the name
unfoldable pub served_option : List ℕ → Option OptionName
served_option plain = find (λ option. bytes_eq (option_text option) plain) served_options

-- a name that no option has
abbrev pub or_custom : List ℕ → Option OptionName → Result (Option OptionName) UrlFault
or_custom name (Some option) = Ok (Some option)
or_custom name None = if begins_with dollar_sign name then Err UnknownOption else Ok None

-- the option that a name means; none where it is custom
unfoldable pub option_of_name : List ℕ → Result (Option OptionName) UrlFault
option_of_name name =
    if begins_with at_sign name || is_unserved (plain_name name) then Err NotServed
    else or_custom name (served_option (plain_name name))
