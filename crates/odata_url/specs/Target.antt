-- A request target (RFC 9112, section 3.2) as segments of its path and options of its query. It is split before anything is decoded (OData URL
-- Conventions 4.01, section 2).
use Rattle.std.specs.Prelude.{ℕ, Bool, ◌==◌, ◌||◌, not, List, [], ◌∷◌, ◌++◌, map, filter, length, take, drop, codes, string_bytes, String, Option, Some, None, Result, Ok, Err, if◌then◌else◌}
use Rattle.std.specs.Global.{Global}
use Rattle.std.specs.Char.{to_ascii_lowercase}
use Rattle.std.specs.List.{list_any, position_or_len}
use Rattle.std.specs.Str.{bytes_eq}
use Rattle.odata_url.specs.declared.option_name.OptionName.{OptionName}
use Rattle.odata_url.specs.declared.target.Target.{Target}
use Rattle.odata_url.specs.declared.fault.UrlFault.{UrlFault}
use Rattle.odata_url.specs.declared.fault.UrlFault.TheVariants.{BadTarget, OptionTwice}
use Rattle.odata_url.specs.Fault.{◌>>=◌, each}
use Rattle.odata_url.specs.Escapes.{decoded_text}
use Rattle.odata_url.specs.OptionName.{option_text, begins_with, option_of_name}
use Rattle.odata_url.specs.Cuts.{in_front, behind, parts}

abbrev pub slash : ℕ
slash = 47

abbrev pub question_mark : ℕ
question_mark = 63

abbrev pub ampersand : ℕ
ampersand = 38

abbrev pub equals_sign : ℕ
equals_sign = 61

-- an option and its value
abbrev pub QueryOption : Type 0
QueryOption = OptionName × List ℕ

pub record TargetOf : Type 0 where
  -- the segments of the path
  pub segments : List (List ℕ)
  -- the options of the query, in its order
  pub options : List QueryOption

abbrev pub option_view : (OptionName × String Global) → QueryOption
option_view option = (option.0, string_bytes option.1)

abbrev pub target_view : Target → TargetOf
target_view target = record {
  segments = map string_bytes target.segments.items;
  options = map option_view target.options.items;
}

-- the path begins, or the query
abbrev pub ends_authority : ℕ → Bool
ends_authority b = b == slash || b == question_mark

-- the text after a leading authority
abbrev pub behind_authority : List ℕ → List ℕ
behind_authority text = drop (position_or_len ends_authority text) text

abbrev pub with_slash : List ℕ → List ℕ
with_slash text = if begins_with slash text then text else slash ∷ text

-- what a target in absolute form begins with, in any ASCII case
abbrev pub scheme : List ℕ
scheme = codes "http://"

abbrev pub is_absolute : List ℕ → Bool
is_absolute bytes = bytes_eq (map to_ascii_lowercase (take (length scheme) bytes)) scheme

abbrev pub behind_scheme : List ℕ → List ℕ
behind_scheme bytes = drop (length scheme) bytes

-- the path and the query of a target in absolute form or in origin form
unfoldable pub origin_form : List ℕ → Result (List ℕ) UrlFault
origin_form bytes =
    if is_absolute bytes then Ok (with_slash (behind_authority (behind_scheme bytes)))
    else (if begins_with slash bytes then Ok bytes else Err BadTarget)

-- the segments of a path that begins with `/`
unfoldable pub segments_of : List ℕ → Result (List (List ℕ)) UrlFault
segments_of path = each decoded_text (parts slash (drop 1 path))

-- the option and its value, where the option is served; the value of another is not decoded
unfoldable pub with_value : Option OptionName → List ℕ → Result (Option QueryOption) UrlFault
with_value None value = Ok None
with_value (Some option) value = do
  text ← decoded_text value
  Ok (Some (option, text))

-- the option that a part of the query is; none where it is custom
unfoldable pub option_of : List ℕ → Result (Option QueryOption) UrlFault
option_of part = do
  name ← decoded_text (in_front equals_sign part)
  option ← option_of_name name
  with_value option (behind equals_sign part)

-- the option stands among these
abbrev pub stands_among : List QueryOption → OptionName → Bool
stands_among options name = list_any (λ other. bytes_eq (option_text other.0) (option_text name)) options

-- options, and one more where there is one, which is none of them
unfoldable pub with_option : List QueryOption → Option QueryOption → Result (List QueryOption) UrlFault
with_option options None = Ok options
with_option options (Some option) = if stands_among options option.0 then Err OptionTwice else Ok (options ++ option ∷ [])

-- options, and the option of one more part
unfoldable pub with_part : List QueryOption → List ℕ → Result (List QueryOption) UrlFault
with_part options part = do
  option ← option_of part
  with_option options option

-- options, and those of more parts, in order
abbrev pub with_parts : List QueryOption → List (List ℕ) → Result (List QueryOption) UrlFault
with_parts options [] = Ok options
with_parts options (part ∷ parts) = do
  more ← with_part options part
  with_parts more parts

-- a part that is not empty
abbrev pub has_bytes : List ℕ → Bool
has_bytes part = not (length part == 0)

-- the options of a query
unfoldable pub options_of : List ℕ → Result (List QueryOption) UrlFault
options_of query = with_parts [] (filter has_bytes (parts ampersand query))

-- what a target says, or the first fault from left to right
unfoldable pub target_of : List ℕ → Result TargetOf UrlFault
target_of bytes = do
  target ← origin_form bytes
  segments ← segments_of (in_front question_mark target)
  options ← options_of (behind question_mark target)
  Ok (record { segments = segments; options = options })
