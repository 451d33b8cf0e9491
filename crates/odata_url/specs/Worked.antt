-- Names of query options and request targets, with what they say, worked out by hand (OData URL Conventions 4.01, sections 2 and 5; RFC 9112, section 3.2).
use Rattle.std.specs.Prelude.{◌≡◌, ℕ, List, [], ◌∷◌, codes, map, Option, Some, None, Result, Ok, Err}
use Rattle.odata_url.specs.declared.fault.UrlFault.{UrlFault}
use Rattle.odata_url.specs.declared.fault.UrlFault.TheVariants.{BadTarget, BadEscape, BadUtf8, NotServed, UnknownOption, OptionTwice}
use Rattle.odata_url.specs.declared.option_name.OptionName.{OptionName}
use Rattle.odata_url.specs.declared.option_name.OptionName.TheVariants.{Apply, Filter, Count, OrderBy, Skip, Top, Select, Format}
use Rattle.odata_url.specs.OptionName.{option_of_name}
use Rattle.odata_url.specs.Target.{QueryOption, TargetOf, target_of}

-- the names all mean this
abbrev pub AllMean : Result (Option OptionName) UrlFault → List (List ℕ) → Type 0
AllMean meaning names = map option_of_name names ≡ map (λ name. meaning) names

-- a target of these segments and options
abbrev pub target : List (List ℕ) → List QueryOption → Result TargetOf UrlFault
target segments options = Ok (record { segments = segments; options = options })

-- the texts all say this
abbrev pub AllSay : Result TargetOf UrlFault → List (List ℕ) → Type 0
AllSay says texts = map target_of texts ≡ map (λ text. says) texts

-- the one segment `people` with the option `$top=1`
abbrev pub first_of_people : Result TargetOf UrlFault
first_of_people = target (codes "people" ∷ []) ((Top, codes "1") ∷ [])

pub record WorkedTargets : Type 0 where
  -- a served option in any ASCII case, with or without one `$`
  pub served : map option_of_name
      (codes "$apply" ∷ codes "filter" ∷ codes "$Count" ∷ codes "ORDERBY" ∷ codes "$skip" ∷ codes "toP" ∷ codes "$select" ∷ codes "$FORMAT" ∷ [])
      ≡ map (λ option. Ok (Some option)) (Apply ∷ Filter ∷ Count ∷ OrderBy ∷ Skip ∷ Top ∷ Select ∷ Format ∷ [])
  -- the system options that are not served, with `$` and without, and an alias of a parameter
  pub not_served : AllMean (Err NotServed)
      (codes "$expand" ∷ codes "$search" ∷ codes "$compute" ∷ codes "$levels" ∷ codes "$skiptoken" ∷ codes "$deltatoken"
      ∷ codes "$schemaversion" ∷ codes "$id" ∷ codes "$index" ∷ codes "Expand" ∷ codes "index" ∷ codes "SchemaVersion" ∷ codes "@p" ∷ codes "@" ∷ [])
  -- `$` before a name that is no system option's
  pub unknown : AllMean (Err UnknownOption) (codes "$foo" ∷ codes "$" ∷ codes "$$top" ∷ codes "$tops" ∷ codes "$apply " ∷ [])
  -- every other name is a custom option's
  pub custom : AllMean (Ok None) (codes "foo" ∷ codes "" ∷ codes "limit" ∷ codes "tops" ∷ codes "x$top" ∷ codes " top" ∷ codes "a@b" ∷ [])
  -- origin form, and absolute form of `http` in any case with any authority
  pub forms : AllSay first_of_people
      (codes "/people?$top=1" ∷ codes "http://h/people?$top=1" ∷ codes "HTTP://user@host:80/people?$top=1" ∷ codes "http:///people?top=1" ∷ [])
  -- an authority alone, or with a query alone, has the path `/`, which is one empty segment
  pub authority : AllSay (target ([] ∷ []) []) (codes "/" ∷ codes "http://h" ∷ codes "http://h/" ∷ codes "/?" ∷ [])
  pub authority_and_query : AllSay (target ([] ∷ []) ((Top, codes "1") ∷ [])) (codes "http://h?$top=1" ∷ codes "/?$top=1" ∷ [])
  -- what is in neither form
  pub no_form : AllSay (Err BadTarget) (codes "people" ∷ codes "" ∷ codes "*" ∷ codes "?$top=1" ∷ codes "https://h/people" ∷ codes "http:/h" ∷ [])
  -- the text is split at `/`, `?`, `&` and the first `=` before it is decoded; a `+` is itself
  pub decoded : AllSay (target (codes "a/b" ∷ codes "c" ∷ []) ((Filter, codes "x=1+2&y?") ∷ []))
      (codes "/a%2Fb/c?$filter=x=1+2%26y?" ∷ codes "/a%2fb/%63?%24filter=x%3D1%2B2%26y%3F" ∷ [])
  -- empty parts count for nothing, and a custom option for no more: its value is not decoded
  pub left_out : AllSay first_of_people (codes "/people?&$top=1&" ∷ codes "/people?x=%&$top=1" ∷ codes "/people?top=1&x&x" ∷ [])
  -- an option without `=` has an empty value
  pub no_value : AllSay (target (codes "people" ∷ []) ((Top, []) ∷ [])) (codes "/people?$top" ∷ codes "/people?$top=" ∷ [])
  pub twice : AllSay (Err OptionTwice) (codes "/people?$top=1&$top=1" ∷ codes "/people?$top=1&TOP=2" ∷ [])
  -- two digits are wanted after `%`, and UTF-8
  pub escapes : AllSay (Err BadEscape) (codes "/%" ∷ codes "/%4" ∷ codes "/%4g" ∷ codes "/t?$top=%" ∷ codes "/t?%=1" ∷ [])
  pub utf8 : AllSay (Err BadUtf8) (codes "/%FF" ∷ codes "/%C3" ∷ codes "/t?$top=%80" ∷ [])
  -- the first fault from left to right
  pub first_fault : map target_of (codes "/%?$foo=1" ∷ codes "/t?$foo=1&$top=%" ∷ codes "/t?$top=%&$foo=1" ∷ codes "/t?$expand=%" ∷ [])
      ≡ Err BadEscape ∷ Err UnknownOption ∷ Err BadEscape ∷ Err NotServed ∷ []
