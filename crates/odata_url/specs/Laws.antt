-- What holds of every encoded text, of every name of an option and of every target.
use Rattle.std.specs.Prelude.{◌≡◌, ◌≢◌, ◌↔◌, ◌⊎◌, ℕ, ◌<◌, true, false, List, [], ◌∷◌, ◌++◌, map, Some, Ok, Err, IsUtf8}
use Rattle.std.specs.Char.{is_ascii_hexdigit, to_ascii_lowercase}
use Rattle.std.specs.List.{flat_map, join_with_byte, AllByRecursion}
use Rattle.percent_encoding.specs.Percent.{percent_encode_byte}
use Rattle.odata_url.specs.declared.fault.UrlFault.{UrlFault}
use Rattle.odata_url.specs.declared.fault.UrlFault.TheVariants.{NoMemory}
use Rattle.odata_url.specs.declared.option_name.OptionName.{OptionName}
use Rattle.odata_url.specs.Escapes.{percent_sign, octet, octets_of}
use Rattle.odata_url.specs.Target.{slash, question_mark, ampersand, equals_sign, QueryOption, TargetOf, stands_among, target_of}
use Rattle.odata_url.specs.OptionName.{dollar_sign, option_text, option_of_name}

-- The text is an encoding of the octets: each of them is escaped, or is a byte other than `%` that stands for itself (RFC 3986, section 2.1).
pub data Encodes : List ℕ → List ℕ → Type 0 where
  nothing : Encodes [] []
  itself : (b : ℕ) (text octets : List ℕ) → b ≢ percent_sign → Encodes text octets → Encodes (b ∷ text) (b ∷ octets)
  escape : (high low : ℕ) (text octets : List ℕ) → is_ascii_hexdigit high ≡ true → is_ascii_hexdigit low ≡ true → Encodes text octets
      → Encodes (percent_sign ∷ high ∷ low ∷ text) (octet high low ∷ octets)

-- a text stands for the octets that it is an encoding of, and for no others
abbrev pub StandsForOctets : Type 0
StandsForOctets = (text octets : List ℕ) → (octets_of text ≡ Some octets) ↔ Encodes text octets

-- a text without `%` stands for itself
abbrev pub PlainStandsForItself : Type 0
PlainStandsForItself = (text : List ℕ) → AllByRecursion (λ b. b ≢ percent_sign) text → octets_of text ≡ Some text

-- every byte escaped
abbrev pub escaped_text : List ℕ → List ℕ
escaped_text octets = flat_map percent_encode_byte octets

-- octets, each of them escaped, are what the text stands for
abbrev pub EscapingIsUndone : Type 0
EscapingIsUndone = (octets : List ℕ) → AllByRecursion (λ b. b < 256) octets → octets_of (escaped_text octets) ≡ Some octets

-- a name means an option exactly where it is the option's in some ASCII case, with or without `$` in front
abbrev pub NamesAnOption : Type 0
NamesAnOption = (name : List ℕ) (option : OptionName)
    → (option_of_name name ≡ Ok (Some option))
    ↔ ((map to_ascii_lowercase name ≡ option_text option) ⊎ (map to_ascii_lowercase name ≡ dollar_sign ∷ option_text option))

-- an option written out: its name with `$` in front, and every byte of its value escaped
abbrev pub printed_option : QueryOption → List ℕ
printed_option option = dollar_sign ∷ option_text option.0 ++ equals_sign ∷ escaped_text option.1

-- a target written out in origin form, every byte of its segments escaped
abbrev pub printed_target : TargetOf → List ℕ
printed_target target =
    slash ∷ join_with_byte slash (map escaped_text target.segments)
    ++ question_mark ∷ join_with_byte ampersand (map printed_option target.options)

-- each option is none of those before it
abbrev pub EachOnce : List QueryOption → List QueryOption → Type 0
EachOnce earlier [] = Unit {0}
EachOnce earlier (option ∷ options) = (stands_among earlier option.0 ≡ false) × EachOnce (earlier ++ option ∷ []) options

-- a target that may be asked for: it has a segment, its texts are UTF-8, and no option stands twice
pub record IsTarget (target : TargetOf) : Type 0 where
  pub segment : target.segments ≢ []
  pub segments : AllByRecursion IsUtf8 target.segments
  pub values : AllByRecursion (λ option. IsUtf8 option.1) target.options
  pub once : EachOnce [] target.options

-- a target that is written out and read is itself
abbrev pub ReadsBack : Type 0
ReadsBack = (target : TargetOf) → IsTarget target → target_of (printed_target target) ≡ Ok target

-- what is read is such a target
abbrev pub ReadsTargets : Type 0
ReadsTargets = (bytes : List ℕ) (target : TargetOf) → target_of bytes ≡ Ok target → IsTarget target

-- a target says something or has a first fault, and that is not that memory ran out
abbrev pub ReadingOrFault : Type 0
ReadingOrFault = (bytes : List ℕ)
    → ((target : TargetOf) × (target_of bytes ≡ Ok target)) ⊎ ((fault : UrlFault) × (target_of bytes ≡ Err fault) × (fault ≢ NoMemory))
