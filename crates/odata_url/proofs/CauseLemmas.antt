-- No definition says that memory ran out.
use Rattle.std.proofs.Common.{◌≡◌, ◌≢◌, ◌⊎◌, inl, inr, ℕ, Bool, true, false, cond, List, [], ◌∷◌, ◌++◌, Option, Some, None, Result, Ok, Err, refl}
use Rattle.std.specs.Prelude.{filter, drop}
use Rattle.std.specs.Str.{is_utf8}
use Rattle.odata_url.specs.declared.fault.UrlFault.{UrlFault}
use Rattle.odata_url.specs.declared.fault.UrlFault.TheVariants.{BadTarget, BadUtf8, UnknownOption, NotServed, OptionTwice, NoMemory}
use Rattle.odata_url.specs.declared.option_name.OptionName.{OptionName}
use Rattle.odata_url.specs.Fault.{◌>>=◌, each}
use Rattle.odata_url.specs.Escapes.{octets_of, utf8_text, decoded_text}
use Rattle.odata_url.specs.Cuts.{in_front, behind, parts}
use Rattle.odata_url.specs.OptionName.{begins_with, dollar_sign, plain_name, served_option, or_custom, option_of_name}
use Rattle.odata_url.specs.Target.{slash, question_mark, ampersand, equals_sign, QueryOption, TargetOf, is_absolute, with_slash, behind_authority, behind_scheme, origin_form, segments_of, with_value, option_of, stands_among, with_option, with_part, with_parts, has_bytes, options_of, target_of}

-- it does not say that memory ran out
abbrev HasMemory : {A : Type 0} → Result A UrlFault → Type 0
HasMemory read = read ≡ Err NoMemory → ⊥

is_value : {A : Type 0} (value : A) → HasMemory (Ok value)
is_value value memory = cc

both_have : {A B : Type 0} (read : Result A UrlFault) (next : A → Result B UrlFault) → HasMemory read → ((value : A) → HasMemory (next value)) → HasMemory (read >>= next)
both_have (Ok value) next first second memory = second value memory
both_have (Err fault) next first second memory = first (let same : fault ≡ NoMemory = cc in cc)

either_has : {A : Type 0} (test : Bool) (read other : Result A UrlFault) → HasMemory read → HasMemory other → HasMemory (cond test read other)
either_has true read other first second = first
either_has false read other first second = second

utf8_text-HasMemory : (octets : Option (List ℕ)) → HasMemory (utf8_text octets)
utf8_text-HasMemory None = (λ memory. cc)
utf8_text-HasMemory (Some octets) = either_has (is_utf8 octets) (Ok octets) (Err BadUtf8) (is_value octets) (λ memory. cc)

decoded_text-HasMemory : (text : List ℕ) → HasMemory (decoded_text text)
unfolding decoded_text
decoded_text-HasMemory text = utf8_text-HasMemory (octets_of text)

each-HasMemory : (texts : List (List ℕ)) → HasMemory (each decoded_text texts)
each-HasMemory [] = is_value []
each-HasMemory (text ∷ texts) =
    both_have (decoded_text text) _ (decoded_text-HasMemory text) (λ value.
    both_have (each decoded_text texts) _ (each-HasMemory texts) (λ values. is_value (value ∷ values)))

or_custom-HasMemory : (name : List ℕ) (option : Option OptionName) → HasMemory (or_custom name option)
or_custom-HasMemory name (Some option) = is_value (Some option)
or_custom-HasMemory name None = either_has (begins_with dollar_sign name) (Err UnknownOption) (Ok None) (λ memory. cc) (is_value None)

option_of_name-HasMemory : (name : List ℕ) → HasMemory (option_of_name name)
unfolding option_of_name
option_of_name-HasMemory name = either_has _ (Err NotServed) (or_custom name (served_option (plain_name name))) (λ memory. cc) (or_custom-HasMemory name (served_option (plain_name name)))

with_value-HasMemory : (option : Option OptionName) (value : List ℕ) → HasMemory (with_value option value)
unfolding with_value
with_value-HasMemory None value = is_value None
with_value-HasMemory (Some option) value = both_have (decoded_text value) _ (decoded_text-HasMemory value) (λ text. is_value (Some (option, text)))

option_of-HasMemory : (part : List ℕ) → HasMemory (option_of part)
unfolding option_of
option_of-HasMemory part =
    both_have (decoded_text (in_front equals_sign part)) _ (decoded_text-HasMemory (in_front equals_sign part)) (λ name.
    both_have (option_of_name name) _ (option_of_name-HasMemory name) (λ option. with_value-HasMemory option (behind equals_sign part)))

with_option-HasMemory : (options : List QueryOption) (option : Option QueryOption) → HasMemory (with_option options option)
unfolding with_option
with_option-HasMemory options None = is_value options
with_option-HasMemory options (Some option) = either_has (stands_among options option.0) (Err OptionTwice) (Ok (options ++ option ∷ [])) (λ memory. cc) (is_value (options ++ option ∷ []))

with_parts-HasMemory : (options : List QueryOption) (texts : List (List ℕ)) → HasMemory (with_parts options texts)
unfolding with_part
with_parts-HasMemory options [] = is_value options
with_parts-HasMemory options (part ∷ texts) =
    both_have (with_part options part) _ (both_have (option_of part) _ (option_of-HasMemory part) (with_option-HasMemory options)) (λ more. with_parts-HasMemory more texts)

origin_form-HasMemory : (bytes : List ℕ) → HasMemory (origin_form bytes)
unfolding origin_form
origin_form-HasMemory bytes =
    either_has (is_absolute bytes) (Ok (with_slash (behind_authority (behind_scheme bytes)))) _ (is_value (with_slash (behind_authority (behind_scheme bytes))))
    (either_has (begins_with slash bytes) (Ok bytes) (Err BadTarget) (is_value bytes) (λ memory. cc))

target_of-HasMemory : (bytes : List ℕ) → HasMemory (target_of bytes)
unfolding target_of segments_of options_of
target_of-HasMemory bytes =
    both_have (origin_form bytes) _ (origin_form-HasMemory bytes) (λ text.
    both_have (segments_of (in_front question_mark text)) _ (each-HasMemory (parts slash (drop 1 (in_front question_mark text)))) (λ segments.
    both_have (options_of (behind question_mark text)) _ (with_parts-HasMemory [] (filter has_bytes (parts ampersand (behind question_mark text)))) (λ options.
    is_value (record { segments = segments; options = options }))))

one_of_both : (read : Result TargetOf UrlFault) → HasMemory read → ((target : TargetOf) × (read ≡ Ok target)) ⊎ ((fault : UrlFault) × (read ≡ Err fault) × (fault ≢ NoMemory))
one_of_both (Ok target) has = inl (target, refl)
one_of_both (Err fault) has = inr (fault, refl, λ memory. has (let same : fault ≡ NoMemory = memory in cc))

pub target_of-either : (bytes : List ℕ) → ((target : TargetOf) × (target_of bytes ≡ Ok target)) ⊎ ((fault : UrlFault) × (target_of bytes ≡ Err fault) × (fault ≢ NoMemory))
target_of-either bytes = one_of_both (target_of bytes) (target_of-HasMemory bytes)
