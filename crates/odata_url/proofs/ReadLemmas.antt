-- What was read of a target.
use Rattle.std.proofs.Common.{◌≡◌, ◌≢◌, ℕ, Bool, true, false, cond, List, [], ◌∷◌, ◌++◌, length, drop, Option, Some, None, Result, Ok, Err, IsUtf8, refl, sym, ap, subst, ◌∙◌, arith, append_assoc, append-nil}
use Rattle.std.specs.Prelude.{filter}
use Rattle.std.specs.Str.{is_utf8}
use Rattle.std.specs.List.{AllByRecursion}
use Rattle.std.proofs.lemmas.List.Splits.{length-slice_split}
use Rattle.std.proofs.lemmas.Str.{IsUtf8-from_is_utf8}
use Rattle.odata_url.specs.declared.fault.UrlFault.{UrlFault}
use Rattle.odata_url.specs.declared.fault.UrlFault.TheVariants.{BadUtf8, OptionTwice}
use Rattle.odata_url.specs.declared.option_name.OptionName.{OptionName}
use Rattle.odata_url.specs.Fault.{◌>>=◌, each}
use Rattle.odata_url.specs.Escapes.{octets_of, utf8_text, decoded_text}
use Rattle.odata_url.specs.Cuts.{is_byte, in_front, behind, parts}
use Rattle.odata_url.specs.OptionName.{option_of_name}
use Rattle.odata_url.specs.Target.{slash, question_mark, ampersand, equals_sign, QueryOption, TargetOf, origin_form, segments_of, with_value, option_of, stands_among, with_option, with_part, with_parts, has_bytes, options_of, target_of}
use Rattle.odata_url.specs.Laws.{EachOnce, IsTarget}

-- a step that was made, and what it led to
record Step {A B : Type 0} (read : Result A UrlFault) (next : A → Result B UrlFault) (value : B) : Type 0 where
  pub found : A
  pub is : read ≡ Ok found
  pub leads : next found ≡ Ok value

step : {A B : Type 0} (read : Result A UrlFault) (next : A → Result B UrlFault) (value : B) → (read >>= next) ≡ Ok value → Step read next value
step (Ok found) next value made = record { found = found; is = refl; leads = made }
step (Err fault) next value made = cc

utf8_text-IsUtf8 : (octets : Option (List ℕ)) (text : List ℕ) → utf8_text octets ≡ Ok text → IsUtf8 text
utf8_text-IsUtf8 None text is = cc
utf8_text-IsUtf8 (Some octets) text is = tested (is_utf8 octets) refl is
  where
    tested : (test : Bool) → is_utf8 octets ≡ test → cond test (Ok octets) (Err BadUtf8) ≡ Ok text → IsUtf8 text
    tested true utf8 same = let e : octets ≡ text = cc in subst IsUtf8 e (IsUtf8-from_is_utf8 octets utf8)
    tested false utf8 same = cc

decoded_text-IsUtf8 : (encoded text : List ℕ) → decoded_text encoded ≡ Ok text → IsUtf8 text
unfolding decoded_text
decoded_text-IsUtf8 encoded text is = utf8_text-IsUtf8 (octets_of encoded) text is

-- ---- segments

each-IsUtf8 : (texts values : List (List ℕ)) → each decoded_text texts ≡ Ok values → AllByRecursion IsUtf8 values
each-IsUtf8 [] values made = let none : [] ≡ values = cc in subst (AllByRecursion IsUtf8) none tt
each-IsUtf8 (text ∷ texts) values made =
    let first = step (decoded_text text) (λ value. each decoded_text texts >>= (λ more. Ok (value ∷ more))) values made in
    let rest = step (each decoded_text texts) (λ more. Ok (first.found ∷ more)) values first.leads in
    let all : first.found ∷ rest.found ≡ values = (let leads = rest.leads in cc) in
    subst (AllByRecursion IsUtf8) all (decoded_text-IsUtf8 text first.found first.is, each-IsUtf8 texts rest.found rest.is)

length-each : (texts values : List (List ℕ)) → each decoded_text texts ≡ Ok values → length values ≡ length texts
length-each [] values made = let none : [] ≡ values = cc in ap length (sym none)
length-each (text ∷ texts) values made =
    let first = step (decoded_text text) (λ value. each decoded_text texts >>= (λ more. Ok (value ∷ more))) values made in
    let rest = step (each decoded_text texts) (λ more. Ok (first.found ∷ more)) values first.leads in
    let all : first.found ∷ rest.found ≡ values = (let leads = rest.leads in cc) in
    let more = length-each texts rest.found rest.is in
    subst (λ values. length values ≡ length (text ∷ texts)) all (omega arith)

some_segment : (path : List ℕ) (segments : List (List ℕ)) → segments_of path ≡ Ok segments → segments ≢ []
unfolding segments_of
some_segment path segments made none =
    let same = length-each (parts slash (drop 1 path)) segments made in
    let count = length-slice_split (is_byte slash) (drop 1 path) in
    let empty : length segments ≡ 0 = ap length none in
    omega arith

segments-IsUtf8 : (path : List ℕ) (segments : List (List ℕ)) → segments_of path ≡ Ok segments → AllByRecursion IsUtf8 segments
unfolding segments_of
segments-IsUtf8 path segments made = each-IsUtf8 (parts slash (drop 1 path)) segments made

-- ---- options

with_value-IsUtf8 : (name : Option OptionName) (value : List ℕ) (option : QueryOption) → with_value name value ≡ Ok (Some option) → IsUtf8 option.1
unfolding with_value
with_value-IsUtf8 None value option made = cc
with_value-IsUtf8 (Some name) value option made =
    let text = step (decoded_text value) (λ text. Ok (Some (name, text))) (Some option) made in
    let all : (name, text.found) ≡ option = (let leads = text.leads in cc) in
    subst (λ (found : QueryOption). IsUtf8 found.1) all (decoded_text-IsUtf8 value text.found text.is)

option_of-IsUtf8 : (part : List ℕ) (option : QueryOption) → option_of part ≡ Ok (Some option) → IsUtf8 option.1
unfolding option_of
option_of-IsUtf8 part option made =
    let name = step (decoded_text (in_front equals_sign part)) (λ name. option_of_name name >>= (λ option. with_value option (behind equals_sign part))) (Some option) made in
    let named = step (option_of_name name.found) (λ option. with_value option (behind equals_sign part)) (Some option) name.leads in
    with_value-IsUtf8 named.found (behind equals_sign part) option named.leads

-- options that stand after others, none of them twice
record Behind (earlier options : List QueryOption) : Type 0 where
  pub more : List QueryOption
  pub all : options ≡ earlier ++ more
  pub once : EachOnce earlier more
  pub utf8 : AllByRecursion (λ option. IsUtf8 option.1) more

-- what a part adds: nothing, or an option that is none of the earlier ones
added : (earlier options : List QueryOption) (found : Option QueryOption) (part : List ℕ) → option_of part ≡ Ok found → with_option earlier found ≡ Ok options → Behind earlier options
unfolding with_option
added earlier options None part is made =
    let same : earlier ≡ options = cc in
    record { more = []; all = sym same ∙ sym (append-nil earlier); once = tt; utf8 = tt }
added earlier options (Some option) part is made = tested (stands_among earlier option.0) refl made
  where
    tested : (test : Bool) → stands_among earlier option.0 ≡ test → cond test (Err OptionTwice) (Ok (earlier ++ option ∷ [])) ≡ Ok options → Behind earlier options
    tested true among added = cc
    tested false other added =
        let same : earlier ++ option ∷ [] ≡ options = cc in
        record { more = option ∷ []; all = sym same; once = (other, tt); utf8 = (option_of-IsUtf8 part option is, tt) }

EachOnce-append : (earlier first second : List QueryOption) → EachOnce earlier first → EachOnce (earlier ++ first) second → EachOnce earlier (first ++ second)
EachOnce-append earlier [] second once more = subst (λ options. EachOnce options second) (append-nil earlier) more
EachOnce-append earlier (option ∷ first) second once more =
    (once.0, EachOnce-append (earlier ++ option ∷ []) first second once.1 (subst (λ options. EachOnce options second) (sym (append_assoc earlier (option ∷ []) first)) more))

utf8-append : (first second : List QueryOption) → AllByRecursion (λ option. IsUtf8 option.1) first → AllByRecursion (λ option. IsUtf8 option.1) second → AllByRecursion (λ option. IsUtf8 option.1) (first ++ second)
utf8-append [] second utf8 more = more
utf8-append (option ∷ first) second utf8 more = (utf8.0, utf8-append first second utf8.1 more)

with_parts-Behind : (earlier : List QueryOption) (texts : List (List ℕ)) (options : List QueryOption) → with_parts earlier texts ≡ Ok options → Behind earlier options
unfolding with_part
with_parts-Behind earlier [] options made =
    let same : earlier ≡ options = cc in
    record { more = []; all = sym same ∙ sym (append-nil earlier); once = tt; utf8 = tt }
with_parts-Behind earlier (part ∷ texts) options made =
    let next = step (with_part earlier part) (λ more. with_parts more texts) options made in
    let found = step (option_of part) (λ option. with_option earlier option) next.found next.is in
    let first = added earlier next.found found.found part found.is found.leads in
    let rest = with_parts-Behind next.found texts options next.leads in
    record {
      more = first.more ++ rest.more;
      all = rest.all ∙ ap (λ front. front ++ rest.more) first.all ∙ append_assoc earlier first.more rest.more;
      once = EachOnce-append earlier first.more rest.more first.once (subst (λ front. EachOnce front rest.more) first.all rest.once);
      utf8 = utf8-append first.more rest.more first.utf8 rest.utf8;
    }

-- what is known of options
record AreOptions (options : List QueryOption) : Type 0 where
  pub once : EachOnce [] options
  pub utf8 : AllByRecursion (λ option. IsUtf8 option.1) options

are_options : (options : List QueryOption) → Behind [] options → AreOptions options
are_options options read = subst AreOptions (sym read.all) (record { once = read.once; utf8 = read.utf8 })

options_of-once : (query : List ℕ) (options : List QueryOption) → options_of query ≡ Ok options → AreOptions options
unfolding options_of
options_of-once query options made = are_options options (with_parts-Behind [] (filter has_bytes (parts ampersand query)) options made)

-- ---- targets

is_target : (segments : List (List ℕ)) (options : List QueryOption) (target : TargetOf) → ◌≡◌ {A = Result TargetOf UrlFault} (Ok (record { segments = segments; options = options })) (Ok target) → segments ≢ [] → AllByRecursion IsUtf8 segments → AreOptions options → IsTarget target
is_target segments options target same some utf8 are =
    let read : TargetOf = record { segments = segments; options = options } in
    let is : read ≡ target = cc in
    subst IsTarget is (record { segment = some; segments = utf8; values = are.utf8; once = are.once })

pub target_of-IsTarget : (bytes : List ℕ) (target : TargetOf) → target_of bytes ≡ Ok target → IsTarget target
unfolding target_of
target_of-IsTarget bytes target made =
    let form = step (origin_form bytes) (λ text. segments_of (in_front question_mark text) >>= (λ segments. options_of (behind question_mark text) >>= (λ options. Ok (record { segments = segments; options = options })))) target made in
    let path = step (segments_of (in_front question_mark form.found)) (λ segments. options_of (behind question_mark form.found) >>= (λ options. Ok (record { segments = segments; options = options }))) target form.leads in
    let query = step (options_of (behind question_mark form.found)) (λ options. Ok (record { segments = path.found; options = options })) target path.leads in
    is_target path.found query.found target query.leads
    (some_segment (in_front question_mark form.found) path.found path.is)
    (segments-IsUtf8 (in_front question_mark form.found) path.found path.is)
    (options_of-once (behind question_mark form.found) query.found query.is)
