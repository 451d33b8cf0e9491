-- What is decoded of a target is hardly longer than the target.
use Rattle.std.proofs.Common.{◌+◌, ◌≤◌, ℕ, Bool, true, false, List, [], ◌∷◌, ◌++◌, length, drop, Option, Some, None, Result, Ok, Err, IfSome, IfOk, option_map, cond, if◌then◌else◌, arith, length-drop}
use Rattle.std.specs.Prelude.{filter, ⊤, ◌&&◌, ◌==◌}
use Rattle.std.specs.Char.{is_ascii_hexdigit}
use Rattle.std.specs.List.{AllByRecursion, onto_first, position_or_len, slice_split}
use Rattle.std.specs.Str.{is_utf8}
use Rattle.odata_url.specs.declared.fault.UrlFault.{UrlFault}
use Rattle.odata_url.specs.declared.fault.UrlFault.TheVariants.{BadTarget, BadUtf8, OptionTwice}
use Rattle.odata_url.specs.declared.option_name.OptionName.{OptionName}
use Rattle.odata_url.specs.Fault.{◌>>=◌}
use Rattle.odata_url.specs.Escapes.{decoded_text, octet, octets_of, percent_sign, utf8_text}
use Rattle.odata_url.specs.Cuts.{behind, in_front, is_byte, parts}
use Rattle.odata_url.specs.OptionName.{begins_with, option_of_name}
use Rattle.odata_url.specs.Target.{QueryOption, ampersand, behind_authority, behind_scheme, ends_authority, equals_sign, has_bytes, is_absolute, stands_among, option_of, options_of, origin_form, question_mark, scheme, segments_of, slash, target_of, with_option, with_part, with_parts, with_slash, with_value}

-- ---- walks

chained : {A B : Type 0} {P : A → Type 0} (Q : B → Type 0) (r : Result A UrlFault) (f : A → Result B UrlFault) → IfOk r P
    → ((x : A) → P x → IfOk (f x) Q) → IfOk (r >>= f) Q
chained Q (Ok x) f h k = k x h
chained Q (Err e) f h k = tt

either_ok : {A : Type 0} (P : A → Type 0) (b : Bool) (x y : Result A UrlFault) → IfOk x P → IfOk y P → IfOk (if b then x else y) P
either_ok P true x y h k = h
either_ok P false x y h k = k

either_some : {A : Type 0} (P : A → Type 0) (b : Bool) (x y : Option A) → IfSome x P → IfSome y P → IfSome (if b then x else y) P
either_some P true x y h k = h
either_some P false x y h k = k

-- ---- texts

abbrev IsWithin : ℕ → List ℕ → Type 0
IsWithin n text = length text ≤ n

onto_octets : (b n m : ℕ) (o : Option (List ℕ)) → n + 1 ≤ m → IfSome o (IsWithin n) → IfSome (option_map (λ octets. b ∷ octets) o) (IsWithin m)
onto_octets b n m None k h = tt
onto_octets b n m (Some octets) k h = omega (arith, h, k)

pub octets_short : (text : List ℕ) → IfSome (octets_of text) (IsWithin (length text))
octets_short [] = omega arith
octets_short (b ∷ []) =
    either_some (IsWithin (length (b ∷ []))) (b == percent_sign) None (option_map (λ octets. b ∷ octets) (octets_of [])) tt
    (onto_octets b (length {A = ℕ} []) (length (b ∷ [])) (octets_of []) (omega arith) (octets_short []))
octets_short (b ∷ high ∷ []) =
    either_some (IsWithin (length (b ∷ high ∷ []))) (b == percent_sign) None (option_map (λ octets. b ∷ octets) (octets_of (high ∷ []))) tt
    (onto_octets b (length (high ∷ [])) (length (b ∷ high ∷ [])) (octets_of (high ∷ [])) (omega arith) (octets_short (high ∷ [])))
octets_short (b ∷ high ∷ low ∷ text) =
    either_some (IsWithin (length (b ∷ high ∷ low ∷ text))) (b == percent_sign)
    (if is_ascii_hexdigit high && is_ascii_hexdigit low then option_map (λ octets. octet high low ∷ octets) (octets_of text) else None)
    (option_map (λ octets. b ∷ octets) (octets_of (high ∷ low ∷ text)))
    (either_some (IsWithin (length (b ∷ high ∷ low ∷ text))) (is_ascii_hexdigit high && is_ascii_hexdigit low)
    (option_map (λ octets. octet high low ∷ octets) (octets_of text)) None
    (onto_octets (octet high low) (length text) (length (b ∷ high ∷ low ∷ text)) (octets_of text) (omega arith) (octets_short text)) tt)
    (onto_octets b (length (high ∷ low ∷ text)) (length (b ∷ high ∷ low ∷ text)) (octets_of (high ∷ low ∷ text)) (omega arith) (octets_short (high ∷ low ∷ text)))

utf8_short : (n : ℕ) (o : Option (List ℕ)) → IfSome o (IsWithin n) → IfOk (utf8_text o) (IsWithin n)
utf8_short n None h = tt
utf8_short n (Some octets) h = either_ok (IsWithin n) (is_utf8 octets) (Ok octets) (Err BadUtf8) h tt

decoded_short : (n : ℕ) (text : List ℕ) → length text ≤ n → IfOk (decoded_text text) (IsWithin n)
unfolding decoded_text
decoded_short n text k = utf8_short n (octets_of text) (widen (octets_of text) (octets_short text))
  where
    widen : (o : Option (List ℕ)) → IfSome o (IsWithin (length text)) → IfSome o (IsWithin n)
    widen None h = tt
    widen (Some octets) h = omega (arith, h, k)

-- ---- parts

abbrev AreWithin : ℕ → List (List ℕ) → Type 0
AreWithin n texts = AllByRecursion (IsWithin n) texts

widen_all : (n m : ℕ) (texts : List (List ℕ)) → n ≤ m → AreWithin n texts → AreWithin m texts
widen_all n m [] k h = tt
widen_all n m (text ∷ texts) k h = let first = h.0 in (omega (arith, first, k), widen_all n m texts k h.1)

onto_first_within : (b n : ℕ) (texts : List (List ℕ)) → AreWithin n texts → AreWithin (n + 1) (onto_first b texts)
onto_first_within b n [] h = (omega arith, tt)
onto_first_within b n (text ∷ texts) h = let first = h.0 in (omega (arith, first), widen_all n (n + 1) texts (omega arith) h.1)

either_within : (n : ℕ) (b : Bool) (x y : List (List ℕ)) → AreWithin n x → AreWithin n y → AreWithin n (cond b x y)
either_within n true x y h k = h
either_within n false x y h k = k

split_within : (p : ℕ → Bool) (text : List ℕ) (n : ℕ) → length text ≤ n → AreWithin n (slice_split p text)
split_within p [] n k = (omega arith, tt)
split_within p (b ∷ text) n k =
    let m : length text + 1 ≤ n = omega (arith, k) in
    let others = split_within p text (length text) (omega arith) in
    widen_all (length text + 1) n (cond (p b) ([] ∷ slice_split p text) (onto_first b (slice_split p text))) m
    (either_within (length text + 1) (p b) ([] ∷ slice_split p text) (onto_first b (slice_split p text))
    (omega arith, widen_all (length text) (length text + 1) (slice_split p text) (omega arith) others)
    (onto_first_within b (length text) (slice_split p text) others))

either_kept : (n : ℕ) (b : Bool) (text : List ℕ) (texts : List (List ℕ)) → length text ≤ n → AreWithin n texts → AreWithin n (cond b (text ∷ texts) texts)
either_kept n true text texts k h = (k, h)
either_kept n false text texts k h = h

filter_within : (p : List ℕ → Bool) (n : ℕ) (texts : List (List ℕ)) → AreWithin n texts → AreWithin n (filter p texts)
filter_within p n [] h = tt
filter_within p n (text ∷ texts) h = either_kept n (p text) text (filter p texts) h.0 (filter_within p n texts h.1)

-- ---- options

abbrev HasShortValue : ℕ → QueryOption → Type 0
HasShortValue n option = length option.1 ≤ n

abbrev pub HaveShortValues : ℕ → List QueryOption → Type 0
HaveShortValues n options = AllByRecursion (HasShortValue n) options

value_short : (n : ℕ) (o : Option OptionName) (value : List ℕ) → length value ≤ n → IfOk (with_value o value) (λ r. IfSome r (HasShortValue n))
unfolding with_value
value_short n None value k = tt
value_short n (Some name) value k = chained {P = IsWithin n} (λ r. IfSome r (HasShortValue n)) (decoded_text value) (λ text. Ok (Some (name, text))) (decoded_short n value k) (λ text h. h)

behind_within : (byte n : ℕ) (text : List ℕ) → length text ≤ n → length (behind byte text) ≤ n
behind_within byte n text k =
    let e = length-drop (position_or_len (is_byte byte) text + 1) text in omega (arith, e, k)

anything : {A : Type 0} (r : Result A UrlFault) → IfOk r (λ x. ⊤)
anything (Ok x) = tt
anything (Err e) = tt

part_short : (n : ℕ) (part : List ℕ) → length part ≤ n → IfOk (option_of part) (λ r. IfSome r (HasShortValue n))
unfolding option_of
part_short n part k =
    chained {P = λ x. ⊤} (λ r. IfSome r (HasShortValue n)) (decoded_text (in_front equals_sign part))
    (λ name. option_of_name name >>= λ option. with_value option (behind equals_sign part)) (anything (decoded_text (in_front equals_sign part)))
    (λ name u. chained {P = λ x. ⊤} (λ r. IfSome r (HasShortValue n)) (option_of_name name) (λ option. with_value option (behind equals_sign part)) (anything (option_of_name name))
    (λ option v. value_short n option (behind equals_sign part) (behind_within equals_sign n part k)))

added : (n : ℕ) (options : List QueryOption) (option : QueryOption) → HaveShortValues n options → HasShortValue n option → HaveShortValues n (options ++ option ∷ [])
added n [] option h k = (k, tt)
added n (first ∷ options) option h k = (h.0, added n options option h.1 k)

option_added : (n : ℕ) (options : List QueryOption) (o : Option QueryOption) → HaveShortValues n options → IfSome o (HasShortValue n)
    → IfOk (with_option options o) (HaveShortValues n)
unfolding with_option
option_added n options None h k = h
option_added n options (Some option) h k =
    either_ok (HaveShortValues n) (stands_among options option.0) (Err OptionTwice) (Ok (options ++ option ∷ [])) tt (added n options option h k)

part_added : (n : ℕ) (options : List QueryOption) (part : List ℕ) → HaveShortValues n options → length part ≤ n → IfOk (with_part options part) (HaveShortValues n)
unfolding with_part
part_added n options part h k =
    chained {P = λ r. IfSome r (HasShortValue n)} (HaveShortValues n) (option_of part) (λ option. with_option options option) (part_short n part k)
    (λ option s. option_added n options option h s)

parts_added : (n : ℕ) (options : List QueryOption) (texts : List (List ℕ)) → HaveShortValues n options → AreWithin n texts
    → IfOk (with_parts options texts) (HaveShortValues n)
parts_added n options [] h k = h
parts_added n options (text ∷ texts) h k =
    chained {P = HaveShortValues n} (HaveShortValues n) (with_part options text) (λ more. with_parts more texts) (part_added n options text h k.0)
    (λ more s. parts_added n more texts s k.1)

options_short : (n : ℕ) (query : List ℕ) → length query ≤ n → IfOk (options_of query) (HaveShortValues n)
unfolding options_of
options_short n query k =
    parts_added n [] (filter has_bytes (parts ampersand query)) tt
    (filter_within has_bytes n (parts ampersand query) (split_within (is_byte ampersand) query n k))

-- ---- targets

slash_within : (text : List ℕ) (n : ℕ) → length text ≤ n → length (with_slash text) ≤ n + 1
slash_within text n k = either (begins_with slash text)
  where
    either : (b : Bool) → length (if b then text else slash ∷ text) ≤ n + 1
    either true = omega (arith, k)
    either false = omega (arith, k)

dropped : (i n : ℕ) (text : List ℕ) → length text ≤ n → length (drop i text) ≤ n
dropped i n text k = let e = length-drop i text in omega (arith, e, k)

origin_short : (bytes : List ℕ) (n : ℕ) → length bytes ≤ n → IfOk (origin_form bytes) (IsWithin (n + 1))
unfolding origin_form
origin_short bytes n k =
    either_ok (IsWithin (n + 1)) (is_absolute bytes) (Ok (with_slash (behind_authority (behind_scheme bytes)))) (if begins_with slash bytes then Ok bytes else Err BadTarget)
    (slash_within (behind_authority (behind_scheme bytes)) n
    (dropped (position_or_len ends_authority (behind_scheme bytes)) n (behind_scheme bytes) (dropped (length scheme) n bytes k)))
    (either_ok (IsWithin (n + 1)) (begins_with slash bytes) (Ok bytes) (Err BadTarget) (omega (arith, k)) tt)

-- an option's value is at most a byte longer than the target
pub target_short : (bytes : List ℕ) (n : ℕ) → length bytes ≤ n → IfOk (target_of bytes) (λ target. HaveShortValues (n + 1) target.options)
unfolding target_of
target_short bytes n k =
    chained {P = IsWithin (n + 1)} (λ t. HaveShortValues (n + 1) t.options) (origin_form bytes)
    (λ target. segments_of (in_front question_mark target) >>= λ segments. options_of (behind question_mark target) >>= λ options. Ok (record { segments = segments; options = options }))
    (origin_short bytes n k)
    (λ target h. chained {P = λ x. ⊤} (λ t. HaveShortValues (n + 1) t.options) (segments_of (in_front question_mark target))
    (λ segments. options_of (behind question_mark target) >>= λ options. Ok (record { segments = segments; options = options }))
    (anything (segments_of (in_front question_mark target)))
    (λ segments u. chained {P = HaveShortValues (n + 1)} (λ t. HaveShortValues (n + 1) t.options) (options_of (behind question_mark target))
    (λ options. Ok (record { segments = segments; options = options }))
    (options_short (n + 1) (behind question_mark target) (behind_within question_mark (n + 1) target h)) (λ options s. s)))
