-- A target that is written out, read again.
use Rattle.std.proofs.Common.{◌≡◌, ◌≢◌, ℕ, ◌<◌, ◌/◌, ◌%◌, true, false, not, List, [], ◌∷◌, ◌++◌, map, length, Some, Ok, IsUtf8, All, refl, sym, ap, subst, ◌∙◌, arith, append_assoc, append-nil, ltb}
use Rattle.std.specs.Prelude.{◌==◌, filter}
use Rattle.std.specs.Char.{digit_value, to_ascii_lowercase}
use Rattle.std.specs.Fmt.{digit_glyph}
use Rattle.std.specs.List.{AllByRecursion, join_with_byte, list_all}
use Rattle.std.proofs.lemmas.Bool.{cond_both, ltb-true, and_parts, eq-eqb, eqb-false, ne_eqb, not-true}
use Rattle.std.proofs.lemmas.List.Elements.{All-from_recursion}
use Rattle.std.proofs.lemmas.List.Splits.{slice_split_at, slice_split_none}
use Rattle.std.proofs.lemmas.Str.{is_utf8-from_IsUtf8}
use lib.Utf8.{encode, encodes, scalar, scalars}
use borrow.Table.Char.{scalar_below}
use Rattle.percent_encoding.specs.Percent.{percent_encode_byte}
use Rattle.odata_url.specs.declared.option_name.OptionName.{OptionName}
use Rattle.odata_url.specs.declared.option_name.OptionName.TheVariants.{Apply, Filter, Count, OrderBy, Skip, Top, Select, Format}
use Rattle.odata_url.specs.Fault.{each}
use Rattle.odata_url.specs.Escapes.{percent_sign, octets_of, decoded_text}
use Rattle.odata_url.specs.Cuts.{is_byte, in_front, behind, parts}
use Rattle.odata_url.specs.OptionName.{dollar_sign, option_text, option_of_name}
use Rattle.odata_url.specs.Target.{slash, question_mark, ampersand, equals_sign, QueryOption, TargetOf, origin_form, segments_of, with_value, option_of, with_option, with_part, with_parts, has_bytes, options_of, target_of}
use Rattle.odata_url.specs.Laws.{escaped_text, printed_option, printed_target, EachOnce, IsTarget}
use Rattle.odata_url.proofs.CutLemmas.{in_front-past, behind-past}
use Rattle.odata_url.proofs.LawLemmas.{octets_of-plain, octets_of-escaped_text, value_of_glyph}
use Rattle.odata_url.proofs.OptionNameLemmas.{option_of_name-dollar}

-- ---- texts that lack a byte

abbrev pub Lacks : ℕ → List ℕ → Type 0
Lacks byte text = AllByRecursion (λ b. (b == byte) ≡ false) text

Lacks-append : (byte : ℕ) (text more : List ℕ) → Lacks byte text → Lacks byte more → Lacks byte (text ++ more)
Lacks-append byte [] more first second = second
Lacks-append byte (b ∷ text) more first second = (first.0, Lacks-append byte text more first.1 second)

Lacks-test : (byte : ℕ) (text : List ℕ) → list_all (λ b. not (b == byte)) text ≡ true → Lacks byte text
Lacks-test byte [] passes = tt
Lacks-test byte (b ∷ text) passes =
    let both = and_parts (not (b == byte)) (list_all (λ b. not (b == byte)) text) passes in
    (not-true (b == byte) both.0, Lacks-test byte text both.1)

-- a byte that is no hexadecimal digit
glyph_other : (byte d : ℕ) → d < 16 → digit_value byte ≡ 36 → (digit_glyph true d == byte) ≡ false
glyph_other byte d small other =
    ne_eqb (digit_glyph true d) byte (λ same. let value = sym (value_of_glyph d small) ∙ ap digit_value same ∙ other in omega arith)

Lacks-escaped_byte : (byte b : ℕ) → digit_value byte ≡ 36 → (percent_sign == byte) ≡ false → Lacks byte (percent_encode_byte b)
unfolding percent_encode_byte
Lacks-escaped_byte byte b other percent =
    (percent, (glyph_other byte (b / 16 % 16) (omega arith) other, (glyph_other byte (b % 16) (omega arith) other, tt)))

Lacks-escaped_text : (byte : ℕ) (text : List ℕ) → digit_value byte ≡ 36 → (percent_sign == byte) ≡ false → Lacks byte (escaped_text text)
Lacks-escaped_text byte [] other percent = tt
Lacks-escaped_text byte (b ∷ text) other percent =
    Lacks-append byte (percent_encode_byte b) (escaped_text text) (Lacks-escaped_byte byte b other percent) (Lacks-escaped_text byte text other percent)

Lacks-join : (byte between : ℕ) (texts : List (List ℕ)) → (between == byte) ≡ false → AllByRecursion (Lacks byte) texts → Lacks byte (join_with_byte between texts)
Lacks-join byte between [] other each_lacks = tt
Lacks-join byte between (text ∷ []) other each_lacks = each_lacks.0
Lacks-join byte between (text ∷ more ∷ texts) other each_lacks =
    Lacks-append byte text (between ∷ join_with_byte between (more ∷ texts)) each_lacks.0 (other, Lacks-join byte between (more ∷ texts) other each_lacks.1)

-- ---- splitting what was joined

in_front-joined : (byte : ℕ) (text more : List ℕ) → Lacks byte text → in_front byte (text ++ byte ∷ more) ≡ text
in_front-joined byte [] more lacks = rw (eq-eqb byte byte refl)
in_front-joined byte (b ∷ text) more lacks = in_front-past byte b (text ++ byte ∷ more) lacks.0 ∙ ap (λ front. b ∷ front) (in_front-joined byte text more lacks.1)

behind-joined : (byte : ℕ) (text more : List ℕ) → Lacks byte text → behind byte (text ++ byte ∷ more) ≡ more
behind-joined byte [] more lacks = rw (eq-eqb byte byte refl)
behind-joined byte (b ∷ text) more lacks = behind-past byte b (text ++ byte ∷ more) lacks.0 ∙ behind-joined byte text more lacks.1

lacks_all : (byte : ℕ) (text : List ℕ) → Lacks byte text → All (λ b. is_byte byte b ≡ false) text
lacks_all byte text lacks = All-from_recursion (λ b. is_byte byte b ≡ false) text lacks

pub parts-joined : (byte : ℕ) (text : List ℕ) (texts : List (List ℕ)) → AllByRecursion (Lacks byte) (text ∷ texts) → parts byte (join_with_byte byte (text ∷ texts)) ≡ text ∷ texts
parts-joined byte text [] each_lacks = slice_split_none (is_byte byte) text (lacks_all byte text each_lacks.0)
parts-joined byte text (more ∷ texts) each_lacks =
    slice_split_at (is_byte byte) text byte (join_with_byte byte (more ∷ texts)) (lacks_all byte text each_lacks.0) (eq-eqb byte byte refl)
    ∙ ap (λ left. text ∷ left) (parts-joined byte more texts each_lacks.1)

-- ---- texts of bytes

bytes_append : (text more : List ℕ) → AllByRecursion (λ b. b < 256) text → AllByRecursion (λ b. b < 256) more → AllByRecursion (λ b. b < 256) (text ++ more)
bytes_append [] more first second = second
bytes_append (b ∷ text) more first second = (first.0, bytes_append text more first.1 second)

-- UTF-8 is made of bytes
encode_bytes : (c : ℕ) → c < 1114112 → AllByRecursion (λ b. b < 256) (encode c)
unfolding encode
encode_bytes c below =
    let Bytes : List ℕ → Type 0 = AllByRecursion (λ b. b < 256) in
    cond_both (ltb c 128) _ _ Bytes (λ one. let small = ltb-true c 128 one in (omega arith, tt)) (λ _.
    cond_both (ltb c 2048) _ _ Bytes (λ two. let small = ltb-true c 2048 two in (omega arith, (omega arith, tt))) (λ _.
    cond_both (ltb c 65536) _ _ Bytes (λ three. let small = ltb-true c 65536 three in (omega arith, (omega arith, (omega arith, tt)))) (λ _.
    (omega arith, (omega arith, (omega arith, (omega arith, tt)))))))

encodes_bytes : (cs : List ℕ) → scalars cs ≡ true → AllByRecursion (λ b. b < 256) (encodes cs)
encodes_bytes [] are = tt
encodes_bytes (c ∷ cs) are =
    let both = and_parts (scalar c) (scalars cs) are in
    bytes_append (encode c) (encodes cs) (encode_bytes c (scalar_below c both.0)) (encodes_bytes cs both.1)

utf8_bytes : (text : List ℕ) → IsUtf8 text → AllByRecursion (λ b. b < 256) text
utf8_bytes text utf8 = subst (AllByRecursion (λ b. b < 256)) utf8.1.1 (encodes_bytes utf8.0 utf8.1.0)

-- ---- decoding what was escaped

decoded_text-octets : (text octets : List ℕ) → octets_of text ≡ Some octets → IsUtf8 octets → decoded_text text ≡ Ok octets
unfolding decoded_text
decoded_text-octets text octets whole utf8 = rw (whole, is_utf8-from_IsUtf8 octets utf8)

decoded_text-escaped : (text : List ℕ) → IsUtf8 text → decoded_text (escaped_text text) ≡ Ok text
decoded_text-escaped text utf8 = decoded_text-octets (escaped_text text) text (octets_of-escaped_text text (utf8_bytes text utf8)) utf8

each-escaped : (texts : List (List ℕ)) → AllByRecursion IsUtf8 texts → each decoded_text (map escaped_text texts) ≡ Ok texts
each-escaped [] utf8 = refl
each-escaped (text ∷ texts) utf8 = rw (decoded_text-escaped text utf8.0, each-escaped texts utf8.1)

each_lacks : (byte : ℕ) (texts : List (List ℕ)) → digit_value byte ≡ 36 → (percent_sign == byte) ≡ false → AllByRecursion (Lacks byte) (map escaped_text texts)
each_lacks byte [] other percent = tt
each_lacks byte (text ∷ texts) other percent = (Lacks-escaped_text byte text other percent, each_lacks byte texts other percent)

segments_of-printed : (segments : List (List ℕ)) → segments ≢ [] → AllByRecursion IsUtf8 segments → segments_of (slash ∷ join_with_byte slash (map escaped_text segments)) ≡ Ok segments
unfolding segments_of
segments_of-printed [] some utf8 = absurd (some refl)
segments_of-printed (segment ∷ segments) some utf8 =
    ap (each decoded_text) (parts-joined slash (escaped_text segment) (map escaped_text segments) (each_lacks slash (segment ∷ segments) refl refl))
    ∙ each-escaped (segment ∷ segments) utf8

-- ---- options

name_utf8 : (option : OptionName) → IsUtf8 (dollar_sign ∷ option_text option)
unfolding encode
name_utf8 Apply = (dollar_sign ∷ option_text Apply, (refl, refl))
name_utf8 Filter = (dollar_sign ∷ option_text Filter, (refl, refl))
name_utf8 Count = (dollar_sign ∷ option_text Count, (refl, refl))
name_utf8 OrderBy = (dollar_sign ∷ option_text OrderBy, (refl, refl))
name_utf8 Skip = (dollar_sign ∷ option_text Skip, (refl, refl))
name_utf8 Top = (dollar_sign ∷ option_text Top, (refl, refl))
name_utf8 Select = (dollar_sign ∷ option_text Select, (refl, refl))
name_utf8 Format = (dollar_sign ∷ option_text Format, (refl, refl))

name_plain : (option : OptionName) → list_all (λ b. not (b == percent_sign)) (option_text option) ≡ true
name_plain Apply = refl
name_plain Filter = refl
name_plain Count = refl
name_plain OrderBy = refl
name_plain Skip = refl
name_plain Top = refl
name_plain Select = refl
name_plain Format = refl

name_lacks_equals : (option : OptionName) → list_all (λ b. not (b == equals_sign)) (option_text option) ≡ true
name_lacks_equals Apply = refl
name_lacks_equals Filter = refl
name_lacks_equals Count = refl
name_lacks_equals OrderBy = refl
name_lacks_equals Skip = refl
name_lacks_equals Top = refl
name_lacks_equals Select = refl
name_lacks_equals Format = refl

name_lacks_ampersand : (option : OptionName) → list_all (λ b. not (b == ampersand)) (option_text option) ≡ true
name_lacks_ampersand Apply = refl
name_lacks_ampersand Filter = refl
name_lacks_ampersand Count = refl
name_lacks_ampersand OrderBy = refl
name_lacks_ampersand Skip = refl
name_lacks_ampersand Top = refl
name_lacks_ampersand Select = refl
name_lacks_ampersand Format = refl

name_lower : (option : OptionName) → map to_ascii_lowercase (option_text option) ≡ option_text option
name_lower Apply = refl
name_lower Filter = refl
name_lower Count = refl
name_lower OrderBy = refl
name_lower Skip = refl
name_lower Top = refl
name_lower Select = refl
name_lower Format = refl

plain_from_lacks : (text : List ℕ) → Lacks percent_sign text → AllByRecursion (λ b. b ≢ percent_sign) text
plain_from_lacks [] lacks = tt
plain_from_lacks (b ∷ text) lacks = (eqb-false b percent_sign lacks.0, plain_from_lacks text lacks.1)

decoded_text-name : (option : OptionName) → decoded_text (dollar_sign ∷ option_text option) ≡ Ok (dollar_sign ∷ option_text option)
decoded_text-name option =
    let lacks : Lacks percent_sign (dollar_sign ∷ option_text option) = (refl, Lacks-test percent_sign (option_text option) (name_plain option)) in
    decoded_text-octets (dollar_sign ∷ option_text option) (dollar_sign ∷ option_text option) (octets_of-plain (dollar_sign ∷ option_text option) (plain_from_lacks (dollar_sign ∷ option_text option) lacks)) (name_utf8 option)

option_of_name-name : (option : OptionName) → option_of_name (dollar_sign ∷ option_text option) ≡ Ok (Some option)
option_of_name-name option = option_of_name-dollar (dollar_sign ∷ option_text option) option (ap (λ name. dollar_sign ∷ name) (name_lower option))

option_of-printed : (option : QueryOption) → IsUtf8 option.1 → option_of (printed_option option) ≡ Ok (Some option)
unfolding option_of with_value
option_of-printed option utf8 =
    let lacks : Lacks equals_sign (dollar_sign ∷ option_text option.0) = (refl, Lacks-test equals_sign (option_text option.0) (name_lacks_equals option.0)) in
    rw (
      in_front-joined equals_sign (dollar_sign ∷ option_text option.0) (escaped_text option.1) lacks,
      behind-joined equals_sign (dollar_sign ∷ option_text option.0) (escaped_text option.1) lacks,
      decoded_text-name option.0,
      option_of_name-name option.0,
      decoded_text-escaped option.1 utf8,
    )

Lacks-printed_option : (option : QueryOption) → Lacks ampersand (printed_option option)
Lacks-printed_option option =
    (refl, Lacks-append ampersand (option_text option.0) (equals_sign ∷ escaped_text option.1) (Lacks-test ampersand (option_text option.0) (name_lacks_ampersand option.0)) (refl, Lacks-escaped_text ampersand option.1 refl refl))

each_lacks_ampersand : (options : List QueryOption) → AllByRecursion (Lacks ampersand) (map printed_option options)
each_lacks_ampersand [] = tt
each_lacks_ampersand (option ∷ options) = (Lacks-printed_option option, each_lacks_ampersand options)

has_bytes-cons : (b : ℕ) (text : List ℕ) → has_bytes (b ∷ text) ≡ true
has_bytes-cons b text = rw (ne_eqb (length (b ∷ text)) 0 (λ none. omega arith))

filter-printed : (options : List QueryOption) → filter has_bytes (map printed_option options) ≡ map printed_option options
filter-printed [] = refl
filter-printed (option ∷ options) =
    rw (has_bytes-cons dollar_sign (option_text option.0 ++ equals_sign ∷ escaped_text option.1))
    (ap (λ parts. printed_option option ∷ parts) (filter-printed options))

parts-printed : (options : List QueryOption) → filter has_bytes (parts ampersand (join_with_byte ampersand (map printed_option options))) ≡ map printed_option options
parts-printed [] = refl
parts-printed (option ∷ options) =
    ap (filter has_bytes) (parts-joined ampersand (printed_option option) (map printed_option options) (each_lacks_ampersand (option ∷ options)))
    ∙ filter-printed (option ∷ options)

with_parts-printed : (earlier options : List QueryOption) → EachOnce earlier options → AllByRecursion (λ option. IsUtf8 option.1) options → with_parts earlier (map printed_option options) ≡ Ok (earlier ++ options)
unfolding with_part with_option
with_parts-printed earlier [] once utf8 = ap Ok (sym (append-nil earlier))
with_parts-printed earlier (option ∷ options) once utf8 =
    rw (option_of-printed option utf8.0, once.0)
    (with_parts-printed (earlier ++ option ∷ []) options once.1 utf8.1 ∙ ap Ok (append_assoc earlier (option ∷ []) options))

options_of-printed : (options : List QueryOption) → EachOnce [] options → AllByRecursion (λ option. IsUtf8 option.1) options → options_of (join_with_byte ampersand (map printed_option options)) ≡ Ok options
unfolding options_of
options_of-printed options once utf8 = ap (with_parts []) (parts-printed options) ∙ with_parts-printed [] options once utf8

-- ---- targets

origin_form-slash : (text : List ℕ) → origin_form (slash ∷ text) ≡ Ok (slash ∷ text)
unfolding origin_form
origin_form-slash text = refl

pub target_of-printed : (target : TargetOf) → IsTarget target → target_of (printed_target target) ≡ Ok target
unfolding target_of
target_of-printed target is =
    let path = join_with_byte slash (map escaped_text target.segments) in
    let query = join_with_byte ampersand (map printed_option target.options) in
    let lacks : Lacks question_mark (slash ∷ path) = (refl, Lacks-join question_mark slash (map escaped_text target.segments) refl (each_lacks question_mark target.segments refl refl)) in
    rw (
      origin_form-slash (path ++ question_mark ∷ query),
      in_front-joined question_mark (slash ∷ path) query lacks,
      behind-joined question_mark (slash ∷ path) query lacks,
      segments_of-printed target.segments is.segment is.segments,
      options_of-printed target.options is.once is.values,
    )
