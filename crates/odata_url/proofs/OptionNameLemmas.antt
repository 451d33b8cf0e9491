-- Names of options: a name that differs from a text, and which names mean an option.
use Rattle.std.proofs.Common.{◌≡◌, ◌⊎◌, inl, inr, ℕ, Bool, true, false, cond, ◌||◌, List, [], ◌∷◌, map, Option, Some, None, Result, Ok, Err, refl, sym, ap, subst, ◌∙◌, arith, ⊎_elim}
use Rattle.std.specs.Prelude.{◌==◌, find}
use Rattle.std.specs.Char.{to_ascii_lowercase}
use Rattle.std.specs.Str.{bytes_eq}
use Rattle.std.proofs.lemmas.Bool.{cases_Bool, eqb-true, cond-true, cond-false}
use Rattle.std.proofs.lemmas.Bool.Decides.{nat_tests}
use Rattle.std.proofs.lemmas.Slice.Eq.{bytes_eq-Decides}
use Rattle.odata_url.specs.contracts.option_name.OptionNamePartialEq.TheImpl.{ghosts}
use Rattle.odata_url.specs.declared.option_name.OptionName.{OptionName}
use Rattle.odata_url.specs.declared.option_name.OptionName.TheVariants.{Apply, Filter, Count, OrderBy, Skip, Top, Select, Format}
use Rattle.odata_url.specs.declared.fault.UrlFault.{UrlFault}
use Rattle.odata_url.specs.declared.fault.UrlFault.TheVariants.{NotServed, UnknownOption}
use Rattle.odata_url.specs.OptionName.{dollar_sign, at_sign, option_text, served_options, begins_with, without_dollar, plain_name, is_unserved, served_option, or_custom, option_of_name}

pub bytes_eq-other : {text name : List ℕ} → (name ≡ text → ⊥) → bytes_eq text name ≡ false
bytes_eq-other {text} {name} other =
    ⊎_elim (λ same. absurd (other (sym ((bytes_eq-Decides text name).0 same)))) (λ is. is) (cases_Bool (bytes_eq text name))

pub without_dollar-none : (name : List ℕ) → ((rest : List ℕ) → name ≡ 36 ∷ rest → ⊥) → name ≡ without_dollar name
without_dollar-none [] none = refl
without_dollar-none (b ∷ rest) none =
    ⊎_elim (λ is. absurd (none rest (ap (λ first. first ∷ rest) (eqb-true b 36 is)))) (λ other. rw other) (cases_Bool (b == dollar_sign))

-- `==` of two options is `==` of their names
pub eq-option_text : (a b : OptionName) → (ghosts).eq a b ≡ bytes_eq (option_text a) (option_text b)
eq-option_text Apply b = elim b as (λ other. (ghosts).eq Apply other ≡ bytes_eq (option_text Apply) (option_text other)) [ Apply ↦ refl | _ ↦ refl ]
eq-option_text Filter b = elim b as (λ other. (ghosts).eq Filter other ≡ bytes_eq (option_text Filter) (option_text other)) [ Filter ↦ refl | _ ↦ refl ]
eq-option_text Count b = elim b as (λ other. (ghosts).eq Count other ≡ bytes_eq (option_text Count) (option_text other)) [ Count ↦ refl | _ ↦ refl ]
eq-option_text OrderBy b = elim b as (λ other. (ghosts).eq OrderBy other ≡ bytes_eq (option_text OrderBy) (option_text other)) [ OrderBy ↦ refl | _ ↦ refl ]
eq-option_text Skip b = elim b as (λ other. (ghosts).eq Skip other ≡ bytes_eq (option_text Skip) (option_text other)) [ Skip ↦ refl | _ ↦ refl ]
eq-option_text Top b = elim b as (λ other. (ghosts).eq Top other ≡ bytes_eq (option_text Top) (option_text other)) [ Top ↦ refl | _ ↦ refl ]
eq-option_text Select b = elim b as (λ other. (ghosts).eq Select other ≡ bytes_eq (option_text Select) (option_text other)) [ Select ↦ refl | _ ↦ refl ]
eq-option_text Format b = elim b as (λ other. (ghosts).eq Format other ≡ bytes_eq (option_text Format) (option_text other)) [ Format ↦ refl | _ ↦ refl ]

-- what is known of each option's name
served_option-option_text : (option : OptionName) → served_option (option_text option) ≡ Some option
unfolding served_option
served_option-option_text Apply = refl
served_option-option_text Filter = refl
served_option-option_text Count = refl
served_option-option_text OrderBy = refl
served_option-option_text Skip = refl
served_option-option_text Top = refl
served_option-option_text Select = refl
served_option-option_text Format = refl

is_unserved-option_text : (option : OptionName) → is_unserved (option_text option) ≡ false
unfolding is_unserved
is_unserved-option_text Apply = refl
is_unserved-option_text Filter = refl
is_unserved-option_text Count = refl
is_unserved-option_text OrderBy = refl
is_unserved-option_text Skip = refl
is_unserved-option_text Top = refl
is_unserved-option_text Select = refl
is_unserved-option_text Format = refl

without_dollar-option_text : (option : OptionName) → without_dollar (option_text option) ≡ option_text option
without_dollar-option_text Apply = refl
without_dollar-option_text Filter = refl
without_dollar-option_text Count = refl
without_dollar-option_text OrderBy = refl
without_dollar-option_text Skip = refl
without_dollar-option_text Top = refl
without_dollar-option_text Select = refl
without_dollar-option_text Format = refl

begins_with-option_text : (option : OptionName) → begins_with at_sign (option_text option) ≡ false
begins_with-option_text Apply = refl
begins_with-option_text Filter = refl
begins_with-option_text Count = refl
begins_with-option_text OrderBy = refl
begins_with-option_text Skip = refl
begins_with-option_text Top = refl
begins_with-option_text Select = refl
begins_with-option_text Format = refl

-- no letter's case is that of `@`
lowercase-at : (b : ℕ) → (to_ascii_lowercase b == 64) ≡ (b == 64)
lowercase-at b = grind (arith, nat_tests)

begins_with-lowercase : (name : List ℕ) → begins_with at_sign name ≡ begins_with at_sign (map to_ascii_lowercase name)
begins_with-lowercase [] = refl
begins_with-lowercase (b ∷ name) = sym (lowercase-at b)

-- a name of which this is what is compared
option_of_name-is : (name : List ℕ) (option : OptionName) → begins_with at_sign name ≡ false → plain_name name ≡ option_text option → option_of_name name ≡ Ok (Some option)
unfolding option_of_name
option_of_name-is name option other plain = rw (other, plain, is_unserved-option_text option, served_option-option_text option)

pub option_of_name-plain : (name : List ℕ) (option : OptionName) → map to_ascii_lowercase name ≡ option_text option → option_of_name name ≡ Ok (Some option)
unfolding plain_name
option_of_name-plain name option is =
    option_of_name-is name option
    (begins_with-lowercase name ∙ ap (begins_with at_sign) is ∙ begins_with-option_text option)
    (ap without_dollar is ∙ without_dollar-option_text option)

pub option_of_name-dollar : (name : List ℕ) (option : OptionName) → map to_ascii_lowercase name ≡ dollar_sign ∷ option_text option → option_of_name name ≡ Ok (Some option)
unfolding plain_name
option_of_name-dollar name option is =
    option_of_name-is name option (begins_with-lowercase name ∙ ap (begins_with at_sign) is) (ap without_dollar is)

-- where a name means an option, that is what is compared
served_if : (test : Bool) (found : Result (Option OptionName) UrlFault) (option : OptionName) → cond test (Err NotServed) found ≡ Ok (Some option) → found ≡ Ok (Some option)
served_if true found option means = cc
served_if false found option means = means

not_custom : (name : List ℕ) (found : Option OptionName) (option : OptionName) → or_custom name found ≡ Ok (Some option) → found ≡ Some option
not_custom name (Some other) option means = cc
not_custom name None option means = unknown (begins_with dollar_sign name) means
  where
    unknown : (test : Bool) → cond test (Err UnknownOption) (Ok None) ≡ Ok (Some option) → None ≡ Some option
    unknown true is = cc
    unknown false is = cc

find_passes : (test : OptionName → Bool) (options : List OptionName) (option : OptionName) → find test options ≡ Some option → test option ≡ true
find_passes test [] option found = cc
find_passes test (first ∷ options) option found =
    ⊎_elim
    (λ is. let same : first ≡ option = (let e = sym (cond-true (test first) (Some first) (find test options) is) ∙ found in cc) in subst (λ x. test x ≡ true) same is)
    (λ other. find_passes test options option (sym (cond-false (test first) (Some first) (find test options) other) ∙ found))
    (cases_Bool (test first))

plain_of_served : (plain : List ℕ) (option : OptionName) → served_option plain ≡ Some option → plain ≡ option_text option
unfolding served_option
plain_of_served plain option found =
    sym ((bytes_eq-Decides (option_text option) plain).0 (find_passes (λ other. bytes_eq (option_text other) plain) served_options option found))

with_dollar : (name text : List ℕ) → without_dollar name ≡ text → (name ≡ text) ⊎ (name ≡ dollar_sign ∷ text)
with_dollar [] text is = inl is
with_dollar (b ∷ name) text is =
    ⊎_elim
    (λ dollar. inr (let rest : name ≡ text = sym (cond-true (b == dollar_sign) name (b ∷ name) dollar) ∙ is in let first = eqb-true b dollar_sign dollar in cc))
    (λ other. inl (sym (cond-false (b == dollar_sign) name (b ∷ name) other) ∙ is))
    (cases_Bool (b == dollar_sign))

pub name_of_option : (name : List ℕ) (option : OptionName) → option_of_name name ≡ Ok (Some option) → (map to_ascii_lowercase name ≡ option_text option) ⊎ (map to_ascii_lowercase name ≡ dollar_sign ∷ option_text option)
unfolding option_of_name plain_name
name_of_option name option means =
    let found = not_custom name (served_option (plain_name name)) option (served_if (begins_with at_sign name || is_unserved (plain_name name)) _ option means) in
    with_dollar (map to_ascii_lowercase name) (option_text option) (plain_of_served (plain_name name) option found)
