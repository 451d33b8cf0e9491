-- Rules of a command whose arguments take one value each, and the rows that fit them.
use Rattle.std.proofs.Common.{◌≡◌, ◌⊎◌, ◌==◌, ◌++◌, Bool, cond, true, false, refl, sym, ap, subst, arith, List, [], ◌∷◌, length, Some, true≢false}
use Rattle.std.specs.List.{find}
use Rattle.std.specs.Str.{bytes_eq}
use Rattle.std.proofs.lemmas.Bool.{eqb-true, or_parts}
use Rattle.std.proofs.lemmas.Option.{none-some, same_Some}
use Rattle.clap.specs.ValueTests.{accepts}
use Rattle.clap.specs.Facts.{parser_of_value, unwrap_or_range}
use Rattle.clap.specs.Walk.{Row, Rule, Text, action_of, arg_by_id, at_row, has_row, reading_by}
use Rattle.clap.specs.Kinds.{Kinds, check_kinds, or_else, range_kinds}
use Rattle.clap.specs.declared.builder.action.ArgAction.TheVariants.{Set, Help}
use Rattle.clap.specs.declared.error.kind.ErrorKind.{ErrorKind}
use Rattle.clap.specs.declared.error.kind.ErrorKind.TheVariants as kind

-- the row has one value, which the argument accepts and reads
pub record IsOne (a : Rule) (r : Row) : Type 0 where
  pub value : Text
  pub values : r.values ≡ value ∷ []
  pub accepted : accepts a.ignore_case (parser_of_value a.parser) value ≡ true
  pub reading : r.reading ≡ reading_by a

-- a use has one value
pub record TakesOne (a : Rule) : Type 0 where
  pub action : action_of a ≡ Set
  pub range : unwrap_or_range a.range ≡ record { start_inclusive = 1; end_inclusive = 1 }

-- an argument of its own name without a default that takes one value, or asks for help
pub record IsPlainRule (c : List Rule) (a : Rule) : Type 0 where
  pub own : arg_by_id c a.id ≡ Some a
  pub kind : TakesOne a ⊎ (action_of a ≡ Help)
  pub bare : a.defaults ≡ []

abbrev pub ArePlain : List Rule → List Rule → Type 0
ArePlain c [] = Unit {0}
ArePlain c (a ∷ rules) = IsPlainRule c a × ArePlain c rules

abbrev pub Fits : List Rule → Row → Type 0
Fits c r = (a : Rule) × (arg_by_id c r.id ≡ Some a) × IsOne a r

abbrev pub AllFit : List Rule → List Row → Type 0
AllFit c [] = Unit {0}
AllFit c (r ∷ rows) = Fits c r × AllFit c rows

-- ---- tests and kinds

abbrev has_none : Kinds → Bool
has_none [] = true
has_none (k ∷ ks) = false

pub some_kind : {k : ErrorKind} {ks : Kinds} → k ∷ ks ≡ [] → ⊥
some_kind e = true≢false (sym (ap has_none e))

pub both_none : (a b : Kinds) → or_else a b ≡ [] → (a ≡ []) × (b ≡ [])
both_none [] b e = (refl, e)
both_none (k ∷ ks) b e = absurd (some_kind e)

pub passed : (b : Bool) (k : ErrorKind) → cond b [] (k ∷ []) ≡ [] → b ≡ true
passed true k e = refl
passed false k e = absurd (some_kind e)

pub last_check : (a b c : Bool) → check_kinds a b c ≡ [] → c ≡ false
last_check true b c e = absurd (some_kind e)
last_check false true c e = absurd (some_kind e)
last_check false false true e = absurd (some_kind e)
last_check false false false e = refl

-- ---- rows

pub append_fits : (c : List Rule) (xs ys : List Row) → AllFit c xs → AllFit c ys → AllFit c (xs ++ ys)
append_fits c [] ys h k = k
append_fits c (x ∷ xs) ys h k = (h.0, append_fits c xs ys h.1 k)

pub at_none : (id : Text) (change : Row → List Row) (missing rows : List Row) → has_row id rows ≡ false → at_row id change missing rows ≡ rows ++ missing
at_none id change missing [] none = refl
at_none id change missing (r ∷ rows) none =
    let parts = or_parts (bytes_eq r.id id) (has_row id rows) none in
    let first : bytes_eq r.id id ≡ false = parts.0 in
    rw first (ap (λ xs. r ∷ xs) (at_none id change missing rows parts.1))

pub one_value : (values : List Text) → range_kinds 1 1 (length values) ≡ [] → (v : Text) × (values ≡ v ∷ [])
one_value [] e = absurd (some_kind e)
one_value (v ∷ []) e = (v, refl)
one_value (v ∷ w ∷ vs) e = go (length (v ∷ w ∷ vs) == 0) (1 == length (v ∷ w ∷ vs)) refl e
  where
    go : (none one : Bool) → (1 == length (v ∷ w ∷ vs)) ≡ one → cond none (kind.InvalidValue ∷ []) (cond one [] (kind.WrongNumberOfValues ∷ [])) ≡ []
        → (u : Text) × (v ∷ w ∷ vs ≡ u ∷ [])
    go true one is e = absurd (some_kind e)
    go false true is e = let bad = eqb-true 1 (length (v ∷ w ∷ vs)) is in absurd (omega arith)
    go false false is e = absurd (some_kind e)

pub find_plain : (c rules : List Rule) (p : Rule → Bool) (a : Rule) → ArePlain c rules → find p rules ≡ Some a → IsPlainRule c a
find_plain c [] p a h e = absurd (none-some _ e)
find_plain c (x ∷ rules) p a h e = go (p x) (λ f. find_plain c rules p a h.1 f) e
  where
    go : (b : Bool) → (find p rules ≡ Some a → IsPlainRule c a) → cond b (Some x) (find p rules) ≡ Some a → IsPlainRule c a
    go true behind e = subst (IsPlainRule c) (same_Some _ _ e) h.0
    go false behind e = behind e
