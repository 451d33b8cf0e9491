-- The last places of hashes, in parts.
use Rattle.std.proofs.Common.{◌≡◌, ℕ, zero, suc, ◌+◌, ◌<◌, ◌≤◌, Bool, true, false, cond, nat_eq, List, [], ◌∷◌, ◌++◌, length, slice_set, Option, Some, inl, inr, refl, sym, ap, ◌∙◌, arith}
use Rattle.std.specs.Prelude.{◌/◌, ◌^◌, slice_index_or}
use Rattle.std.specs.HashMap.{HashMap}
use Rattle.std.specs.Map.{lookup}
use Rattle.std.specs.Option.{option_or}
use Rattle.std.proofs.lemmas.Bool.{cases_order}
use Rattle.insertion_map.specs.LastPlaces.{entries_at, first_room}

or_put : (is : Bool) (place : ℕ) (o p : Option ℕ) → option_or (cond is (Some place) o) p ≡ cond is (Some place) (option_or o p)
or_put true place o p = refl
or_put false place o p = refl

differ : (hash h : ℕ) → (h / 2 ^ 24 ≡ hash / 2 ^ 24 → ⊥) → nat_eq hash h ≡ false
differ hash h other = elim (cases_order h hash) [
  | inl same ↦ absurd (other (ap (λ n. n / 2 ^ 24) same))
  | inr (inl less) ↦ grind (arith, less)
  | inr (inr more) ↦ grind (arith, more)
]

module _ {S : Type 0} where
  -- an empty part more
  pub empty-more : (parts : List (HashMap ℕ ℕ S)) (more : HashMap ℕ ℕ S) → more.entries ≡ [] → (at : ℕ) → entries_at (parts ++ more ∷ []) at ≡ entries_at parts at
  empty-more [] more e zero = e
  empty-more [] more e (suc at) = refl
  empty-more (part ∷ parts) more e zero = refl
  empty-more (part ∷ parts) more e (suc at) = empty-more parts more e at

  -- a part that changed, and the others
  set-here : (parts : List (HashMap ℕ ℕ S)) (at : ℕ) (new : HashMap ℕ ℕ S) → at < length parts → entries_at (slice_set parts at new) at ≡ new.entries
  set-here [] at new within = absurd (omega (arith, within))
  set-here (part ∷ parts) zero new within = refl
  set-here (part ∷ parts) (suc at) new within = set-here parts at new (omega (arith, within))

  set-there : (parts : List (HashMap ℕ ℕ S)) (at other : ℕ) (new : HashMap ℕ ℕ S) → (other ≡ at → ⊥) → entries_at (slice_set parts at new) other ≡ entries_at parts other
  set-there [] at other new differ = refl
  set-there (part ∷ parts) zero zero new differ = absurd (differ refl)
  set-there (part ∷ parts) zero (suc other) new differ = refl
  set-there (part ∷ parts) (suc at) zero new differ = refl
  set-there (part ∷ parts) (suc at) (suc other) new differ = set-there parts at other new (λ e. differ (ap suc e))

  same-there : (parts : List (HashMap ℕ ℕ S)) (part : ℕ) (new : HashMap ℕ ℕ S) → part < length parts → new.entries ≡ entries_at parts part → (at : ℕ)
      → entries_at (slice_set parts part new) at ≡ entries_at parts at
  same-there parts part new within same at = elim (cases_order at part) [
    | inl e ↦ ap (entries_at (slice_set parts part new)) e ∙ set-here parts part new within ∙ same ∙ sym (ap (entries_at parts) e)
    | inr (inl less) ↦ set-there parts part at new (λ e. omega (arith, e, less))
    | inr (inr more) ↦ set-there parts part at new (λ e. omega (arith, e, more))
  ]

  pub entries-read : (parts : List (HashMap ℕ ℕ S)) (at : ℕ) (part : HashMap ℕ ℕ S) → at < length parts → part ≡ slice_index_or parts at part → entries_at parts at ≡ part.entries
  entries-read [] at part within is = absurd (omega (arith, within))
  entries-read (first ∷ parts) zero part within is = ap (λ p. p.entries) (sym is)
  entries-read (first ∷ parts) (suc at) part within is = entries-read parts at part (omega (arith, within)) is

  -- the last place of a hash, by the parts and the first hashes
  abbrev pub last_in : List (HashMap ℕ ℕ S) → List (ℕ × ℕ) → ℕ → Option ℕ
  last_in parts first hash = option_or (lookup (nat_eq hash) (entries_at parts (hash / 2 ^ 24))) (lookup (nat_eq hash) first)

  -- the first hashes change, when there are no parts
  pub put-first : (parts : List (HashMap ℕ ℕ S)) (old new : List (ℕ × ℕ)) (hash place : ℕ) → parts ≡ [] → ((h : ℕ) → lookup (nat_eq h) new ≡ cond (nat_eq hash h) (Some place) (lookup (nat_eq h) old))
      → (h : ℕ) → last_in parts new h ≡ cond (nat_eq hash h) (Some place) (last_in parts old h)
  put-first parts old new hash place none put h = rw none (put h)

  -- a part that has the same entries
  pub put-none : (parts : List (HashMap ℕ ℕ S)) (first : List (ℕ × ℕ)) (part : ℕ) (new : HashMap ℕ ℕ S) → part < length parts → new.entries ≡ entries_at parts part → (h : ℕ)
      → last_in (slice_set parts part new) first h ≡ last_in parts first h
  put-none parts first part new within same h = ap (λ es. option_or (lookup (nat_eq h) es) (lookup (nat_eq h) first)) (same-there parts part new within same (h / 2 ^ 24))

  -- a part changes
  module _ (parts : List (HashMap ℕ ℕ S)) (first : List (ℕ × ℕ)) (part hash place : ℕ) (new : HashMap ℕ ℕ S) (is : part ≡ hash / 2 ^ 24) (within : part < length parts)
      (put : (h : ℕ) → lookup (nat_eq h) new.entries ≡ cond (nat_eq hash h) (Some place) (lookup (nat_eq h) (entries_at parts part))) where
    elsewhere : (h : ℕ) → (h / 2 ^ 24 ≡ part → ⊥) → last_in (slice_set parts part new) first h ≡ cond (nat_eq hash h) (Some place) (last_in parts first h)
    elsewhere h other =
        let no : nat_eq hash h ≡ false = differ hash h (λ e. other (e ∙ sym is)) in
        ap (λ es. option_or (lookup (nat_eq h) es) (lookup (nat_eq h) first)) (set-there parts part (h / 2 ^ 24) new other)
        ∙ sym (ap (λ b. cond b (Some place) (last_in parts first h)) no)

    here : (h : ℕ) → h / 2 ^ 24 ≡ part → last_in (slice_set parts part new) first h ≡ cond (nat_eq hash h) (Some place) (last_in parts first h)
    here h e =
        ap (λ at. option_or (lookup (nat_eq h) (entries_at (slice_set parts part new) at)) (lookup (nat_eq h) first)) e
        ∙ ap (λ es. option_or (lookup (nat_eq h) es) (lookup (nat_eq h) first)) (set-here parts part new within)
        ∙ ap (λ o. option_or o (lookup (nat_eq h) first)) (put h)
        ∙ or_put (nat_eq hash h) place (lookup (nat_eq h) (entries_at parts part)) (lookup (nat_eq h) first)
        ∙ ap (λ at. cond (nat_eq hash h) (Some place) (option_or (lookup (nat_eq h) (entries_at parts at)) (lookup (nat_eq h) first))) (sym e)

    pub put-part : (h : ℕ) → last_in (slice_set parts part new) first h ≡ cond (nat_eq hash h) (Some place) (last_in parts first h)
    put-part h = elim (cases_order (h / 2 ^ 24) part) [
      | inl same ↦ here h same
      | inr (inl less) ↦ elsewhere h (λ e. omega (arith, e, less))
      | inr (inr more) ↦ elsewhere h (λ e. omega (arith, e, more))
    ]

-- ---- the room of the first map

module _ {X : Type 0} where
  pub room-some : (parts : List X) (room : ℕ) → 0 < first_room parts room → 0 < room
  room-some [] room some = some
  room-some (part ∷ parts) room some = absurd (omega (arith, some))

  pub room-less : (parts : List X) (old new : ℕ) → old ≤ new + 1 → first_room parts old ≤ first_room parts new + 1
  room-less [] old new less = less
  room-less (part ∷ parts) old new less = omega arith

  pub room-none : (parts : List X) (room : ℕ) → (parts ≡ [] → room ≡ 0) → first_room parts room ≡ 0
  room-none [] room full = full refl
  room-none (part ∷ parts) room full = refl
