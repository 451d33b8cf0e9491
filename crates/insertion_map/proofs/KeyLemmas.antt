-- Keys and the places of their hashes.
use Rattle.std.proofs.Common.{◌≡◌, ℕ, zero, suc, ◌+◌, ◌<◌, ◌≤◌, inl, inr, Bool, true, false, nat_lt, List, [], ◌∷◌, ◌++◌, length, map, get_or, Option, Some, None, position, refl, sym, ap, subst, ◌∙◌, arith}
use Rattle.std.specs.Prelude.{is_some, nat_le}
use Rattle.std.specs.Cmp.{IsEquivalence}
use Rattle.std.specs.List.{list_any, position_or_len, slice_get}
use Rattle.std.proofs.lemmas.Bool.{cases_Bool, false_from_ne_true, false≢true}
use Rattle.std.proofs.lemmas.Bool.Decides.{nat_tests}
use Rattle.std.proofs.lemmas.List.{map-append}
use Rattle.std.proofs.lemmas.List.Sums.{position_or_len_is}
use Rattle.std.proofs.lemmas.Map.Keys.{any_passes_from_place, apart_from_distinct, IsDistinct-from_apart, IsDistinct-push}
use Rattle.std.proofs.lemmas.Option.{none-some, same_Some, slice_get-get_or, slice_get_within, get_or_from_slice_get}
use Rattle.insertion_map.specs.Hashes.{less_of, ArePlaces, IsFoundOf, PlacesOf}
use Rattle.insertion_map.specs.Places.{ArePlaced}

-- ---- the first place in a list
position-here : {X : Type 0} (p : X → Bool) (xs : List X) (i : ℕ) (x : X) → slice_get xs i ≡ Some x → p x ≡ true
    → ((k : ℕ) (y : X) → k < i → slice_get xs k ≡ Some y → p y ≡ false) → position p xs ≡ Some i
position-here p xs i x e does lacks =
    let within : i < length xs = slice_get_within xs i x e in
    let at : position_or_len p xs ≡ i = position_or_len_is p xs i x (omega arith)
    (λ k less. lacks k (get_or xs k x) less (slice_get-get_or xs k x (omega arith))) (λ _. ap p (get_or_from_slice_get xs i x x e) ∙ does) in
    let inside : nat_lt i (length xs) ≡ true = grind (arith, nat_tests) in
    rw (at, inside) refl

position-nowhere : {X : Type 0} (p : X → Bool) (xs : List X) → ((k : ℕ) (x : X) → slice_get xs k ≡ Some x → p x ≡ false) → position p xs ≡ None
position-nowhere p [] lacks = refl
position-nowhere p (x ∷ xs) lacks =
    let all = x ∷ xs in
    let at : position_or_len p all ≡ length all =
    position_or_len_is p all (length all) x (omega arith) (λ k less. lacks k (get_or all k x) (slice_get-get_or all k x less)) (λ h. absurd (omega arith)) in
    let outside : nat_lt (length all) (length all) ≡ false = grind (arith, nat_tests) in
    rw (at, outside) refl

any-nowhere : {X : Type 0} (p : X → Bool) (xs : List X) → ((k : ℕ) (x : X) → slice_get xs k ≡ Some x → p x ≡ false) → list_any p xs ≡ false
any-nowhere p [] lacks = refl
any-nowhere p (x ∷ xs) lacks = rw (lacks 0 x refl, any-nowhere p xs (λ k y. lacks (suc k) y)) refl

-- ---- the hash at a place
pub hash-at : {K : Type 0} (hash : K → ℕ) (keys : List K) (p : ℕ) (k : K) → slice_get keys p ≡ Some k → slice_get (map hash keys) p ≡ Some (hash k)
hash-at hash [] p k e = absurd (none-some k e)
hash-at hash (key ∷ keys) zero k e = ap (λ x. Some (hash x)) (same_Some key k e)
hash-at hash (key ∷ keys) (suc p) k e = hash-at hash keys p k e

pub key-at : {K : Type 0} (hash : K → ℕ) (keys : List K) (p h : ℕ) → slice_get (map hash keys) p ≡ Some h → p < length keys
key-at hash [] p h e = absurd (none-some h e)
key-at hash (key ∷ keys) zero h e = omega arith
key-at hash (key ∷ keys) (suc p) h e = let less = key-at hash keys p h e in omega arith

-- ---- keys
module _ {K : Type 0} {eq : K → K → Bool} (laws : IsEquivalence eq) (hash : K → ℕ) (alike : (x y : K) → eq x y ≡ true → hash x ≡ hash y) (keys : List K) (places : PlacesOf)
    (placed : ArePlaced eq hash keys places) (key : K) where
  -- the test of a place whether its key is equal to one
  abbrev pub TellsKey : ℕ → Bool → Type 0
  TellsKey p is = is ≡ eq key (get_or keys p key)

  -- no key is equal to those at two places
  one-place : (x y : K) (i j : ℕ) → slice_get keys i ≡ Some x → slice_get keys j ≡ Some y → eq key x ≡ true → eq key y ≡ true → i < j → ⊥
  one-place x y i j at-i at-j is-x is-y less =
      let apart : eq (get_or keys i x) (get_or keys j x) ≡ false = apart_from_distinct eq keys i j x placed.distinct less (slice_get_within keys j y at-j) in
      let differ : eq x y ≡ false =
      ap (λ a. eq a y) (sym (get_or_from_slice_get keys i x x at-i)) ∙ ap (λ b. eq (get_or keys i x) b) (sym (get_or_from_slice_get keys j y x at-j)) ∙ apart in
      let same : eq x y ≡ true = sym (laws.congr key x y is-x) ∙ is-y in
      grind (arith, differ, same)

  there : (p : ℕ) → slice_get (map hash keys) p ≡ Some (hash key) → TellsKey p true → (k : K) × (slice_get keys p ≡ Some k) × (eq key k ≡ true)
  there p at tells =
      let e = slice_get-get_or keys p key (key-at hash keys p (hash key) at) in
      (get_or keys p key, e, sym tells)

  lacks : IsFoundOf TellsKey (map hash keys) (hash key) None → (p : ℕ) (k : K) → slice_get keys p ≡ Some k → eq key k ≡ false
  lacks found p k at = false_from_ne_true (eq key k)
      (λ is. false≢true (found.none refl p (hash-at hash keys p k at ∙ ap (λ h. Some h) (sym (alike key k is))) ∙ ap (eq key) (get_or_from_slice_get keys p k key at) ∙ is))

  its-hash : (h : ℕ) (found : Option ℕ) → h ≡ hash key → IsFoundOf TellsKey (map hash keys) h found → IsFoundOf TellsKey (map hash keys) (hash key) found
  its-hash h found e is = subst (λ h. IsFoundOf TellsKey (map hash keys) h found) e is

  at-place : (found : Option ℕ) → IsFoundOf TellsKey (map hash keys) (hash key) found → found ≡ position (eq key) keys
  at-place (Some p) found =
      let k = there p (found.some p refl).0 (found.some p refl).1 in
      sym (position-here (eq key) keys p k.0 k.1 k.2 (λ q j less at. false_from_ne_true (eq key j) (λ is. one-place j k.0 q p at k.1 is k.2 less)))
  at-place None found = sym (position-nowhere (eq key) keys (lacks found))

  any-at : (found : Option ℕ) → IsFoundOf TellsKey (map hash keys) (hash key) found → is_some found ≡ list_any (eq key) keys
  any-at (Some p) found = let k = there p (found.some p refl).0 (found.some p refl).1 in sym (any_passes_from_place (eq key) keys p k.0 k.1 k.2)
  any-at None found = sym (any-nowhere (eq key) keys (lacks found))

  pub place-is : (h : ℕ) (found : Option ℕ) → h ≡ hash key → IsFoundOf TellsKey (map hash keys) h found → found ≡ position (eq key) keys
  place-is h found e is = at-place found (its-hash h found e is)

  pub any-is : (h : ℕ) (found : Option ℕ) → h ≡ hash key → IsFoundOf TellsKey (map hash keys) h found → is_some found ≡ list_any (eq key) keys
  any-is h found e is = any-at found (its-hash h found e is)

  pub one-key-more : (new : PlacesOf) → list_any (eq key) keys ≡ false → ArePlaces new (map hash keys ++ hash key ∷ []) → ArePlaced eq hash (keys ++ key ∷ []) new
  one-key-more new none are = record {
    distinct = IsDistinct-push laws keys key placed.distinct none;
    places_are = subst (ArePlaces new) (sym (map-append hash keys (key ∷ []))) are;
  }

pub no-keys : {K : Type 0} (eq : K → K → Bool) (hash : K → ℕ) (keys : List K) (places : PlacesOf) → keys ≡ [] → ArePlaces places [] → ArePlaced eq hash keys places
no-keys eq hash keys places none are = subst (λ ks. ArePlaced eq hash ks places) (sym none)
    (record { distinct = IsDistinct-from_apart eq [] (λ i j d less within. absurd (omega arith)); places_are = are })

-- the less of two numbers, of which each became at most one less
pub least-less : (a b c d : ℕ) → a ≤ c + 1 → b ≤ d + 1 → less_of a b ≤ less_of c d + 1
least-less a b c d less fewer = elim (cases_Bool (nat_le a b)) [
  | inl ab ↦ elim (cases_Bool (nat_le c d)) [ inl cd ↦ rw (ab, cd) less | inr dc ↦ rw (ab, dc) (grind (arith, nat_tests, ab, fewer)) ]
  | inr ba ↦ elim (cases_Bool (nat_le c d)) [ inl cd ↦ rw (ba, cd) (grind (arith, nat_tests, ba, less)) | inr dc ↦ rw (ba, dc) fewer ]
]
