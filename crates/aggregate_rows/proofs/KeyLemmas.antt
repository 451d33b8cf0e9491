-- Keys of groups and the values that they stand for.
use Rattle.std.proofs.Common.{◌≡◌, ℕ, suc, ◌<◌, Bool, true, false, Option, Some, None, List, [], ◌∷◌, ◌++◌, length, map, get_or, inl, inr, refl, sym, ap, ◌∙◌, arith}
use Rattle.std.specs.Prelude.{slice_get, IfSome}
use Rattle.std.specs.Cmp.Lexicographic.{pointwise}
use Rattle.std.specs.Hash.{HashWrites}
use Rattle.std.specs.List.{flat_map, list_any}
use Rattle.std.proofs.lemmas.Bool.{false_from_ne_true, false≢true}
use Rattle.std.proofs.lemmas.List.{get_or_append_left, get_or_push, length-map, length_push}
use Rattle.std.proofs.lemmas.Option.{get_or_from_slice_get, none-some, slice_get-get_or, slice_get_within}
use Rattle.cell_types.specs.Value.{CellValue, value_eq, value_view}
use Rattle.cell_types.specs.declared.value.Value.{Value}
use Rattle.insertion_map.proofs.ListLaws.{pushed-cases}
use Rattle.insertion_map.specs.Hashes.{ArePlaces, IsFoundOf, PlacesOf}
use Rattle.query_meaning.specs.Apply.{same_values}
use Rattle.aggregate_rows.specs.Inside.{hash_of_key, AreHashed}
use Rattle.aggregate_rows.proofs.GatheredLemmas.{AreOneType}
use Rattle.aggregate_rows.proofs.GroupLemmas.{same_is, same_self}

-- ---- keys of any values

-- a test of values one by one is that of what they show
pub pointwise_view : {V : Type 0} (view : V → CellValue) (eq : V → V → Bool) → ((v w : V) → eq v w ≡ value_eq (view v) (view w)) → (a b : List V) → pointwise eq a b ≡ same_values (map view a) (map view b)
pointwise_view view eq is [] [] = refl
pointwise_view view eq is [] (w ∷ b) = refl
pointwise_view view eq is (v ∷ a) [] = refl
pointwise_view view eq is (v ∷ a) (w ∷ b) = rw (is v w, pointwise_view view eq is a b) refl

module _ (input : Value → HashWrites) (same : (v w : Value) → value_view v ≡ value_view w → input v ≡ input w) where
  fed_alike : (vs ws : List Value) → map value_view vs ≡ map value_view ws → flat_map input vs ≡ flat_map input ws
  fed_alike [] [] h = refl
  fed_alike (v ∷ vs) (w ∷ ws) h = rw (same v w (cc), fed_alike vs ws (cc)) refl
  fed_alike vs ws h = absurd (cc)

  -- values that show the same have one hash
  pub hash_alike : (vs ws : List Value) → map value_view vs ≡ map value_view ws → hash_of_key input vs ≡ hash_of_key input ws
  hash_alike vs ws h =
      let long : length vs ≡ length ws = sym (length-map vs value_view) ∙ ap length h ∙ length-map ws value_view in
      rw (long, fed_alike vs ws h) refl

no-key : (key : List CellValue) (keys : List (List CellValue)) → ((p : ℕ) (k : List CellValue) → slice_get keys p ≡ Some k → same_values key k ≡ false) → list_any (same_values key) keys ≡ false
no-key key [] lacks = refl
no-key key (k ∷ keys) lacks = rw (lacks 0 k refl, no-key key keys (λ p j. lacks (suc p) j)) refl

-- what a test tells of the places of a hash
pub found-by : (P Q : ℕ → Bool → Type 0) (hashes : List ℕ) (hash : ℕ) (found : Option ℕ) → IsFoundOf P hashes hash found → ((p : ℕ) (is : Bool) → P p is → Q p is) → IsFoundOf Q hashes hash found
found-by P Q hashes hash found is f = record {
  some = λ p e. ((is.some p e).0, f p true (is.some p e).1);
  none = λ e p at. f p false (is.none e p at);
}

-- ---- keys by the hashes of their values

module _ (equal : AreOneType) (input : Value → HashWrites) (places : PlacesOf) (keys : List (List CellValue)) (hashed : AreHashed input places keys) (key : List Value) where
  -- the test of a place whether its key is that of the values
  abbrev pub TellsKey : ℕ → Bool → Type 0
  TellsKey p is = is ≡ same_values (get_or keys p []) (map value_view key)

  pub key-there : (hash : ℕ) (found : Option ℕ) → IsFoundOf TellsKey hashed.hashes hash found → IfSome found (λ p. (p < length keys) × (get_or keys p [] ≡ map value_view key))
  key-there hash (Some p) is =
      let it = is.some p refl in
      (omega (arith, slice_get_within hashed.hashes p hash it.0, hashed.as_many), same_is equal [] (get_or keys p []) (map value_view key) (sym it.1))
  key-there hash None is = tt

  pub key-nowhere : (hash : ℕ) (found : Option ℕ) → hash ≡ hash_of_key input key → IsFoundOf TellsKey hashed.hashes hash found → found ≡ None → list_any (same_values (map value_view key)) keys ≡ false
  key-nowhere hash found own is none = no-key (map value_view key) keys (λ p k at. false_from_ne_true (same_values (map value_view key) k) (λ same.
      let here : get_or keys p [] ≡ map value_view key = get_or_from_slice_get keys p k [] at ∙ sym (same_is equal [] (map value_view key) k same) in
      let h = get_or hashed.hashes p 0 in
      let there : slice_get hashed.hashes p ≡ Some h = slice_get-get_or hashed.hashes p 0 (omega (arith, slice_get_within keys p k at, hashed.as_many)) in
      let its : hash_of_key input key ≡ h = hashed.each p h there key (sym here) in
      false≢true (is.none none p (there ∙ ap (λ x. Some x) (sym its ∙ sym own)) ∙ ap (λ k. same_values k (map value_view key)) here ∙ same_self equal [] (map value_view key))))

-- a key comes after the others
pub hashed-more : (input : Value → HashWrites) (places new : PlacesOf) (keys : List (List CellValue)) (hashed : AreHashed input places keys) (key : List Value) (hash : ℕ)
    → ((v w : Value) → value_view v ≡ value_view w → input v ≡ input w) → hash ≡ hash_of_key input key → ArePlaces new (hashed.hashes ++ hash ∷ []) → AreHashed input new (keys ++ map value_view key ∷ [])
hashed-more input places new keys hashed key hash same own are = record {
  hashes = hashed.hashes ++ hash ∷ [];
  are = are;
  as_many = omega (arith, hashed.as_many, length_push hashed.hashes hash, length_push keys (map value_view key));
  each = λ p h at vs shows. elim (pushed-cases hashed.hashes hash p h at) [
    | inl old ↦ hashed.each p h old vs (shows ∙ get_or_append_left keys (map value_view key ∷ []) [] p (omega (arith, slice_get_within hashed.hashes p h old, hashed.as_many)))
    | inr last ↦ hash_alike input same vs key (shows ∙ get_or_push keys (map value_view key) [] p (omega (arith, last.0, hashed.as_many))) ∙ sym own ∙ sym last.1
  ];
}

-- no key
pub none-hashed : (input : Value → HashWrites) (places : PlacesOf) → ArePlaces places [] → AreHashed input places []
none-hashed input places are = record { hashes = []; are = are; as_many = refl; each = λ p h at. absurd (none-some h at) }
