-- The names of a key and the places of their columns.
use Rattle.std.proofs.Common.{◌≡◌, ◌<◌, ℕ, suc, ◌+◌, ◌-◌, List, [], ◌∷◌, Bool, true, false, ◌&&◌, ◌||◌, not, cond, nat_eq, nat_lt, map, length, take, drop, get_or, Option, None, Some, refl, sym, ◌∙◌, length-drop, arith}
use Rattle.std.proofs.lemmas.Bool.{and_parts, or_parts, not-true, eqb-true}
use Rattle.std.proofs.lemmas.List.{drop_more, length-map}
use Rattle.std.proofs.lemmas.List.Elements.{All-nil, All-cons}
use Rattle.std.proofs.lemmas.Slice.Eq.{bytes_eq-Decides}
use Rattle.std.proofs.Math.Seq.{take-length}
use Rattle.std.specs.Cmp.Lexicographic.{same_text}
use Rattle.std.specs.List.{All, AllByRecursion, IsDistinct, list_any, list_all, position_or_len}
use Rattle.std.specs.Str.{bytes_eq}
use Rattle.serde_json.specs.Data.{Data}
use Rattle.serde_json.specs.View.{view}
use Rattle.serde_json.specs.declared.value.Value.{Value}
use Rattle.cell_types.proofs.ListLaws.{list_any-map}
use Rattle.csvw_meta.specs.Members.{fits}
use Rattle.csvw_meta.specs.Texts.{is_texts}
use Rattle.csvw_meta.specs.Column.{name_of}
use Rattle.csvw_meta.specs.Key.{text_or_empty, key_names, are_different, are_key_names, is_key, column_place, key_of}

-- the texts from the i-th on are different where the i-th is none of those after it, and those are different
pub are_different-from : (vs : List Value) (i : ℕ) (v : Value) (text : List ℕ) (twice : Bool) → i < length vs → get_or vs i v ≡ v → text ≡ text_or_empty (view v)
    → twice ≡ list_any (λ value. bytes_eq text (text_or_empty (view value))) (take (length vs - (i + 1)) (drop (i + 1) vs))
    → are_different (map text_or_empty (map view (drop i vs))) ≡ (not twice && are_different (map text_or_empty (map view (drop (i + 1) vs))))
are_different-from vs i v text twice h e t is =
    let all : length vs - (i + 1) ≡ length (drop (i + 1) vs) = sym (length-drop (i + 1) vs) in
    rw (drop_more vs i v h, e, is, all, take-length (drop (i + 1) vs), t)
    (rw (list_any-map (bytes_eq (text_or_empty (view v))) text_or_empty (map view (drop (i + 1) vs)), list_any-map (λ value. bytes_eq (text_or_empty (view v)) (text_or_empty value)) view (drop (i + 1) vs)) refl)

within_at : (here rest : Bool) (n l : ℕ) → (here || rest) ≡ true → (rest ≡ true → n < l) → cond (not here) (1 + n) 0 < suc l
within_at true rest n l h f = omega arith
within_at false rest n l h f = let k = f h in omega arith

-- the place of a text that is there
place-within : (text : List ℕ) (texts : List (List ℕ)) → list_any (bytes_eq text) texts ≡ true → position_or_len (bytes_eq text) texts < length texts
place-within text [] h = absurd (cc)
place-within text (other ∷ others) h =
    within_at (bytes_eq text other) (list_any (bytes_eq text) others) (position_or_len (bytes_eq text) others) (length others) h (place-within text others)

same_at : (a b x : List ℕ) (ax bx : Bool) → bytes_eq a x ≡ ax → bytes_eq b x ≡ bx → (ra rb : Bool) (m n : ℕ) → (ax || ra) ≡ true → (bx || rb) ≡ true
    → cond (not ax) (1 + m) 0 ≡ cond (not bx) (1 + n) 0 → (ra ≡ true → rb ≡ true → m ≡ n → a ≡ b) → a ≡ b
same_at a b x true true ea eb ra rb m n ha hb e f = same_text a x (sym ea) ∙ sym (same_text b x (sym eb))
same_at a b x true false ea eb ra rb m n ha hb e f = absurd (omega (arith, e))
same_at a b x false true ea eb ra rb m n ha hb e f = absurd (omega (arith, e))
same_at a b x false false ea eb ra rb m n ha hb e f = f ha hb (omega (arith, e))

-- texts that are there and have one place are one
place-same : (a b : List ℕ) (texts : List (List ℕ)) → list_any (bytes_eq a) texts ≡ true → list_any (bytes_eq b) texts ≡ true
    → position_or_len (bytes_eq a) texts ≡ position_or_len (bytes_eq b) texts → a ≡ b
place-same a b [] ha hb e = absurd (cc)
place-same a b (x ∷ xs) ha hb e =
    same_at a b x (bytes_eq a x) (bytes_eq b x) refl refl (list_any (bytes_eq a) xs) (list_any (bytes_eq b) xs) (position_or_len (bytes_eq a) xs) (position_or_len (bytes_eq b) xs) ha hb e (place-same a b xs)

-- the places of some texts among others
abbrev places : List (List ℕ) → List (List ℕ) → List ℕ
places texts names = map (λ name. position_or_len (bytes_eq name) texts) names

abbrev are_there : List (List ℕ) → List (List ℕ) → Bool
are_there texts names = list_all (λ name. list_any (bytes_eq name) texts) names

-- they are within
places-within : (texts names : List (List ℕ)) → are_there texts names ≡ true → All (λ place. place < length texts) (places texts names)
places-within texts [] h = All-nil (λ place. place < length texts)
places-within texts (name ∷ names) h =
    let there = and_parts (list_any (bytes_eq name) texts) (are_there texts names) h in
    All-cons (λ place. place < length texts) (position_or_len (bytes_eq name) texts) (places texts names) (place-within name texts there.0) (places-within texts names there.1)

apart_at : (a b : List ℕ) (texts : List (List ℕ)) (same : Bool) → nat_eq (position_or_len (bytes_eq a) texts) (position_or_len (bytes_eq b) texts) ≡ same
    → list_any (bytes_eq a) texts ≡ true → list_any (bytes_eq b) texts ≡ true → bytes_eq a b ≡ false → same ≡ false
apart_at a b texts false e ha hb apart = refl
apart_at a b texts true e ha hb apart =
    let one = (bytes_eq-Decides a b).1 (place-same a b texts ha hb (eqb-true _ _ e)) in absurd (cc)

places-apart : (texts : List (List ℕ)) (name : List ℕ) (names : List (List ℕ)) → list_any (bytes_eq name) texts ≡ true → are_there texts names ≡ true
    → list_any (bytes_eq name) names ≡ false → AllByRecursion (λ place. nat_eq (position_or_len (bytes_eq name) texts) place ≡ false) (places texts names)
places-apart texts name [] h hs new = tt
places-apart texts name (other ∷ others) h hs new =
    let there = and_parts (list_any (bytes_eq other) texts) (are_there texts others) hs in
    let apart = or_parts (bytes_eq name other) (list_any (bytes_eq name) others) new in
    (apart_at name other texts (nat_eq (position_or_len (bytes_eq name) texts) (position_or_len (bytes_eq other) texts)) refl h there.0 apart.0, places-apart texts name others h there.1 apart.1)

-- they are different where the texts are
places-distinct : (texts names : List (List ℕ)) → are_there texts names ≡ true → are_different names ≡ true → IsDistinct nat_eq (places texts names)
unfolding IsDistinct
places-distinct texts [] h d = tt
places-distinct texts (name ∷ names) h d =
    let there = and_parts (list_any (bytes_eq name) texts) (are_there texts names) h in
    let new = and_parts (not (list_any (bytes_eq name) names)) (are_different names) d in
    (places-apart texts name names there.0 there.1 (not-true (list_any (bytes_eq name) names) new.0), places-distinct texts names there.1 new.1)

-- a key that is accepted is places of columns, each once
pub record IsAcceptedKey (columns : List Data) (key : List ℕ) : Type 0 where
  pub within : All (λ place. place < length columns) key
  pub distinct : IsDistinct nat_eq key

names-accepted : (columns : List Data) (names : List (List ℕ)) → are_key_names columns names ≡ true → IsAcceptedKey columns (map (column_place columns) names)
unfolding are_key_names
names-accepted columns names h =
    let texts = map name_of columns in
    let parts = and_parts (nat_lt 0 (length names) && are_there texts names) (are_different names) h in
    let there = (and_parts (nat_lt 0 (length names)) (are_there texts names) parts.0).1 in
    record {
      within = rw (← length-map columns name_of) (places-within texts names there);
      distinct = places-distinct texts names there parts.1;
    }

pub key-accepted : (columns : List Data) (key : Option Data) → fits (is_key columns) key ≡ true → IsAcceptedKey columns (key_of columns key)
unfolding IsDistinct
key-accepted columns None h = record { within = All-nil (λ place. place < length columns); distinct = tt }
key-accepted columns (Some d) h = names-accepted columns (key_names d) (and_parts (is_texts d) (are_key_names columns (key_names d)) h).1
