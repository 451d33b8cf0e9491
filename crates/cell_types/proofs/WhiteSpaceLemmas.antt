-- Texts that are normal: their white space is single spaces between words.
use Rattle.std.proofs.Common.{◌≡◌, ℕ, zero, suc, ◌+◌, ◌<◌, ◌==◌, ◌&&◌, ◌⊎◌, ◌↔◌, List, [], ◌∷◌, ◌++◌, Bool, true, false, not, cond, length, drop, get_or, refl, sym, ap, ◌∙◌, arith, append-nil, drop-cons, inl, inr}
use Rattle.std.specs.List.{All, AllByRecursion, filter, join_with_byte, slice_split, onto_first}
use Rattle.std.specs.Bool.{IsTrue}
use Rattle.std.proofs.lemmas.Bool.{and_parts, not-true, and_left, and_right, cases_lt, eqb-true, true≢false, false≢true}
use Rattle.std.proofs.lemmas.List.Elements.{All-from_recursion}
use Rattle.std.proofs.lemmas.List.Splits.{length-slice_split, slice_split_at, slice_split_none}
use Rattle.cell_types.specs.WhiteSpace.{is_white, is_word, words, normal_text}

-- each piece of white space is one space, between two words; `after` says that white space, or nothing, stands before
abbrev pub is_spaced : Bool → List ℕ → Bool
is_spaced after [] = not after
is_spaced after (b ∷ bs) = cond (is_white b) (not after && (b == 32) && is_spaced true bs) (is_spaced false bs)

-- the pieces after the first
abbrev others : List (List ℕ) → List (List ℕ)
others [] = []
others (w ∷ ws) = ws

join-break : (ws : List (List ℕ)) → 0 < length ws → join_with_byte 32 ([] ∷ ws) ≡ 32 ∷ join_with_byte 32 ws
join-break [] some = absurd (omega arith)
join-break (w ∷ ws) some = refl

join-onto_first : (b : ℕ) (ws : List (List ℕ)) → join_with_byte 32 (onto_first b ws) ≡ b ∷ join_with_byte 32 ws
join-onto_first b [] = refl
join-onto_first b (w ∷ []) = refl
join-onto_first b (w ∷ v ∷ ws) = refl

others-onto_first : (b : ℕ) (ws : List (List ℕ)) → others (onto_first b ws) ≡ others ws
others-onto_first b [] = refl
others-onto_first b (w ∷ ws) = refl

full-onto_first : (b : ℕ) (ws : List (List ℕ)) → filter is_word (others ws) ≡ others ws → filter is_word (onto_first b ws) ≡ onto_first b ws
full-onto_first b [] e = refl
full-onto_first b (w ∷ ws) e = ap (λ rest. (b ∷ w) ∷ rest) e

-- such a text is its pieces with spaces between them
spaced-join : (after : Bool) (bytes : List ℕ) → is_spaced after bytes ≡ true → join_with_byte 32 (slice_split is_white bytes) ≡ bytes
spaced-join after [] e = refl
spaced-join after (b ∷ bs) e =
    let pieces = slice_split is_white bs in
    elim (is_white b) as (λ v. cond v (not after && (b == 32) && is_spaced true bs) (is_spaced false bs) ≡ true
    → join_with_byte 32 (cond v ([] ∷ pieces) (onto_first b pieces)) ≡ b ∷ bs) [
      | true ↦ λ h.
          let some : 0 < length pieces = omega (arith, length-slice_split is_white bs) in
          let all = and_parts (not after && (b == 32)) (is_spaced true bs) h in
          let space = eqb-true b 32 (and_parts (not after) (b == 32) all.0).1 in
          join-break pieces some ∙ ap (λ rest. 32 ∷ rest) (spaced-join true bs all.1) ∙ ap (λ x. x ∷ bs) (sym space)
      | false ↦ λ h. join-onto_first b pieces ∙ ap (λ rest. b ∷ rest) (spaced-join false bs h)
    ] e

-- whose pieces, but for the first one, are words; and the first one is where nothing stands before it
abbrev AreFull : List ℕ → Type 0
AreFull bytes = (is_spaced false bytes ≡ true → filter is_word (others (slice_split is_white bytes)) ≡ others (slice_split is_white bytes))
    × (is_spaced true bytes ≡ true → filter is_word (slice_split is_white bytes) ≡ slice_split is_white bytes)

spaced-full : (bytes : List ℕ) → AreFull bytes
spaced-full [] = (λ _. refl, λ e. absurd (false≢true e))
spaced-full (b ∷ bs) =
    let pieces = slice_split is_white bs in
    elim (is_white b) as (λ v. (cond v ((b == 32) && is_spaced true bs) (is_spaced false bs) ≡ true
    → filter is_word (others (cond v ([] ∷ pieces) (onto_first b pieces))) ≡ others (cond v ([] ∷ pieces) (onto_first b pieces)))
    × (cond v false (is_spaced false bs) ≡ true
    → filter is_word (cond v ([] ∷ pieces) (onto_first b pieces)) ≡ cond v ([] ∷ pieces) (onto_first b pieces))) [
      | true ↦ (λ h. (spaced-full bs).1 (and_parts (b == 32) (is_spaced true bs) h).1, λ h. absurd (false≢true h))
      | false ↦ (λ h. rw (others-onto_first b pieces) ((spaced-full bs).0 h), λ h. full-onto_first b pieces ((spaced-full bs).0 h))
    ]

-- a text whose white space is single spaces between words is normal
pub normal-spaced : (bytes : List ℕ) → is_spaced true bytes ≡ true → normal_text bytes ≡ bytes
unfolding normal_text words
normal-spaced bytes e = ap (join_with_byte 32) ((spaced-full bytes).1 e) ∙ spaced-join true bytes e

-- no white space
abbrev IsPlain : List ℕ → Type 0
IsPlain = AllByRecursion (λ b. is_white b ≡ false)

abbrev AreWords : List (List ℕ) → Type 0
AreWords = AllByRecursion (λ w. (is_word w ≡ true) × IsPlain w)

plain-onto_first : (b : ℕ) (ws : List (List ℕ)) → is_white b ≡ false → AllByRecursion IsPlain ws → AllByRecursion IsPlain (onto_first b ws)
plain-onto_first b [] e h = ((e, tt), tt)
plain-onto_first b (w ∷ ws) e h = ((e, h.0), h.1)

plain-split : (bytes : List ℕ) → AllByRecursion IsPlain (slice_split is_white bytes)
plain-split [] = (tt, tt)
plain-split (b ∷ bs) =
    let pieces = slice_split is_white bs in
    elim (is_white b) as (λ v. is_white b ≡ v → AllByRecursion IsPlain (cond v ([] ∷ pieces) (onto_first b pieces))) [
      | true ↦ λ _. (tt, plain-split bs)
      | false ↦ λ e. plain-onto_first b pieces e (plain-split bs)
    ] refl

words-filter : (ws : List (List ℕ)) → AllByRecursion IsPlain ws → AreWords (filter is_word ws)
words-filter [] h = tt
words-filter ([] ∷ ws) h = words-filter ws h.1
words-filter ((b ∷ w) ∷ ws) h = ((refl, h.0), words-filter ws h.1)

spaced-plain : (w rest : List ℕ) → IsPlain w → is_spaced false (w ++ rest) ≡ is_spaced false rest
spaced-plain [] rest h = refl
spaced-plain (b ∷ w) rest h = rw (h.0) (spaced-plain w rest h.1)

spaced-word : (after : Bool) (w rest : List ℕ) → is_word w ≡ true → IsPlain w → is_spaced after (w ++ rest) ≡ is_spaced false rest
spaced-word after [] rest some h = absurd (false≢true some)
spaced-word after (b ∷ w) rest some h = rw (h.0) (spaced-plain w rest h.1)

-- words with spaces between them are such a text
spaced-words : (after : Bool) (w : List ℕ) (ws : List (List ℕ)) → AreWords (w ∷ ws) → is_spaced after (join_with_byte 32 (w ∷ ws)) ≡ true
spaced-words after w [] h = ap (is_spaced after) (sym (append-nil w)) ∙ spaced-word after w [] h.0.0 h.0.1
spaced-words after w (v ∷ ws) h = spaced-word after w (32 ∷ join_with_byte 32 (v ∷ ws)) h.0.0 h.0.1 ∙ spaced-words true v ws h.1

spaced-join_of : (ws : List (List ℕ)) (bytes : List ℕ) → AreWords ws → 0 < length bytes → join_with_byte 32 ws ≡ bytes → is_spaced true bytes ≡ true
spaced-join_of [] bytes h some e = absurd (omega (arith, ap length e))
spaced-join_of (w ∷ ws) bytes h some e = ap (is_spaced true) (sym e) ∙ spaced-words true w ws h

-- the white space of a normal text is single spaces between words
pub spaced-normal : (bytes : List ℕ) → 0 < length bytes → normal_text bytes ≡ bytes → is_spaced true bytes ≡ true
unfolding normal_text words
spaced-normal bytes some e = spaced-join_of (words bytes) bytes (words-filter _ (plain-split bytes)) some e

-- a scan that says so
pub normal_iff : (bytes : List ℕ) (b : Bool) → 0 < length bytes → is_spaced true bytes ≡ b → IsTrue b ↔ (normal_text bytes ≡ bytes)
normal_iff bytes b some e = (λ h. normal-spaced bytes (e ∙ h), λ n. sym e ∙ spaced-normal bytes some n)

pub normal_iff-empty : (bytes : List ℕ) (b : Bool) → length bytes ≡ 0 → b ≡ true → IsTrue b ↔ (normal_text bytes ≡ bytes)
unfolding normal_text words
normal_iff-empty [] b e t = (λ _. refl, λ _. t)
normal_iff-empty (x ∷ xs) b e t = absurd (omega arith)

-- white space that does not stand alone, or is no space
pub spaced-stop : (after : Bool) (bytes : List ℕ) (i : ℕ) → i < length bytes → is_white (get_or bytes i 0) ≡ true
    → (after ≡ true) ⊎ ((get_or bytes i 0 == 32) ≡ false) → is_spaced after (drop i bytes) ≡ false
spaced-stop after bytes i inside white (inl e) = rw (drop-cons bytes i 0 inside, white, e) refl
spaced-stop after bytes i inside white (inr e) = rw (drop-cons bytes i 0 inside, white, e) (and_left (not after && false) (is_spaced true (drop (suc i) bytes)) (and_right (not after) false refl))

-- what stands at the front of such a text, after white space
spaced-head : (bytes : List ℕ) → is_spaced true bytes ≡ true → (0 < length bytes) × (is_white (get_or bytes 0 0) ≡ false)
spaced-head [] e = absurd (false≢true e)
spaced-head (b ∷ bs) e =
    elim (is_white b) as (λ v. cond v false (is_spaced false bs) ≡ true → (0 < length (b ∷ bs)) × (v ≡ false)) [
      | true ↦ λ h. absurd (false≢true h)
      | false ↦ λ h. (omega arith, refl)
    ] e

-- its white space, place by place
pub spaced-at : (after : Bool) (bytes : List ℕ) → is_spaced after bytes ≡ true → (k : ℕ) → k < length bytes → is_white (get_or bytes k 0) ≡ true
    → (get_or bytes k 0 ≡ 32) × (after ≡ true → 0 < k) × (k + 1 < length bytes) × (is_white (get_or bytes (k + 1) 0) ≡ false)
spaced-at after [] e k inside white = absurd (omega arith)
spaced-at after (b ∷ bs) e zero inside white =
    let here : (not after && (b == 32) && is_spaced true bs) ≡ true = rw white at e in
    let parts = and_parts (not after && (b == 32)) (is_spaced true bs) here in
    let first = and_parts (not after) (b == 32) parts.0 in
    let next = spaced-head bs parts.1 in
    (eqb-true b 32 first.1, λ t. absurd (true≢false (sym t ∙ not-true after first.0)), omega (arith, next.0), next.1)
spaced-at after (b ∷ bs) e (suc k) inside white =
    let rest = elim (is_white b) as (λ v. cond v (not after && (b == 32) && is_spaced true bs) (is_spaced false bs) ≡ true → (a : Bool) × (is_spaced a bs ≡ true)) [
      | true ↦ λ h. (true, (and_parts (not after && (b == 32)) (is_spaced true bs) h).1)
      | false ↦ λ h. (false, h)
    ] e in
    let there = spaced-at rest.0 bs rest.1 k (omega arith) white in
    let next : suc k + 1 ≡ suc (k + 1) = omega arith in
    (there.0, λ _. omega arith, omega (arith, there.2), rw next there.3)

spaced-normal_text : (bytes : List ℕ) → 0 < length (normal_text bytes) → is_spaced true (normal_text bytes) ≡ true
unfolding normal_text words
spaced-normal_text bytes some = spaced-join_of (words bytes) (normal_text bytes) (words-filter (slice_split is_white bytes) (plain-split bytes)) some refl

pub normal_text-normal_text : (bytes : List ℕ) → normal_text (normal_text bytes) ≡ normal_text bytes
normal_text-normal_text bytes =
    elim (cases_lt 0 (length (normal_text bytes))) [
      | inl some ↦ normal-spaced (normal_text bytes) (spaced-normal_text bytes some)
      | inr none ↦ (normal_iff-empty (normal_text bytes) true (omega arith) refl).0 refl
    ]

pub normal_text-spaces : (bytes : List ℕ) (k : ℕ) → k < length (normal_text bytes) → is_white (get_or (normal_text bytes) k 0) ≡ true
    → (get_or (normal_text bytes) k 0 ≡ 32) × (0 < k) × (k + 1 < length (normal_text bytes)) × (is_white (get_or (normal_text bytes) (k + 1) 0) ≡ false)
normal_text-spaces bytes k inside white =
    let at = spaced-at true (normal_text bytes) (spaced-normal_text bytes (omega arith)) k inside white in
    (at.0, at.1 refl, at.2, at.3)

plain-all : (w : List ℕ) → IsPlain w → All (λ b. is_white b ≡ false) w
plain-all w h = All-from_recursion (λ b. is_white b ≡ false) w h

words-join : (w : List ℕ) (ws : List (List ℕ)) → AreWords (w ∷ ws) → words (join_with_byte 32 (w ∷ ws)) ≡ w ∷ ws
unfolding words
words-join w [] h = rw (slice_split_none is_white w (plain-all w h.0.1), h.0.0) refl
words-join w (v ∷ ws) h =
    rw (slice_split_at is_white w 32 (join_with_byte 32 (v ∷ ws)) (plain-all w h.0.1) refl, h.0.0) (ap (λ rest. w ∷ rest) (words-join v ws h.1))

words-join_of : (ws : List (List ℕ)) → AreWords ws → words (join_with_byte 32 ws) ≡ ws
unfolding words
words-join_of [] h = refl
words-join_of (w ∷ ws) h = words-join w ws h

-- a normal text has the words of the text
pub words-normal_text : (bytes : List ℕ) → words (normal_text bytes) ≡ words bytes
unfolding normal_text words
words-normal_text bytes = words-join_of (words bytes) (words-filter (slice_split is_white bytes) (plain-split bytes))
