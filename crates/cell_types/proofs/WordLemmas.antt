-- The words of a text, from its front.
use Rattle.std.proofs.Common.{◌≡◌, ℕ, zero, suc, ◌+◌, ◌<◌, ◌≤◌, List, [], ◌∷◌, true, false, not, cond, length, take, drop, get_or, refl, sym, ap, ◌∙◌, arith, add-one, add-zero, drop-cons, take_all, inl, inr}
use Rattle.std.specs.List.{All, join_with_byte, prefix_len, position_or_len}
use Rattle.std.specs.Str.{IsUtf8, IsCharBoundary}
use Rattle.std.proofs.lemmas.Bool.{cases_lt, true≢false}
use Rattle.std.proofs.lemmas.Bool.Decides.{nat_tests}
use Rattle.std.proofs.lemmas.List.{length-take-le, length-drop, get_or-drop}
use Rattle.std.proofs.Math.ListN.{drop_of_length-le}
use Rattle.std.proofs.lemmas.List.Splits.{slice_split-cons_yes, slice_split_none, slice_split_first}
use Rattle.std.proofs.lemmas.List.Sums.{prefix_len_passes, prefix_len_stops, prefix_len-le-length, passes_at_first, fails_before_first}
use Rattle.std.proofs.lemmas.Str.{IsCharBoundary-start, IsCharBoundary-after_ascii}
use Rattle.cell_types.specs.WhiteSpace.{is_white, is_word, words, normal_text}

-- white space is ASCII
pub white-ascii : (b : ℕ) → is_white b ≡ true → b < 128
white-ascii b e = grind (arith, nat_tests)

-- a text may be cut after the white space at its front
pub boundary-white : (bytes : List ℕ) → IsUtf8 bytes → (n : ℕ) → n ≡ prefix_len is_white bytes → IsCharBoundary bytes n
boundary-white bytes text zero e = IsCharBoundary-start bytes text
boundary-white bytes text (suc k) e =
    let below : k < prefix_len is_white bytes = omega arith in
    let inside : k < length bytes = omega (arith, prefix_len-le-length is_white bytes) in
    rw (← add-one) (IsCharBoundary-after_ascii bytes k text inside (white-ascii _ (prefix_len_passes is_white bytes k 0 below)))

-- and before the first white space
pub boundary-word : (bytes : List ℕ) → IsCharBoundary bytes (position_or_len is_white bytes)
boundary-word bytes =
    let within : position_or_len is_white bytes ≤ length bytes = prefix_len-le-length (λ b. not (is_white b)) bytes in
    (within, λ inside high. absurd (omega (arith, white-ascii (get_or bytes (position_or_len is_white bytes) 0) (passes_at_first is_white bytes 0 inside))))

-- white space at the front parts no words
words-white : (b : ℕ) (bs : List ℕ) → is_white b ≡ true → words (b ∷ bs) ≡ words bs
unfolding words
words-white b bs e = rw (slice_split-cons_yes is_white b bs e) refl

drop-more : (b : ℕ) (bs : List ℕ) (n : ℕ) → drop n bs ≡ drop (1 + n) (b ∷ bs)
drop-more b bs n = let e : 1 + n ≡ suc n = omega arith in rw e refl

pub words-drop : (bytes : List ℕ) → words bytes ≡ words (drop (prefix_len is_white bytes) bytes)
words-drop [] = refl
words-drop (b ∷ bs) =
    elim (is_white b) as (λ v. is_white b ≡ v → words (b ∷ bs) ≡ words (drop (cond v (1 + prefix_len is_white bs) 0) (b ∷ bs))) [
      | true ↦ λ e. words-white b bs e ∙ words-drop bs ∙ ap words (drop-more b bs (prefix_len is_white bs))
      | false ↦ λ _. refl
    ] refl

is_word-some : (word : List ℕ) → 0 < length word → is_word word ≡ true
is_word-some [] some = absurd (omega arith)
is_word-some (b ∷ bs) some = refl

-- a word with white space after it
words-split : (bytes : List ℕ) → position_or_len is_white bytes < length bytes → 0 < position_or_len is_white bytes
    → words bytes ≡ take (position_or_len is_white bytes) bytes ∷ words (drop (position_or_len is_white bytes) bytes)
unfolding words
words-split bytes inside some =
    let m = position_or_len is_white bytes in
    let word : is_word (take m bytes) ≡ true = is_word-some (take m bytes) (omega (arith, length-take-le m bytes (omega arith))) in
    let rest : words (drop m bytes) ≡ words (drop (m + 1) bytes) =
    rw (drop-cons bytes m 0 inside, add-one) (words-white (get_or bytes m 0) (drop (suc m) bytes) (passes_at_first is_white bytes 0 inside)) in
    rw (slice_split_first is_white bytes 0 inside, word, rest) refl

-- a word with nothing after it
words-whole : (bytes : List ℕ) → 0 < length bytes → All (λ b. is_white b ≡ false) bytes → length bytes ≤ position_or_len is_white bytes
    → words bytes ≡ take (position_or_len is_white bytes) bytes ∷ words (drop (position_or_len is_white bytes) bytes)
unfolding words
words-whole bytes some plain all =
    let word : is_word bytes ≡ true = is_word-some bytes some in
    let front : take (position_or_len is_white bytes) bytes ≡ bytes = take_all (position_or_len is_white bytes) bytes all in
    let back : drop (position_or_len is_white bytes) bytes ≡ [] = drop_of_length-le bytes all in
    rw (front, back, slice_split_none is_white bytes plain, word) refl

word_len-some : (bytes : List ℕ) → 0 < length bytes → is_white (get_or bytes 0 0) ≡ false → 0 < position_or_len is_white bytes
word_len-some bytes some plain =
    let no_white : position_or_len is_white bytes ≡ 0 → ⊥ =
    λ e. true≢false (sym (passes_at_first is_white bytes 0 (omega arith)) ∙ ap (λ k. is_white (get_or bytes k 0)) e ∙ plain) in
    omega arith

-- a text that begins with a word has that word, and those of what follows its first white space
pub words-first : (bytes : List ℕ) → 0 < length bytes → is_white (get_or bytes 0 0) ≡ false
    → words bytes ≡ take (position_or_len is_white bytes) bytes ∷ words (drop (position_or_len is_white bytes) bytes)
words-first bytes some plain =
    elim (cases_lt (position_or_len is_white bytes) (length bytes)) [
      | inl inside ↦ words-split bytes inside (word_len-some bytes some plain)
      | inr all ↦ words-whole bytes some (λ k d h. fails_before_first is_white bytes k d (omega arith)) all
    ]

-- what follows the white space at the front of a text begins with its first word
pub words-parts : (bytes rest : List ℕ) → rest ≡ drop (prefix_len is_white bytes) bytes → 0 < length rest
    → (0 < position_or_len is_white rest)
    × (words bytes ≡ take (position_or_len is_white rest) rest ∷ words (drop (position_or_len is_white rest) rest))
words-parts bytes rest is some =
    let n = prefix_len is_white bytes in
    let inside : n < length bytes = omega (arith, length-drop n bytes, ap length is) in
    let first : get_or rest 0 0 ≡ get_or bytes n 0 = ap (λ r. get_or r 0 0) is ∙ get_or-drop n bytes 0 0 ∙ ap (λ k. get_or bytes k 0) (add-zero n) in
    let plain : is_white (get_or rest 0 0) ≡ false = ap is_white first ∙ prefix_len_stops is_white bytes 0 inside in
    (word_len-some rest some plain, words-drop bytes ∙ ap words (sym is) ∙ words-first rest some plain)

pub words-none : (bytes rest : List ℕ) → rest ≡ drop (prefix_len is_white bytes) bytes → length rest ≡ 0 → words bytes ≡ []
unfolding words
words-none bytes [] is none = words-drop bytes ∙ ap words (sym is)
words-none bytes (b ∷ bs) is none = absurd (omega arith)

-- a text of words so far, and words that follow
abbrev pub text_before : List ℕ → List (List ℕ) → List ℕ
text_before [] ws = join_with_byte 32 ws
text_before (b ∷ bs) ws = join_with_byte 32 ((b ∷ bs) ∷ ws)

-- before any word
pub text_before-empty : (text : List ℕ) → length text ≡ 0 → (bytes : List ℕ) → normal_text bytes ≡ text_before text (words bytes)
unfolding normal_text
text_before-empty [] e bytes = refl
text_before-empty (b ∷ bs) e bytes = absurd (omega arith)
