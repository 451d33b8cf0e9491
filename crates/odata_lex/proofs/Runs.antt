-- The letters, digits and `_` at the front of a text.
use Rattle.std.proofs.Common.{◌≡◌, ℕ, suc, ◌≤◌, ◌<◌, Bool, true, false, not, List, [], ◌∷◌, ◌++◌, length, take, drop, refl, ap, ◌∙◌, arith, IsTrue, ◌≢◌, ◌==◌}
use Rattle.std.proofs.lemmas.Bool.{false_from_ne_true, not-true}
use Rattle.std.proofs.lemmas.Bool.Decides.{nat_tests, Decides-eqb}
use Rattle.std.proofs.lemmas.List.Sums.{prefix_len-le-length}
use Rattle.std.specs.Char.{digit_value}
use Rattle.std.specs.List.{AllByRecursion}
use Rattle.std.specs.Str.Parse.{AllDigits}
use Rattle.odata_lex.specs.Token.{begins_word, is_word_byte, IsWord, word, EndsBefore}
use Rattle.odata_lex.specs.First.{word_len, ends_word}
use Rattle.odata_lex.specs.declared.token.TokenKind.TheVariants.{Word}

abbrev pub AreWordBytes : List ℕ → Type 0
AreWordBytes bytes = AllByRecursion (λ c. IsTrue (is_word_byte c)) bytes

pub word_byte_of_begin : (b : ℕ) → begins_word b ≡ true → is_word_byte b ≡ true
word_byte_of_begin b begins = grind (arith, nat_tests)

pub word_byte_of_digit : (b : ℕ) → digit_value b < 10 → is_word_byte b ≡ true
word_byte_of_digit b small = grind (arith, nat_tests)

pub word_bytes_of_digits : (bytes : List ℕ) → AllDigits 10 bytes → AreWordBytes bytes
word_bytes_of_digits [] digits = tt
word_bytes_of_digits (b ∷ bytes) (first, others) = (word_byte_of_digit b first, word_bytes_of_digits bytes others)

pub word_len-yes : (b : ℕ) (text : List ℕ) → is_word_byte b ≡ true → word_len (b ∷ text) ≡ suc (word_len text)
word_len-yes b text is = rw is (omega arith)

pub word_len-no : (b : ℕ) (text : List ℕ) → is_word_byte b ≡ false → word_len (b ∷ text) ≡ 0
word_len-no b text is = rw is refl

pub not_equal : (b c : ℕ) → b ≢ c → (b == c) ≡ false
not_equal b c other = false_from_ne_true _ (λ is. other ((Decides-eqb b c).0 is))

pub word_len-end : (after : List ℕ) → ends_word after ≡ true → word_len after ≡ 0
word_len-end [] ends = refl
word_len-end (b ∷ after) ends = word_len-no b after (not-true _ ends)

-- a run that nothing lengthens is the whole run
pub word_len-append : (front after : List ℕ) → AreWordBytes front → ends_word after ≡ true → word_len (front ++ after) ≡ length front
word_len-append [] after bytes ends = word_len-end after ends
word_len-append (b ∷ front) after (first, others) ends = word_len-yes b (front ++ after) first ∙ ap suc (word_len-append front after others ends)

-- the run at the front: its bytes, and what is after it
run_at : (b : ℕ) (text : List ℕ) (q : Bool) → is_word_byte b ≡ q → AreWordBytes (take (word_len text) text) → AreWordBytes (take (word_len (b ∷ text)) (b ∷ text))
run_at b text true is rest = rw (word_len-yes b text is) (is, rest)
run_at b text false is rest = rw (word_len-no b text is) tt

pub run_bytes : (text : List ℕ) → AreWordBytes (take (word_len text) text)
run_bytes [] = tt
run_bytes (b ∷ text) = run_at b text _ refl (run_bytes text)

end_at : (b : ℕ) (text : List ℕ) (q : Bool) → is_word_byte b ≡ q → ends_word (drop (word_len text) text) ≡ true → ends_word (drop (word_len (b ∷ text)) (b ∷ text)) ≡ true
end_at b text true is rest = rw (word_len-yes b text is) rest
end_at b text false is rest = rw (word_len-no b text is) (ap not is)

pub run_ends : (text : List ℕ) → ends_word (drop (word_len text) text) ≡ true
run_ends [] = refl
run_ends (b ∷ text) = end_at b text _ refl (run_ends text)

pub run_word : (b : ℕ) (text : List ℕ) → begins_word b ≡ true → IsWord (take (word_len (b ∷ text)) (b ∷ text))
run_word b text begins = rw (word_len-yes b text (word_byte_of_begin b begins)) (word begins (run_bytes text))

pub run_within : (text : List ℕ) → word_len text ≤ length text
run_within text = prefix_len-le-length is_word_byte text

-- the two ways to say that a run may end
pub ends_before : (after : List ℕ) → ends_word after ≡ true → EndsBefore Word after
ends_before [] ends = tt
ends_before (b ∷ after) ends = ends

pub ends_word_before : (after : List ℕ) → EndsBefore Word after → ends_word after ≡ true
ends_word_before [] ends = refl
ends_word_before (b ∷ after) ends = ends

-- a digit begins a run
pub digit_begins : (text : List ℕ) (d : ℕ) (after : List ℕ) → text ≡ d ∷ after → digit_value d < 10 → 0 < word_len text
digit_begins text d after is small = rw (is, word_len-yes d after (word_byte_of_digit d small)) (omega arith)
