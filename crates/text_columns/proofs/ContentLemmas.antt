-- What a field says: pairs of double quotes, byte by byte.
use Rattle.std.proofs.Common.{◌≡◌, ◌≢◌, ℕ, ◌+◌, ◌-◌, ◌<◌, ◌≤◌, Bool, true, false, List, [], ◌∷◌, ◌++◌, length, get_or, take, drop, set, ◌==◌, ◌&&◌, refl, sym, ap, ◌∙◌, subst, arith}
use Rattle.std.proofs.lemmas.Bool.Decides.{nat_tests}
use Rattle.std.proofs.lemmas.List.{append-nil, append_assoc, drop_all, drop_more, length-set, take_more_set}
use Rattle.std.proofs.lemmas.Bool.{or_parts}
use Rattle.std.specs.List.{list_any}
use Rattle.csv_grammar.specs.Bytes.{double_quote}
use Rattle.csv_grammar.specs.Raw.{halved}
use Rattle.text_columns.specs.Buffer.{field_content}

-- ---- pairs of double quotes

-- a byte at which no pair begins stays
pub halved-other : (b : ℕ) (rest : List ℕ) → b ≢ 34 → halved (b ∷ rest) ≡ b ∷ halved rest
halved-other b [] ne = refl
halved-other b (c ∷ rest) ne = grind (arith, nat_tests)

pub halved-apart : (b c : ℕ) (rest : List ℕ) → c ≢ 34 → halved (b ∷ c ∷ rest) ≡ b ∷ halved (c ∷ rest)
halved-apart b c rest ne = grind (arith, nat_tests)

pub step_last : (xs : List ℕ) (a : ℕ) → length xs ≡ a + 1 → halved (drop a xs) ≡ get_or xs a 0 ∷ halved (drop (a + 1) xs)
step_last xs a last =
    let empty : drop (a + 1) xs ≡ [] = drop_all (a + 1) xs (omega (arith, last)) in
    ap halved (drop_more xs a 0 (omega (arith, last)) ∙ ap (λ ys. get_or xs a 0 ∷ ys) empty) ∙ ap (λ ys. get_or xs a 0 ∷ halved ys) (sym empty)

pub step_other : (xs : List ℕ) (a : ℕ) → a < length xs → get_or xs a 0 ≢ 34 → halved (drop a xs) ≡ get_or xs a 0 ∷ halved (drop (a + 1) xs)
step_other xs a lt ne = ap halved (drop_more xs a 0 lt) ∙ halved-other (get_or xs a 0) (drop (a + 1) xs) ne

pub step_apart : (xs : List ℕ) (a : ℕ) → a + 1 < length xs → get_or xs (a + 1) 0 ≢ 34 → halved (drop a xs) ≡ get_or xs a 0 ∷ halved (drop (a + 1) xs)
step_apart xs a lt ne =
    let next = drop_more xs (a + 1) 0 lt in
    ap halved (drop_more xs a 0 (omega arith) ∙ ap (λ ys. get_or xs a 0 ∷ ys) next)
    ∙ halved-apart (get_or xs a 0) (get_or xs (a + 1) 0) (drop (a + 1 + 1) xs) ne
    ∙ ap (λ ys. get_or xs a 0 ∷ halved ys) (sym next)

pub step_pair : (xs : List ℕ) (a : ℕ) → a + 1 < length xs → get_or xs a 0 ≡ 34 → get_or xs (a + 1) 0 ≡ 34 → halved (drop a xs) ≡ get_or xs a 0 ∷ halved (drop (a + 2) xs)
step_pair xs a lt one two =
    let up : a + 1 + 1 ≡ a + 2 = omega arith in
    let next : drop (a + 1) xs ≡ 34 ∷ drop (a + 2) xs =
    drop_more xs (a + 1) 0 lt ∙ ap (λ k. k ∷ drop (a + 1 + 1) xs) two ∙ ap (λ k. 34 ∷ drop k xs) up in
    ap halved (drop_more xs a 0 (omega arith) ∙ ap (λ k. k ∷ drop (a + 1) xs) one ∙ ap (λ ys. 34 ∷ ys) next)
    ∙ ap (λ k. k ∷ halved (drop (a + 2) xs)) (sym one)

-- a text with no double quote stays
pub halved-plain : (bytes : List ℕ) → list_any (λ byte. byte == double_quote) bytes ≡ false → halved bytes ≡ bytes
halved-plain [] none = refl
halved-plain (b ∷ bytes) none =
    let parts = or_parts (b == double_quote) (list_any (λ byte. byte == double_quote) bytes) none in
    halved-other b bytes (λ e. let same : (34 == double_quote) ≡ false = subst (λ k. (k == double_quote) ≡ false) e parts.0 in absurd (cc)) ∙ ap (λ rest. b ∷ rest) (halved-plain bytes parts.1)

-- ---- what a field says

pub content-halved : (bytes : List ℕ) (q any : Bool) → (q && any) ≡ true → halved bytes ≡ field_content q bytes
content-halved bytes true any is = refl
content-halved bytes false any is = absurd (cc)

pub content-plain : (bytes : List ℕ) (q : Bool) → (q && list_any (λ byte. byte == double_quote) bytes) ≡ false → bytes ≡ field_content q bytes
content-plain bytes true is = sym (halved-plain bytes is)
content-plain bytes false is = refl

-- ---- the copy so far

pub record AreHalved (piece old : List ℕ) (at : ℕ) (out : List ℕ) (read end : ℕ) : Type 0 where
  pub order : read ≤ length piece
  pub low : at ≤ end
  pub high : end + (length piece - read) ≤ at + length piece
  pub long : length out ≡ length old
  pub text : take at old ++ halved piece ≡ take end out ++ halved (drop read piece)

pub halves-more : (piece old : List ℕ) (at : ℕ) (out : List ℕ) (read end step : ℕ) → AreHalved piece old at out read end → read < length piece → end < length out → 0 < step → read + step ≤ length piece
    → halved (drop read piece) ≡ get_or piece read 0 ∷ halved (drop (read + step) piece) → AreHalved piece old at (set out end (get_or piece read 0)) (read + step) (end + 1)
halves-more piece old at out read end step so_far lt room some le is = record {
  order = le;
  low = omega (arith, so_far.low);
  high = omega (arith, so_far.high);
  long = length-set out end (get_or piece read 0) ∙ so_far.long;
  text =
      so_far.text
      ∙ ap (λ rest. take end out ++ rest) is
      ∙ sym (append_assoc (take end out) (get_or piece read 0 ∷ []) (halved (drop (read + step) piece)))
      ∙ ap (λ front. front ++ halved (drop (read + step) piece)) (sym (take_more_set out end (get_or piece read 0) room));
}

pub halves-end : (piece old : List ℕ) (at : ℕ) (out : List ℕ) (read end : ℕ) → AreHalved piece old at out read end → length piece ≤ read
    → take end out ≡ take at old ++ halved piece
halves-end piece old at out read end so_far all =
    let empty : drop read piece ≡ [] = drop_all read piece all in
    sym (so_far.text ∙ ap (λ rest. take end out ++ halved rest) empty ∙ append-nil (take end out))
