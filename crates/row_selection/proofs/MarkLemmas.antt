-- The numbers whose marks are true.
use Rattle.std.proofs.Common.{◌≡◌, ℕ, zero, suc, ◌+◌, ◌<◌, ◌≤◌, Bool, true, false, cond, List, [], ◌∷◌, ◌++◌, ◌*◌, ◌-◌, min, inl, inr, drop, length, length-drop, take, get_or, refl, sym, ap, ◌∙◌, subst, arith}
use Rattle.std.specs.List.{All}
use Rattle.std.proofs.Math.Seq.{take-add}
use Rattle.std.proofs.lemmas.Bool.{cases_lt, true≢false}
use Rattle.std.proofs.lemmas.List.{length-take-le, take_all, take_more}
use Rattle.std.proofs.lemmas.List.Elements.{All-take}
use Rattle.row_selection.specs.Marks.{marked_numbers}
use Rattle.row_selection.specs.Numbers.{numbers_from}
use Rattle.row_selection.proofs.NumberLemmas.{take-from}

-- marks, and others after them
pub marked_append : (start : ℕ) (xs ys : List Bool) → marked_numbers start (xs ++ ys) ≡ marked_numbers start xs ++ marked_numbers (start + length xs) ys
marked_append start [] ys = ap (λ k. marked_numbers k ys) (omega arith)
marked_append start (true ∷ xs) ys =
    let at : suc start + length xs ≡ start + suc (length xs) = omega arith in
    ap (λ ns. start ∷ ns) (marked_append (suc start) xs ys ∙ ap (λ k. marked_numbers (suc start) xs ++ marked_numbers k ys) at)
marked_append start (false ∷ xs) ys =
    let at : suc start + length xs ≡ start + suc (length xs) = omega arith in
    marked_append (suc start) xs ys ∙ ap (λ k. marked_numbers (suc start) xs ++ marked_numbers k ys) at

-- one mark more
marked_one : (start : ℕ) (b : Bool) → marked_numbers start (b ∷ []) ≡ cond b (start ∷ []) []
marked_one start true = refl
marked_one start false = refl

pub marked_next : (start : ℕ) (marks : List Bool) (i : ℕ) → i < length marks
    → marked_numbers start (take (i + 1) marks) ≡ marked_numbers start (take i marks) ++ cond (get_or marks i false) ((start + i) ∷ []) []
marked_next start marks i less =
    ap (marked_numbers start) (take_more marks i false less) ∙ marked_append start (take i marks) (get_or marks i false ∷ [])
    ∙ ap (λ k. marked_numbers start (take i marks) ++ marked_numbers (start + k) (get_or marks i false ∷ [])) (length-take-le i marks (omega arith))
    ∙ ap (λ ns. marked_numbers start (take i marks) ++ ns) (marked_one (start + i) (get_or marks i false))

-- none is true
pub marked_none : (start : ℕ) (marks : List Bool) → ((k : ℕ) → k < length marks → get_or marks k false ≡ false) → marked_numbers start marks ≡ []
marked_none start [] none = refl
marked_none start (true ∷ marks) none = absurd (true≢false (none 0 (omega arith)))
marked_none start (false ∷ marks) none = marked_none (suc start) marks (λ k less. none (suc k) (omega (arith, less)))

-- all are true
marked_few : (start : ℕ) (marks : List Bool) → length (marked_numbers start marks) ≤ length marks
marked_few start [] = omega arith
marked_few start (true ∷ marks) = let few = marked_few (suc start) marks in omega (arith, few)
marked_few start (false ∷ marks) = let few = marked_few (suc start) marks in omega (arith, few)

pub marked_every : (start : ℕ) (marks : List Bool) → length (marked_numbers start marks) ≡ length marks → marked_numbers start marks ≡ numbers_from start (length marks)
marked_every start [] long = refl
marked_every start (true ∷ marks) long = ap (λ ns. start ∷ ns) (marked_every (suc start) marks (omega (arith, long)))
marked_every start (false ∷ marks) long = absurd (omega (arith, long, marked_few (suc start) marks))

-- each is that of a mark
marked_at : (start : ℕ) (marks : List Bool) (k d : ℕ) → k < length (marked_numbers start marks) → get_or (marked_numbers start marks) k d < start + length marks
marked_at start [] k d less = absurd (omega (arith, less))
marked_at start (true ∷ marks) zero d less = omega arith
marked_at start (true ∷ marks) (suc k) d less = let low = marked_at (suc start) marks k d (omega (arith, less)) in omega (arith, low)
marked_at start (false ∷ marks) k d less = let low = marked_at (suc start) marks k d less in omega (arith, low)

pub marked_within : (marks : List Bool) → All (λ n. n < length marks) (marked_numbers 0 marks)
marked_within marks = λ k d less. (let low = marked_at 0 marks k d less in omega (arith, low))

-- ---- how many there are

-- no more than there are
pub take_least : {X : Type 0} (xs : List X) (count most len : ℕ) → count ≡ length xs → len ≡ min count most → take len xs ≡ take most xs
take_least xs count most len is least = elim (cases_lt most count) [
  | inl h ↦ (let same : len ≡ most = omega (arith, least, h) in ap (λ k. take k xs) same)
  | inr h ↦ take_all len xs (omega (arith, least, h, is)) ∙ sym (take_all most xs (omega (arith, h, is)))
]

-- the marks of a word, after those before it
pub marked_word : (marks : List Bool) (w from end : ℕ) (group : List Bool) → from ≡ w * 64 → from ≤ length marks → end ≡ min (length marks) (from + 64) → group ≡ take (end - from) (drop from marks)
    → marked_numbers 0 (take ((w + 1) * 64) marks) ≡ marked_numbers 0 (take (w * 64) marks) ++ marked_numbers from group
marked_word marks w from end group at within ends is =
    let n : (w + 1) * 64 ≡ from + 64 = omega (arith, at) in
    let size : end - from ≡ min (length (drop from marks)) 64 = omega (arith, ends, within, length-drop from marks) in
    let front : 0 + length (take from marks) ≡ from = omega (arith, length-take-le from marks within) in
    ap (λ k. marked_numbers 0 (take k marks)) n
    ∙ ap (marked_numbers 0) (take-add from 64 marks)
    ∙ marked_append 0 (take from marks) (take 64 (drop from marks))
    ∙ ap (λ k. marked_numbers 0 (take from marks) ++ marked_numbers k (take 64 (drop from marks))) front
    ∙ ap (λ g. marked_numbers 0 (take from marks) ++ marked_numbers from g) (sym (take_least (drop from marks) (length (drop from marks)) 64 (end - from) refl size) ∙ sym is)
    ∙ ap (λ k. marked_numbers 0 (take k marks) ++ marked_numbers from group) at

-- ---- the rows that are selected

pub every_selected : (marks : List Bool) (count most len : ℕ) → count ≡ length (marked_numbers 0 marks) → len ≡ min count most → count ≡ length marks
    → numbers_from 0 len ≡ take most (marked_numbers 0 marks)
every_selected marks count most len is least all =
    let ns = marked_numbers 0 marks in
    sym (take-from 0 (length marks) len (omega (arith, least, all)))
    ∙ ap (take len) (sym (marked_every 0 marks (sym is ∙ all)))
    ∙ take_least ns count most len is least

pub none_selected : (marks : List Bool) (count most len : ℕ) → count ≡ length (marked_numbers 0 marks) → len ≡ min count most → len ≡ 0 → [] ≡ take most (marked_numbers 0 marks)
none_selected marks count most len is least none =
    let ns = marked_numbers 0 marks in
    ap (λ k. take k ns) (sym none) ∙ take_least ns count most len is least

pub selected_within : (marks : List Bool) (most : ℕ) (rows : List ℕ) → rows ≡ take most (marked_numbers 0 marks) → All (λ n. n < length marks) rows
selected_within marks most rows is = subst (All (λ n. n < length marks)) (sym is) (All-take (λ n. n < length marks) most (marked_numbers 0 marks) (marked_within marks))
