-- A content with each of its double quotes written as two, byte after byte.
use Rattle.std.proofs.Common.{◌≡◌, ◌∙◌, ℕ, ◌+◌, ◌<◌, Bool, true, false, List, [], ◌∷◌, ◌++◌, length, take, get_or, ap, refl, sym, add-one, append_assoc, ◌==◌}
use Rattle.std.proofs.Math.Seq.{take-suc}
use Rattle.std.specs.Prelude.{if◌then◌else◌}
use Rattle.csv_grammar.specs.Bytes.{double_quote}
use Rattle.csv_grammar.specs.Records.{doubled}

pub doubled-append : (xs ys : List ℕ) → doubled (xs ++ ys) ≡ doubled xs ++ doubled ys
doubled-append [] ys = refl
doubled-append (x ∷ xs) ys = on (x == double_quote) (doubled-append xs ys)
  where
    on : (t : Bool) → doubled (xs ++ ys) ≡ doubled xs ++ doubled ys
        → (if t then double_quote ∷ double_quote ∷ doubled (xs ++ ys) else x ∷ doubled (xs ++ ys))
        ≡ (if t then double_quote ∷ double_quote ∷ doubled xs else x ∷ doubled xs) ++ doubled ys
    on true ih = ap (λ (l : List ℕ). double_quote ∷ double_quote ∷ l) ih
    on false ih = ap (λ (l : List ℕ). x ∷ l) ih

pub doubled-more : (items front cell : List ℕ) (i : ℕ) → i < length cell → items ≡ front ++ doubled (take i cell)
    → items ++ doubled (get_or cell i 0 ∷ []) ≡ front ++ doubled (take (i + 1) cell)
doubled-more items front cell i lt e =
    let more : take i cell ++ get_or cell i 0 ∷ [] ≡ take (i + 1) cell = rw add-one (sym (take-suc cell i 0 lt)) in
    ap (λ (l : List ℕ). l ++ doubled (get_or cell i 0 ∷ [])) e
    ∙ (append_assoc front (doubled (take i cell)) (doubled (get_or cell i 0 ∷ []))
    ∙ ap (λ (l : List ℕ). front ++ l) (sym (doubled-append (take i cell) (get_or cell i 0 ∷ [])) ∙ ap doubled more))
