-- What the columns write, one after another.
use Rattle.std.proofs.Common.{◌≡◌, ◌∙◌, ℕ, zero, suc, ◌+◌, ◌<◌, List, [], ◌∷◌, ◌++◌, length, map, ap, refl, sym, subst, add-one, arith, get_or, slice_get, eqb-true, true, false, ◌==◌, Global, Some}
use Rattle.std.specs.Cow.{cow_slice_items}
use Rattle.std.specs.declared.borrow.CowSlice.{CowSlice}
use Rattle.std.specs.Prelude.{IfOk, OnOk, Result, Ok, Err}
use Rattle.std.proofs.Math.ListN.{set}
use Rattle.file_convert.specs.Rows.{Plan, is_empty_line, AppendsCells, AreTitled, AreWritten, next_column, next_title, nth_cell, title_cells}

pub slice_get-map : {X Y : Type 0} (f : X → Y) (xs : List X) (i : ℕ) (d : X) → i < length xs → slice_get (map f xs) i ≡ Some (f (get_or xs i d))
slice_get-map f [] i d lt = absurd (omega (arith, lt))
slice_get-map f (x ∷ xs) zero d lt = refl
slice_get-map f (x ∷ xs) (suc i) d lt = slice_get-map f xs i d (omega (arith, lt))

pub map_set_same : {X Y : Type 0} (f : X → Y) (xs : List X) (i : ℕ) (v d : X) → f v ≡ f (get_or xs i d) → map f (set xs i v) ≡ map f xs
map_set_same f [] zero v d e = refl
map_set_same f [] (suc i) v d e = refl
map_set_same f (x ∷ xs) zero v d e = ap (λ y. y ∷ map f xs) e
map_set_same f (x ∷ xs) (suc i) v d e = ap (λ l. f x ∷ l) (map_set_same f xs i v d e)

pub one_more_column : (plans : List Plan) (cells : List (List ℕ)) (place : ℕ) (plan : Plan) (row more : List (List ℕ)) → AreWritten plans cells place row
    → slice_get plans place ≡ Some plan → AppendsCells plan (nth_cell cells place) row more → AreWritten plans cells (place + 1) more
one_more_column plans cells place plan row more are e appends =
    rw add-one (subst (AreWritten plans cells (suc place)) (sym appends.after_is) (next_column place plan row appends.outs are e appends.written))

pub one_more_title : (plans : List Plan) (titles : List (List ℕ)) (place : ℕ) (plan : Plan) (row more : List (List ℕ)) → AreTitled plans titles place row
    → slice_get plans place ≡ Some plan → more ≡ row ++ title_cells plan.kind (nth_cell titles place) → AreTitled plans titles (place + 1) more
one_more_title plans titles place plan row more are e after =
    rw add-one (subst (AreTitled plans titles (suc place)) (sym after) (next_title place plan row are e))

pub is_blank_row : (row : List (List ℕ)) → is_empty_line row ≡ true → row ≡ [] ∷ []
is_blank_row [] e = absurd (cc)
is_blank_row ([] ∷ []) e = refl
is_blank_row ((byte ∷ cell) ∷ []) e = absurd (cc)
is_blank_row (cell ∷ next ∷ row) e = absurd (on cell e)
  where
    on : (cell : List ℕ) → is_empty_line (cell ∷ next ∷ row) ≡ true → ⊥
    on [] e = cc
    on (byte ∷ cell) e = cc

abbrev pub said_cells : List (CowSlice ℕ Global) → List (List ℕ)
said_cells cells = map cow_slice_items cells

pub plan_there : {X Y : Type 0} (f : X → Y) (xs : List X) (i : ℕ) (x : X) → i < length xs → x ≡ get_or xs i x → slice_get (map f xs) i ≡ Some (f x)
plan_there f xs i x lt e = slice_get-map f xs i x lt ∙ ap (λ y. Some (f y)) (sym e)

pub if_ok : {T E : Type 0} {P Q : Type 0} (r : Result T E) → OnOk r P → (P → Q) → IfOk r (λ _. Q)
if_ok (Ok x) p f = f p
if_ok (Err e) p f = tt

pub some_items : {X : Type 0} (xs : List X) → (length xs == 0) ≡ false → 0 < length xs
some_items [] e = absurd (cc)
some_items (x ∷ xs) e = omega arith

pub some_mapped : {X Y : Type 0} (f : X → Y) (xs : List X) → (length xs == 0) ≡ false → 0 < length (map f xs)
some_mapped f [] e = absurd (cc)
some_mapped f (x ∷ xs) e = omega arith

pub when_ok : {T E : Type 0} {P : Type 0} (r : Result T E) (x : T) → r ≡ Ok x → IfOk r (λ _. P) → P
when_ok {T} {E} {P} r x e p = let I : Result T E → Type 0 = λ s. IfOk s (λ _. P) in subst I e p

pub no_items : {X : Type 0} (xs : List X) → (length xs == 0) ≡ true → xs ≡ []
no_items [] e = refl
no_items (x ∷ xs) e = let none : length (x ∷ xs) ≡ 0 = eqb-true (length (x ∷ xs)) 0 e in absurd (omega arith)
