-- Where the fields of a table stand among the places.
use Rattle.std.proofs.Common.{◌≡◌, ℕ, suc, zero, ◌+◌, ◌*◌, ◌<◌, ◌≤◌, List, [], ◌∷◌, ◌++◌, length, map, drop, subst, Some, add-one, refl, ap, ◌∙◌, sym, arith, true}
use Rattle.std.proofs.Math.Nat.{mul-le-mul}
use Rattle.std.specs.List.{slice_get, slice_index, slice_range, AllByRecursion}
use Rattle.std.specs.Option.{option_map}
use Rattle.std.proofs.lemmas.Option.{slice_get-map}
use Rattle.std.specs.Str.{is_utf8}
use Rattle.csv_fields.specs.Between.{cut, raw_between}
use Rattle.csv_index.specs.Index.{Places, raws, start_at, Rise, AreAscii, FitsFile}

-- what is in a list after a front
pub slice_get-behind : {A : Type 0} (xs ys : List A) (n k : ℕ) → n ≡ length xs + k → slice_get (xs ++ ys) n ≡ slice_get ys k
slice_get-behind [] ys n k e = let same : n ≡ k = omega arith in ap (λ i. slice_get ys i) same
slice_get-behind (x ∷ xs) ys zero k e = absurd (omega arith)
slice_get-behind (x ∷ xs) ys (suc n) k e = slice_get-behind xs ys n k (omega arith)

-- what is in the front of a list
pub slice_get-front : {A : Type 0} (xs ys : List A) (k : ℕ) → k < length xs → slice_get (xs ++ ys) k ≡ slice_get xs k
slice_get-front [] ys k h = absurd (omega arith)
slice_get-front (x ∷ xs) ys zero h = refl
slice_get-front (x ∷ xs) ys (suc k) h = slice_get-front xs ys k (omega arith)

-- what holds of each element holds of one
pub AllByRecursion-at : {A : Type 0} (P : A → Type 0) (xs : List A) (n : ℕ) (x : A) → AllByRecursion P xs → slice_get xs n ≡ Some x → P x
AllByRecursion-at P [] n x all e = absurd (cc)
AllByRecursion-at P (y ∷ xs) zero x all e = let same : y ≡ x = cc in rw same at all.0
AllByRecursion-at P (y ∷ xs) (suc n) x all e = AllByRecursion-at P xs n x all.1 e

-- the field that ends at a place
pub cut_at : (start : ℕ) (ends bytes : List ℕ) (n end : ℕ) → slice_get ends n ≡ Some end → slice_get (cut start ends bytes) n ≡ Some (slice_range bytes (start_at start ends n) end)
cut_at start [] bytes n end e = absurd (cc)
cut_at start (first ∷ ends) bytes zero end e = let same : first ≡ end = cc in ap (λ k. Some (slice_range bytes start k)) same
cut_at start (first ∷ ends) bytes (suc n) end e = cut_at (first + 1) ends bytes n end e

-- it begins before it ends
pub start_before : (start size : ℕ) (ends : List ℕ) (n end : ℕ) → Rise start ends size → slice_get ends n ≡ Some end → (start_at start ends n ≤ end) × (end ≤ size)
start_before start size [] n end rise e = absurd (cc)
start_before start size (first ∷ ends) zero end rise e = let same : first ≡ end = cc in (omega (arith, rise.0), omega (arith, rise.1))
start_before start size (first ∷ ends) (suc n) end rise e = start_before (first + 1) size ends n end rise.2 e

-- and after the one before it
pub start_next : (start : ℕ) (ends : List ℕ) (before n end : ℕ) → n ≡ before + 1 → slice_get ends before ≡ Some end → start_at start ends n ≡ end + 1
start_next start [] before n end k e = absurd (cc)
start_next start (first ∷ ends) before zero end k e = absurd (omega arith)
start_next start (first ∷ ends) zero (suc n) end k e =
    let same : first ≡ end = cc in
    let none : n ≡ 0 = omega arith in
    rw none (ap (λ x. x + 1) same)
start_next start (first ∷ ends) (suc before) (suc n) end k e = start_next (first + 1) ends before n end (omega arith) e

-- there are no more places than bytes, and one
pub rise_length : (start size : ℕ) (ends : List ℕ) → Rise start ends size → 0 < length ends → start + length ends ≤ size + 1
rise_length start size [] rise h = absurd (omega arith)
rise_length start size (end ∷ []) rise h = omega (arith, rise.0, rise.1)
rise_length start size (end ∷ next ∷ ends) rise h = omega (arith, rise.0, rise_length (end + 1) size (next ∷ ends) rise.2 (omega arith))

-- what is after a place
pub rise_behind : (start size : ℕ) (ends : List ℕ) (n end : ℕ) → Rise start ends size → slice_get ends n ≡ Some end → Rise (end + 1) (drop (suc n) ends) size
rise_behind start size [] n end rise e = absurd (cc)
rise_behind start size (first ∷ ends) zero end rise e = let same : first ≡ end = cc in subst (λ k. Rise (k + 1) ends size) same rise.2
rise_behind start size (first ∷ ends) (suc n) end rise e = rise_behind (first + 1) size ends n end rise.2 e

pub cut_behind : (start : ℕ) (ends bytes : List ℕ) (n end : ℕ) → slice_get ends n ≡ Some end → cut (end + 1) (drop (suc n) ends) bytes ≡ drop (suc n) (cut start ends bytes)
cut_behind start [] bytes n end e = absurd (cc)
cut_behind start (first ∷ ends) bytes zero end e = let same : first ≡ end = cc in ap (λ k. cut (k + 1) ends bytes) (sym same)
cut_behind start (first ∷ ends) bytes (suc n) end e = cut_behind (first + 1) ends bytes n end e

pub map-drop : {A B : Type 0} (f : A → B) (n : ℕ) (xs : List A) → map f (drop n xs) ≡ drop n (map f xs)
map-drop f zero xs = refl
map-drop f (suc n) [] = refl
map-drop f (suc n) (x ∷ xs) = map-drop f n xs

pub all_drop : {A : Type 0} (P : A → Type 0) (n : ℕ) (xs : List A) → AllByRecursion P xs → AllByRecursion P (drop n xs)
all_drop P zero xs all = all
all_drop P (suc n) [] all = tt
all_drop P (suc n) (x ∷ xs) all = all_drop P n xs all.1

-- the numbers of the fields are small
pub cell_fits : (places : Places) (bytes : List ℕ) (row : ℕ) → FitsFile places bytes → row ≤ places.rows
    → (row + 1 ≤ (row + 1) * places.width) × ((row + 1) * places.width ≤ length places.ends) × (length places.ends ≤ length bytes + 1)
cell_fits places bytes row fits h =
    let wide : 1 ≤ places.width = omega (arith, fits.width) in
    let more : row + 1 ≤ places.rows + 1 = omega arith in
    let self_row : row + 1 ≤ row + 1 = omega arith in
    let self_width : places.width ≤ places.width = omega arith in
    let one : (row + 1) * 1 ≤ (row + 1) * places.width = mul-le-mul self_row wide in
    let most : (row + 1) * places.width ≤ (places.rows + 1) * places.width = mul-le-mul more self_width in
    let some : 0 < length places.ends = omega (arith, fits.count) in
    (omega arith, omega (arith, fits.count), omega (arith, rise_length places.start (length bytes) places.ends fits.rise some))

-- a field between the places is text
pub raw_is_text : (places : Places) (bytes : List ℕ) (n : ℕ) (piece : List ℕ) → FitsFile places bytes → slice_get (cut places.start places.ends bytes) n ≡ Some piece
    → is_utf8 (raw_between piece).bytes ≡ true
raw_is_text places bytes n piece fits e =
    AllByRecursion-at (λ raw. is_utf8 raw.bytes ≡ true) (raws places bytes) n (raw_between piece) fits.text
    (slice_get-map raw_between (cut places.start places.ends bytes) n ∙ ap (option_map raw_between) e)

-- what follows the field before a row
pub record FieldsBehind (places : Places) (bytes : List ℕ) (row start : ℕ) (ends : List ℕ) : Type 0 where
  pub rise : Rise start ends (length bytes)
  pub text : AllByRecursion (λ raw. is_utf8 raw.bytes ≡ true) (map raw_between (cut start ends bytes))
  pub ascii : AreAscii bytes ends
  pub are : map raw_between (cut start ends bytes) ≡ drop ((row + 1) * places.width) (raws places bytes)

pub fields_behind : (places : Places) (bytes : List ℕ) (row before end : ℕ) (ends : List ℕ) → FitsFile places bytes → (row + 1) * places.width ≡ before + 1
    → slice_get places.ends before ≡ Some end → ends ≡ drop (before + 1) places.ends → FieldsBehind places bytes row (end + 1) ends
fields_behind places bytes row before end ends fits n e is =
    let these : ends ≡ drop (suc before) places.ends = is ∙ ap (λ k. drop k places.ends) (add-one before) in
    let pieces : map raw_between (cut (end + 1) ends bytes) ≡ drop (suc before) (raws places bytes) =
    ap (λ l. map raw_between (cut (end + 1) l bytes)) these
    ∙ ap (map raw_between) (cut_behind places.start places.ends bytes before end e)
    ∙ map-drop raw_between (suc before) (cut places.start places.ends bytes) in record {
      rise = subst (λ l. Rise (end + 1) l (length bytes)) (sym these) (rise_behind places.start (length bytes) places.ends before end fits.rise e);
      text = subst (AllByRecursion (λ raw. is_utf8 raw.bytes ≡ true)) (sym pieces) (all_drop (λ raw. is_utf8 raw.bytes ≡ true) (suc before) (raws places bytes) fits.text);
      ascii = subst (AreAscii bytes) (sym these) (all_drop (λ end. slice_index bytes end < 128) (suc before) places.ends fits.ascii);
      are = pieces ∙ ap (λ k. drop k (raws places bytes)) (sym (n ∙ add-one before));
    }
