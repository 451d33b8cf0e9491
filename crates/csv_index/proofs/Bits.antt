-- The set bits of a word, as places and as roles.
use Rattle.std.proofs.Common.{◌≡◌, ℕ, zero, suc, ◌+◌, ◌-◌, ◌*◌, ◌/◌, ◌%◌, ◌^◌, ◌<◌, ◌≤◌, List, [], ◌∷◌, ◌++◌, length, length-append, Bool, true, false, cond, ◌==◌, refl, sym, ap, ◌∙◌, arith, add-one, add_comm, bit_or, bit_and, max, w64, ◌≢◌}
use Rattle.std.proofs.Math.Nat.{mod-eq_of_lt, mod-lt, div-add-mod}
use Rattle.std.proofs.Math.Pow.{pow-lt}
use Rattle.std.specs.Int.{bit_at, bit_not, trailing_zeros}
use Rattle.std.specs.Int.RustNames.{count_ones}
use Rattle.std.proofs.lemmas.Bool.{eqb-true, eqb-false}
use Rattle.std.proofs.lemmas.Nat.{mod-pow-add, ones_cat, ones-le, pow_pos, and_mask, and_le_l, zero_from_ones}
use Rattle.std.proofs.lemmas.Nat.Bits.{bit_at-lt, bit_at_or, bit_at_clear_same, bit_at_clear_other, bit_at-trailing_zeros}
use Rattle.csv_grammar.specs.Structure.{Role, separator, record_end, inner}
use Rattle.quote_parity.proofs.NumberLaws.{count_ones-bit}
use Rattle.csv_index.specs.Blocks.{set_places}
use Rattle.csv_index.specs.Reading.{role_places}
use Rattle.csv_index.specs.Widths.{mask_role, mask_roles}

less : (a b : ℕ) → a ≤ b → a ≢ b → a < b
less a b h ne = omega arith

zero_one : (a : ℕ) → a ≡ 0 → a ≡ 1 → ⊥
zero_one a e f = omega arith

-- ---- how many bits are set

pub ones_none : (w : ℕ) → count_ones (w % 2 ^ 0) ≡ 0
ones_none w = let none : w % 2 ^ 0 ≡ 0 = omega arith in ap count_ones none ∙ count_ones-bit 0 (omega arith)

pub ones_next : (w k : ℕ) → count_ones (w % 2 ^ suc k) ≡ count_ones (w % 2 ^ k) + bit_at w k
ones_next w k =
    let b = w / 2 ^ k % 2 in
    let split : w % 2 ^ suc k ≡ b * 2 ^ k + w % 2 ^ k = ap (λ n. w % 2 ^ n) (sym (add-one k) ∙ add_comm k 1) ∙ mod-pow-add w 1 k in
    omega (arith, ap count_ones split ∙ ones_cat k b (w % 2 ^ k) (omega (arith, pow_pos k)), count_ones-bit b (bit_at-lt w k))

pub ones_whole : (w : ℕ) → w < 2 ^ 64 → count_ones (w % 2 ^ 64) ≡ count_ones w
ones_whole w h = ap count_ones (mod-eq_of_lt h)

pub ones_rise : (w k n : ℕ) → count_ones (w % 2 ^ k) ≤ count_ones (w % 2 ^ (k + n))
ones_rise w k zero = let e : k + 0 ≡ k = omega arith in rw e (omega arith)
ones_rise w k (suc n) =
    let e : k + suc n ≡ suc (k + n) = omega arith in
    omega (arith, ap (λ j. count_ones (w % 2 ^ j)) e, ones_next w (k + n), ones_rise w k n)

pub ones_most : (w k : ℕ) → count_ones (w % 2 ^ k) ≤ k
ones_most w k = ones-le k (w % 2 ^ k) (mod-lt w (pow_pos k))

one_shl : (k : ℕ) → k < 64 → 1 * 2 ^ k % 2 ^ 64 ≡ 2 ^ k
one_shl k h =
    let one : 1 * 2 ^ k ≡ 2 ^ k = omega arith in
    ap (λ n. n % 2 ^ 64) one ∙ mod-eq_of_lt (pow-lt h)

pub ones_front : (w k : ℕ) → count_ones (w % 2 ^ k) ≤ count_ones w
ones_front w k =
    let split : w ≡ w / 2 ^ k * 2 ^ k + w % 2 ^ k = omega (arith, div-add-mod w (2 ^ k)) in
    omega (arith, ap count_ones split ∙ ones_cat k (w / 2 ^ k) (w % 2 ^ k) (mod-lt w (pow_pos k)))

-- one set bit alone
pub record IsOne (w place : ℕ) : Type 0 where
  pub within : place < 64
  pub is : w ≡ 2 ^ place

pub one_alone : (w : ℕ) → w < 2 ^ 64 → count_ones w ≡ 1 → IsOne w (trailing_zeros w64 w)
one_alone w small one =
    let place : ℕ = trailing_zeros w64 w in
    let some : 0 < w = not_zero w one in
    let low = bit_at-trailing_zeros w64 w some small in
    let split : w ≡ w / 2 ^ suc place * 2 ^ suc place + w % 2 ^ suc place = omega (arith, div-add-mod w (2 ^ suc place)) in
    let sum : 1 ≡ count_ones (w / 2 ^ suc place) + count_ones (w % 2 ^ suc place) =
    sym one ∙ ap count_ones split ∙ ones_cat (suc place) (w / 2 ^ suc place) (w % 2 ^ suc place) (mod-lt w (pow_pos (suc place))) in
    let next = ones_next w place in
    let above : w / 2 ^ suc place ≡ 0 = zero_from_ones (w / 2 ^ suc place) (omega (arith, sum, next, low.1)) in
    let below : w % 2 ^ place ≡ 0 = zero_from_ones (w % 2 ^ place) (omega (arith, sum, next, low.1)) in
    let here : w % 2 ^ suc place ≡ bit_at w place * 2 ^ place + w % 2 ^ place = ap (λ n. w % 2 ^ n) (sym (add-one place) ∙ add_comm place 1) ∙ mod-pow-add w 1 place in
    let bit : bit_at w place * 2 ^ place ≡ 2 ^ place = ap (λ b. b * 2 ^ place) low.1 ∙ omega arith in
    let none : w / 2 ^ suc place * 2 ^ suc place ≡ 0 = ap (λ a. a * 2 ^ suc place) above ∙ omega arith in record {
      within = omega (arith, low.0);
      is = omega (arith, split, none, here, bit, below);
    }
  where
    not_zero : (n : ℕ) → count_ones n ≡ 1 → 0 < n
    not_zero zero h = omega (arith, h, count_ones-bit 0 (omega arith))
    not_zero (suc n) h = omega arith

-- the bits below a place, by a mask
pub ones_before : (w k : ℕ) → k < 64 → count_ones (bit_and w (1 * 2 ^ k % 2 ^ 64 - 1)) ≡ count_ones (w % 2 ^ k)
ones_before w k h = ap (λ m. count_ones (bit_and w (m - 1))) (one_shl k h) ∙ ap count_ones (and_mask w k)

-- the lowest bit is cleared
pub cleared_below : (w place k : ℕ) → place < 64 → ((j : ℕ) → j < place → bit_at w j ≡ 0) → k ≤ place → bit_at (bit_and w (bit_not w64 (1 * 2 ^ place % 2 ^ 64))) k ≡ 0
cleared_below w place k within below h = on k (k == place) refl h
  where
    on : (j : ℕ) (t : Bool) → j == place ≡ t → j ≤ place → bit_at (bit_and w (bit_not w64 (1 * 2 ^ place % 2 ^ 64))) j ≡ 0
    on j true e l = let same : j ≡ place = eqb-true j place e in rw same (bit_at_clear_same w64 w place within)
    on j false e l =
        bit_at_clear_other w64 w place within j (omega arith) (eqb-false j place e) ∙ below j (less j place l (eqb-false j place e))

-- and no other number is so large
pub cleared_less : (w place : ℕ) → place < 64 → bit_at w place ≡ 1 → bit_and w (bit_not w64 (1 * 2 ^ place % 2 ^ 64)) < w
cleared_less w place within set =
    less _ _ (and_le_l w (bit_not w64 (1 * 2 ^ place % 2 ^ 64)))
    (λ same. zero_one _ (bit_at_clear_same w64 w place within) (ap (λ n. bit_at n place) same ∙ set))

-- ---- the places of the set bits

split_step : (t : Bool) (x : ℕ) (xs ys zs : List ℕ) → zs ≡ xs ++ ys → cond t (x ∷ zs) zs ≡ cond t (x ∷ xs) xs ++ ys
split_step true x xs ys zs e = ap (λ l. x ∷ l) e
split_step false x xs ys zs e = e

-- the first a bits, and those after them
pub places_split : (at w i j a b n : ℕ) → j ≡ i + a → n ≡ a + b → set_places at w i n ≡ set_places at w i a ++ set_places at w j b
unfolding set_places
places_split at w i j zero b n ej en = let e : n ≡ b = omega arith in let f : j ≡ i = omega arith in rw (e, f) refl
places_split at w i j (suc a) b zero ej en = absurd (omega arith)
places_split at w i j (suc a) b (suc n) ej en =
    split_step (bit_at w i == 1) (at + i) (set_places at w (i + 1) a) (set_places at w j b) (set_places at w (i + 1) n)
    (places_split at w (i + 1) j a b n (omega arith) (omega arith))

-- words with the same bits have the same places
pub places_same : (at v w i n : ℕ) → ((k : ℕ) → i ≤ k → k < i + n → bit_at v k ≡ bit_at w k) → set_places at v i n ≡ set_places at w i n
unfolding set_places
places_same at v w i zero same = refl
places_same at v w i (suc n) same =
    let here : bit_at v i ≡ bit_at w i = same i (omega arith) (omega arith) in
    let more : set_places at v (i + 1) n ≡ set_places at w (i + 1) n = places_same at v w (i + 1) n (λ k h l. same k (omega arith) (omega arith)) in
    ap (λ b. cond (b == 1) ((at + i) ∷ set_places at v (i + 1) n) (set_places at v (i + 1) n)) here
    ∙ ap (λ xs. cond (bit_at w i == 1) ((at + i) ∷ xs) xs) more

pub places_none : (at w i n : ℕ) → ((k : ℕ) → i ≤ k → k < i + n → bit_at w k ≡ 0) → set_places at w i n ≡ []
unfolding set_places
places_none at w i zero none = refl
places_none at w i (suc n) none =
    let here : bit_at w i ≡ 0 = none i (omega arith) (omega arith) in
    ap (λ b. cond (b == 1) ((at + i) ∷ set_places at w (i + 1) n) (set_places at w (i + 1) n)) here
    ∙ places_none at w (i + 1) n (λ k h l. none k (omega arith) (omega arith))

-- one bit alone
places_set : (at w i : ℕ) → bit_at w i ≡ 1 → set_places at w i 1 ≡ (at + i) ∷ []
unfolding set_places
places_set at w i set = ap (λ b. cond (b == 1) ((at + i) ∷ []) []) set

one_length : (b x : ℕ) → b < 2 → length (cond (b == 1) (x ∷ []) []) ≡ b
one_length zero x h = refl
one_length (suc zero) x h = refl
one_length (suc (suc b)) x h = absurd (omega arith)

length_one : (at w i : ℕ) → length (set_places at w i 1) ≡ bit_at w i
unfolding set_places
length_one at w i = one_length (bit_at w i) (at + i) (bit_at-lt w i)

no_places : (at w : ℕ) → length (set_places at w 0 0) ≡ 0
unfolding set_places
no_places at w = refl

-- as many as bits are set
pub places_count : (at w n : ℕ) → length (set_places at w 0 n) ≡ count_ones (w % 2 ^ n)
places_count at w zero = no_places at w ∙ sym (ones_none w)
places_count at w (suc n) =
    ap length (places_split at w 0 n n 1 (suc n) (omega arith) (omega arith))
    ∙ length-append (set_places at w 0 n) (set_places at w n 1)
    ∙ omega (arith, places_count at w n, length_one at w n, ones_next w n)

-- around a set bit
pub places_around : (at w i a p q b n : ℕ) → p ≡ i + a → q ≡ p + 1 → n ≡ a + (b + 1) → bit_at w p ≡ 1
    → set_places at w i n ≡ set_places at w i a ++ (at + p) ∷ set_places at w q b
places_around at w i a p q b n ep eq en set =
    places_split at w i p a (b + 1) n ep en
    ∙ ap (λ l. set_places at w i a ++ l)
    (places_split at w p q 1 b (b + 1) eq (omega arith) ∙ ap (λ l. l ++ set_places at w q b) (places_set at w p set))

-- ---- the roles of a block's bytes

pub roles_split : (sep eol i j a b n : ℕ) → j ≡ i + a → n ≡ a + b → mask_roles sep eol i n ≡ mask_roles sep eol i a ++ mask_roles sep eol j b
unfolding mask_roles
roles_split sep eol i j zero b n ej en = let e : n ≡ b = omega arith in let f : j ≡ i = omega arith in rw (e, f) refl
roles_split sep eol i j (suc a) b zero ej en = absurd (omega arith)
roles_split sep eol i j (suc a) b (suc n) ej en =
    ap (λ l. mask_role sep eol i ∷ l) (roles_split sep eol (i + 1) j a b n (omega arith) (omega arith))

pub roles_one : (sep eol i : ℕ) → mask_roles sep eol i 1 ≡ mask_role sep eol i ∷ []
unfolding mask_roles
roles_one sep eol i = refl

-- a byte that ends a record is none that parts fields
role_by_ends : (s e : ℕ) → s < 2 → e < 2 → cond (e == 1) record_end (cond (max s e == 1) separator inner) ≡ cond (e == 1) record_end (cond (s == 1) separator inner)
role_by_ends zero zero hs he = refl
role_by_ends (suc zero) zero hs he = refl
role_by_ends zero (suc zero) hs he = refl
role_by_ends (suc zero) (suc zero) hs he = refl
role_by_ends (suc (suc s)) b hs he = absurd (omega arith)
role_by_ends s (suc (suc b)) hs he = absurd (omega arith)

-- so all structural places may stand for the separators
pub roles_by_ends : (sep eol i n : ℕ) → mask_roles (bit_or sep eol) eol i n ≡ mask_roles sep eol i n
unfolding mask_roles
roles_by_ends sep eol i zero = refl
roles_by_ends sep eol i (suc n) =
    ap (λ b. cond (bit_at eol i == 1) record_end (cond (b == 1) separator inner) ∷ mask_roles (bit_or sep eol) eol (i + 1) n) (bit_at_or sep eol i)
    ∙ ap (λ r. r ∷ mask_roles (bit_or sep eol) eol (i + 1) n) (role_by_ends (bit_at sep i) (bit_at eol i) (bit_at-lt sep i) (bit_at-lt eol i))
    ∙ ap (λ rs. mask_role sep eol i ∷ rs) (roles_by_ends sep eol (i + 1) n)

set_either : (s e : ℕ) → s < 2 → e ≡ 1 → max s e ≡ 1
set_either zero e hs set = rw set refl
set_either (suc zero) e hs set = rw set refl
set_either (suc (suc s)) e hs set = absurd (omega arith)

-- the end of a record is a structural place
pub ends_within : (sep eol k : ℕ) → bit_at eol k ≡ 1 → bit_at (bit_or sep eol) k ≡ 1
ends_within sep eol k set = bit_at_or sep eol k ∙ set_either (bit_at sep k) (bit_at eol k) (bit_at-lt sep k) set

-- around the end of a record
pub roles_around : (sep eol i a p q b n : ℕ) → p ≡ i + a → q ≡ p + 1 → n ≡ a + (b + 1) → bit_at eol p ≡ 1
    → mask_roles sep eol i n ≡ mask_roles sep eol i a ++ record_end ∷ mask_roles sep eol q b
roles_around sep eol i a p q b n ep eq en set =
    let role : mask_role sep eol p ≡ record_end = ap (λ b. cond (b == 1) record_end (cond (bit_at sep p == 1) separator inner)) set in
    roles_split sep eol i p a (b + 1) n ep en
    ∙ ap (λ l. mask_roles sep eol i a ++ l)
    (roles_split sep eol p q 1 b (b + 1) eq (omega arith) ∙ ap (λ l. l ++ mask_roles sep eol q b) (roles_one sep eol p ∙ ap (λ r. r ∷ []) role))

-- ---- the structural places among roles

-- a byte's role, and its bit of both masks
role_step : (s e : ℕ) → s < 2 → e < 2 → (x : ℕ) (xs : List ℕ) (roles : List Role) → xs ≡ role_places (x + 1) roles
    → cond (max s e == 1) (x ∷ xs) xs ≡ role_places x (cond (e == 1) record_end (cond (s == 1) separator inner) ∷ roles)
role_step zero zero hs he x xs roles e = e
role_step (suc zero) zero hs he x xs roles e = ap (λ l. x ∷ l) e
role_step zero (suc zero) hs he x xs roles e = ap (λ l. x ∷ l) e
role_step (suc zero) (suc zero) hs he x xs roles e = ap (λ l. x ∷ l) e
role_step (suc (suc s)) b hs he x xs roles e = absurd (omega arith)
role_step s (suc (suc b)) hs he x xs roles e = absurd (omega arith)

pub places_from_roles : (at sep eol i n x : ℕ) → x ≡ at + i → set_places at (bit_or sep eol) i n ≡ role_places x (mask_roles sep eol i n)
unfolding set_places mask_roles
places_from_roles at sep eol i zero x e = refl
places_from_roles at sep eol i (suc n) x e =
    ap (λ b. cond (b == 1) ((at + i) ∷ set_places at (bit_or sep eol) (i + 1) n) (set_places at (bit_or sep eol) (i + 1) n)) (bit_at_or sep eol i)
    ∙ ap (λ y. cond (max (bit_at sep i) (bit_at eol i) == 1) (y ∷ set_places at (bit_or sep eol) (i + 1) n) (set_places at (bit_or sep eol) (i + 1) n)) (sym e)
    ∙ role_step (bit_at sep i) (bit_at eol i) (bit_at-lt sep i) (bit_at-lt eol i) x (set_places at (bit_or sep eol) (i + 1) n) (mask_roles sep eol (i + 1) n)
    (places_from_roles at sep eol (i + 1) n (x + 1) (omega arith))

pub role_places-append : (at : ℕ) (xs ys : List Role) → role_places at (xs ++ ys) ≡ role_places at xs ++ role_places (at + length xs) ys
role_places-append at [] ys = let e : at + 0 ≡ at = omega arith in rw e refl
role_places-append at (separator ∷ xs) ys =
    let e : at + 1 + length xs ≡ at + suc (length xs) = omega arith in
    ap (λ l. at ∷ l) (role_places-append (at + 1) xs ys ∙ ap (λ k. role_places (at + 1) xs ++ role_places k ys) e)
role_places-append at (record_end ∷ xs) ys =
    let e : at + 1 + length xs ≡ at + suc (length xs) = omega arith in
    ap (λ l. at ∷ l) (role_places-append (at + 1) xs ys ∙ ap (λ k. role_places (at + 1) xs ++ role_places k ys) e)
role_places-append at (inner ∷ xs) ys =
    let e : at + 1 + length xs ≡ at + suc (length xs) = omega arith in
    role_places-append (at + 1) xs ys ∙ ap (λ k. role_places (at + 1) xs ++ role_places k ys) e

-- no more than bytes
pub role_places-length : (at : ℕ) (roles : List Role) → length (role_places at roles) ≤ length roles
role_places-length at [] = omega arith
role_places-length at (separator ∷ roles) = omega (arith, role_places-length (at + 1) roles)
role_places-length at (record_end ∷ roles) = omega (arith, role_places-length (at + 1) roles)
role_places-length at (inner ∷ roles) = omega (arith, role_places-length (at + 1) roles)
