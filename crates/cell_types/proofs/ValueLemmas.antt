-- Values compare as their views do, and the order of views.
use Rattle.std.proofs.Common.{◌≡◌, ◌≢◌, ◌↔◌, ℕ, ℤ, pos, inl, inr, ◌<◌, ◌<ℤ◌, ◌&&◌, ◌==◌, true, false, List, [], ◌∷◌, map, refl, sym, ap, arith, ◌∙◌}
use Rattle.std.specs.Bool.{IsTrue}
use Rattle.std.specs.Cmp.{IsTotalOrder, Equal-is, both_ways}
use Rattle.std.specs.FinMap.{slice_cmp-IsAntisymmetric, int_cmp-IsAntisymmetric}
use Rattle.std.specs.Cmp.Lexicographic.{slice_cmp}
use Rattle.std.specs.Ordering.{MatchOrdering, int_eq, int_cmp, nat_cmp, ordering_then, ordering_reverse, is_eq}
use Rattle.std.specs.declared.cmp.Ordering.{Ordering}
use Rattle.std.specs.declared.cmp.Ordering.TheVariants.{Less, Equal, Greater}
use Rattle.std.proofs.lemmas.Bool.{and_parts, and_from, eqb-true, eq-eqb}
use Rattle.std.proofs.lemmas.Bool.Decides.{Decides-int_eq, nat_tests}
use Rattle.std.proofs.lemmas.Cmp.{int_ranked, int_cmp_total, ranked, lists_total, on_total, tied_itself}
use Rattle.std.proofs.lemmas.Int.{ints}
use Rattle.std.proofs.lemmas.Map.Text.{is_eq-slice_cmp}
use Rattle.jiff_core.specs.declared.civil.date.Date.{Date}
use Rattle.jiff_core.specs.Date.{epoch_day}
use Rattle.jiff_core.proofs.DateLemmas.{epoch_day_injective, epoch_day_same, epoch_day-lt}
use Rattle.cell_types.specs.Value.{CellValue, null, integer, text, boolean, date, decimal, value_cmp, value_eq, value_view}
use Rattle.cell_types.specs.declared.value.Value.{Value}
use Rattle.cell_types.specs.declared.value.Value.TheVariants as V
use Rattle.cell_types.specs.contracts.value.ValuePartialEq.TheImpl.{ghosts}
use Rattle.cell_types.specs.contracts.value.ValueOrd.TheImpl as order

-- numbers in order compare so
int_cmp-lt : (x y : ℤ) (r : Ordering) → MatchOrdering r (x <ℤ y) (x ≡ y) (y <ℤ x) → x <ℤ y → r ≡ Less
int_cmp-lt x y Less h lt = refl
int_cmp-lt x y Equal h lt = absurd (omega (arith, ints))
int_cmp-lt x y Greater h lt = absurd (omega (arith, ints))

int_cmp-gt : (x y : ℤ) (r : Ordering) → MatchOrdering r (x <ℤ y) (x ≡ y) (y <ℤ x) → y <ℤ x → r ≡ Greater
int_cmp-gt x y Less h gt = absurd (omega (arith, ints))
int_cmp-gt x y Equal h gt = absurd (omega (arith, ints))
int_cmp-gt x y Greater h gt = refl

earlier : (a b : Date) → epoch_day a <ℤ epoch_day b → int_cmp (epoch_day a) (epoch_day b) ≡ Less
earlier a b lt = int_cmp-lt (epoch_day a) (epoch_day b) _ (int_ranked (epoch_day a) (epoch_day b) _ refl) lt

later : (a b : Date) → epoch_day b <ℤ epoch_day a → int_cmp (epoch_day a) (epoch_day b) ≡ Greater
later a b gt = int_cmp-gt (epoch_day a) (epoch_day b) _ (int_ranked (epoch_day a) (epoch_day b) _ refl) gt

-- days by their numbers, and by year, month and day
day_cmp : (a b : Date) → a.year ≡ b.year → a.month ≡ b.month → (r : Ordering) → MatchOrdering r (a.day < b.day) (a.day ≡ b.day) (b.day < a.day)
    → int_cmp (epoch_day a) (epoch_day b) ≡ r
day_cmp a b year month Less h = earlier a b (epoch_day-lt a b (inr (year, inr (month, h))))
day_cmp a b year month Equal h = ap (int_cmp (epoch_day a)) (sym (epoch_day_same a b year month h)) ∙ tied_itself int_cmp_total (epoch_day a)
day_cmp a b year month Greater h = later a b (epoch_day-lt b a (inr (sym year, inr (sym month, h))))

month_cmp : (a b : Date) → a.year ≡ b.year → (r : Ordering) → MatchOrdering r (a.month < b.month) (a.month ≡ b.month) (b.month < a.month)
    → int_cmp (epoch_day a) (epoch_day b) ≡ ordering_then r (nat_cmp a.day b.day)
month_cmp a b year Less h = earlier a b (epoch_day-lt a b (inr (year, inl h)))
month_cmp a b year Equal h = day_cmp a b year h (nat_cmp a.day b.day) (ranked a.day b.day _ refl)
month_cmp a b year Greater h = later a b (epoch_day-lt b a (inr (sym year, inl h)))

date_cmp : (a b : Date) (r : Ordering) → MatchOrdering r (a.year <ℤ b.year) (a.year ≡ b.year) (b.year <ℤ a.year)
    → int_cmp (epoch_day a) (epoch_day b) ≡ ordering_then r (ordering_then (nat_cmp a.month b.month) (nat_cmp a.day b.day))
date_cmp a b Less h = earlier a b (epoch_day-lt a b (inl h))
date_cmp a b Equal h = month_cmp a b h (nat_cmp a.month b.month) (ranked a.month b.month _ refl)
date_cmp a b Greater h = later a b (epoch_day-lt b a (inl h))

date_eq : (a b : Date) → int_eq (epoch_day a) (epoch_day b) ≡ (int_eq a.year b.year && (a.month == b.month) && (a.day == b.day))
date_eq a b = both_ways (int_eq (epoch_day a) (epoch_day b)) (int_eq a.year b.year && (a.month == b.month) && (a.day == b.day))
    (λ e. let same = epoch_day_injective a b ((Decides-int_eq (epoch_day a) (epoch_day b)).0 e) in
    and_from (int_eq a.year b.year && (a.month == b.month)) (a.day == b.day)
    (and_from (int_eq a.year b.year) (a.month == b.month) ((Decides-int_eq a.year b.year).1 same.0) (eq-eqb a.month b.month same.1))
    (eq-eqb a.day b.day same.2))
    (λ e. let p = and_parts (int_eq a.year b.year && (a.month == b.month)) (a.day == b.day) e in
    let q = and_parts (int_eq a.year b.year) (a.month == b.month) p.0 in
    (Decides-int_eq (epoch_day a) (epoch_day b)).1
    (epoch_day_same a b ((Decides-int_eq a.year b.year).0 q.0) (eqb-true a.month b.month q.1) (eqb-true a.day b.day p.1)))

pub eq-view : (x y : Value) → (ghosts).eq x y ≡ value_eq (value_view x) (value_view y)
unfolding value_eq
eq-view V.Null V.Null = refl
eq-view (V.Int a) V.Null = refl
eq-view (V.Text a) V.Null = refl
eq-view (V.Bool a) V.Null = refl
eq-view (V.Date a) (V.Date b) = date_eq a b
eq-view (V.Decimal a) V.Null = refl
eq-view _ _ = refl

pub cmp-view : (x y : Value) → (order.ghosts).cmp x y ≡ value_cmp (value_view x) (value_view y)
unfolding value_cmp
cmp-view V.Null V.Null = refl
cmp-view (V.Int a) V.Null = refl
cmp-view (V.Text a) V.Null = refl
cmp-view (V.Bool a) V.Null = refl
cmp-view (V.Date a) (V.Date b) = date_cmp a b (int_cmp a.year b.year) (int_ranked a.year b.year _ refl)
cmp-view (V.Decimal a) V.Null = refl
cmp-view _ _ = refl

-- a value as a list of numbers
abbrev key : CellValue → List ℤ
key null = pos 0 ∷ []
key (integer z) = pos 1 ∷ z ∷ []
key (text t) = pos 2 ∷ map pos t
key (boolean false) = pos 3 ∷ pos 0 ∷ []
key (boolean true) = pos 3 ∷ pos 1 ∷ []
key (date y m d) = pos 4 ∷ y ∷ pos m ∷ pos d ∷ []
key (decimal z) = pos 5 ∷ z ∷ []

then-equal : (r : Ordering) → r ≡ ordering_then r Equal
then-equal Less = refl
then-equal Equal = refl
then-equal Greater = refl

pos-cmp : (m n : ℕ) → nat_cmp m n ≡ int_cmp (pos m) (pos n)
pos-cmp m n = grind (arith, nat_tests, ints)

text-cmp : (s t : List ℕ) → slice_cmp nat_cmp s t ≡ slice_cmp int_cmp (map pos s) (map pos t)
text-cmp [] [] = refl
text-cmp [] (y ∷ ys) = refl
text-cmp (x ∷ xs) [] = refl
text-cmp (x ∷ xs) (y ∷ ys) = rw (pos-cmp x y, text-cmp xs ys) refl

cmp-key : (a b : CellValue) → value_cmp a b ≡ slice_cmp int_cmp (key a) (key b)
unfolding value_cmp
cmp-key (integer a) (integer b) = then-equal (int_cmp a b)
cmp-key (text a) (text b) = text-cmp a b
cmp-key (boolean true) (boolean true) = refl
cmp-key (boolean true) (boolean false) = refl
cmp-key (boolean false) (boolean true) = refl
cmp-key (boolean false) (boolean false) = refl
cmp-key (date y m d) (date z n e) = rw (pos-cmp m n, pos-cmp d e, ← then-equal (int_cmp (pos d) (pos e))) refl
cmp-key (decimal a) (decimal b) = then-equal (int_cmp a b)
cmp-key null null = refl
cmp-key null (boolean true) = refl
cmp-key null (boolean false) = refl
cmp-key (integer a) (boolean true) = refl
cmp-key (integer a) (boolean false) = refl
cmp-key (text a) (boolean true) = refl
cmp-key (text a) (boolean false) = refl
cmp-key (date y m d) (boolean true) = refl
cmp-key (date y m d) (boolean false) = refl
cmp-key (decimal a) (boolean true) = refl
cmp-key (decimal a) (boolean false) = refl
cmp-key (boolean true) _ = refl
cmp-key (boolean false) _ = refl
cmp-key _ _ = refl

keys_total : IsTotalOrder (λ (a b : CellValue). slice_cmp int_cmp (key a) (key b))
keys_total = on_total key (lists_total int_cmp_total)

pub values_total : IsTotalOrder value_cmp
values_total = record {
  antisymm = λ x y. cmp-key x y ∙ keys_total.antisymm x y ∙ ap ordering_reverse (sym (cmp-key y x));
  trans = λ x y z p q. cmp-key x z ∙ keys_total.trans x y z (sym (cmp-key x y) ∙ p) (sym (cmp-key y z) ∙ q);
  congr = λ x y z p. cmp-key x z ∙ keys_total.congr x y z (sym (cmp-key x y) ∙ p) ∙ sym (cmp-key y z);
}

map_pos_injective : (s t : List ℕ) → map pos s ≡ map pos t → s ≡ t
map_pos_injective [] [] e = refl
map_pos_injective [] (y ∷ ys) e = cc
map_pos_injective (x ∷ xs) [] e = cc
map_pos_injective (x ∷ xs) (y ∷ ys) e =
    let head : x ≡ y = cc in
    let tail : map pos xs ≡ map pos ys = cc in
    rw (head, map_pos_injective xs ys tail) refl

key_injective : (a b : CellValue) → key a ≡ key b → a ≡ b
key_injective null null e = refl
key_injective (integer a) (integer b) e = cc
key_injective (decimal a) (decimal b) e = cc
key_injective (text s) (text t) e = let tail : map pos s ≡ map pos t = cc in ap text (map_pos_injective s t tail)
key_injective (boolean true) (boolean true) e = refl
key_injective (boolean false) (boolean false) e = refl
key_injective (boolean true) (boolean false) e = cc
key_injective (boolean false) (boolean true) e = cc
key_injective (date y m d) (date z n f) e = cc
key_injective null (boolean true) e = cc
key_injective null (boolean false) e = cc
key_injective (integer a) (boolean true) e = cc
key_injective (integer a) (boolean false) e = cc
key_injective (text a) (boolean true) e = cc
key_injective (text a) (boolean false) e = cc
key_injective (date y m d) (boolean true) e = cc
key_injective (date y m d) (boolean false) e = cc
key_injective (decimal a) (boolean true) e = cc
key_injective (decimal a) (boolean false) e = cc
key_injective (boolean true) _ e = cc
key_injective (boolean false) _ e = cc
key_injective _ _ e = cc

pub value_cmp-Equal : (a b : CellValue) → value_cmp a b ≡ Equal → a ≡ b
value_cmp-Equal a b e = key_injective a b (slice_cmp-IsAntisymmetric int_cmp-IsAntisymmetric (key a) (key b) (sym (cmp-key a b) ∙ e))

pub null-first : (a : CellValue) → a ≢ null → value_cmp null a ≡ Less
unfolding value_cmp
null-first null apart = absurd (apart refl)
null-first _ apart = refl

is_eq-then : (o p q : Ordering) → (is_eq o && is_eq p && is_eq q) ≡ is_eq (ordering_then o (ordering_then p q))
is_eq-then Less p q = refl
is_eq-then Greater p q = refl
is_eq-then Equal Less q = refl
is_eq-then Equal Greater q = refl
is_eq-then Equal Equal q = refl

nat-is_eq : (m n : ℕ) → (m == n) ≡ is_eq (nat_cmp m n)
nat-is_eq m n = grind (arith, nat_tests)

-- values are one where they tie
eq-cmp : (a b : CellValue) → value_eq a b ≡ is_eq (value_cmp a b)
unfolding value_eq value_cmp
eq-cmp null null = refl
eq-cmp (integer a) (integer b) = refl
eq-cmp (decimal a) (decimal b) = refl
eq-cmp (text s) (text t) = sym (is_eq-slice_cmp s t)
eq-cmp (boolean true) (boolean true) = refl
eq-cmp (boolean false) (boolean false) = refl
eq-cmp (boolean true) (boolean false) = refl
eq-cmp (boolean false) (boolean true) = refl
eq-cmp (date y m d) (date z n e) =
    ap (λ p. int_eq y z && p && (d == e)) (nat-is_eq m n) ∙ ap (λ p. int_eq y z && is_eq (nat_cmp m n) && p) (nat-is_eq d e)
    ∙ is_eq-then (int_cmp y z) (nat_cmp m n) (nat_cmp d e)
eq-cmp _ _ = refl

pub value_eq-Decides : (a b : CellValue) → IsTrue (value_eq a b) ↔ (a ≡ b)
value_eq-Decides a b = (
  λ t. value_cmp-Equal a b ((Equal-is (value_cmp a b)).0 (sym (eq-cmp a b) ∙ t)),
  λ e. eq-cmp a b ∙ (Equal-is (value_cmp a b)).1 (ap (value_cmp a) (sym e) ∙ tied_itself values_total a),
)
