-- What the masks of a block count.
use Rattle.std.proofs.Common.{◌≡◌, ℕ, zero, suc, ◌+◌, ◌-◌, ◌*◌, ◌%◌, ◌^◌, ◌<◌, ◌≤◌, List, [], ◌∷◌, ◌++◌, length, Bool, true, false, cond, ◌==◌, ◌||◌, ◌≢◌, Option, Some, refl, sym, ap, ◌∙◌, arith, add-one, bit_and, w64}
use Rattle.std.specs.Prelude.{is_some}
use Rattle.std.specs.Int.{bit_at}
use Rattle.std.specs.Int.RustNames.{count_ones}
use Rattle.std.specs.Int.{trailing_zeros, bit_not}
use Rattle.std.proofs.lemmas.Nat.Bits.{bit_at-lt, bit_at-trailing_zeros, bit_at_clear_other, bit_at-zero, bit_at-pow_same, bit_at-pow_other}
use Rattle.std.proofs.lemmas.Nat.{pow_pos, and_mask, zero_from_ones}
use Rattle.std.proofs.lemmas.Bool.{eq-eqb}
use Rattle.csv_grammar.specs.Structure.{Role, separator, record_end, inner}
use Rattle.csv_index.specs.Widths.{width_with, uneven_with, record_ended, with_places, role_counted, roles_counted, mask_roles}
use Rattle.csv_index.specs.declared.widths.Widths.{Widths}
use Rattle.csv_index.specs.Reading.{role_places}
use Rattle.csv_index.proofs.Bits.{ones_next, ones_none, ones_rise, ones_most, ones_before, ones_whole, cleared_below, roles_around, IsOne, one_alone}

pub roles_counted-append : (w : Widths) (xs ys : List Role) → roles_counted w (xs ++ ys) ≡ roles_counted (roles_counted w xs) ys
roles_counted-append w [] ys = refl
roles_counted-append w (x ∷ xs) ys = roles_counted-append (role_counted w x) xs ys

-- all structural places are counted
pub places_counted : (w : Widths) (at : ℕ) (roles : List Role) → (roles_counted w roles).places ≡ w.places + length (role_places at roles)
places_counted w at [] = omega arith
places_counted w at (separator ∷ roles) = omega (arith, places_counted (role_counted w separator) (at + 1) roles)
places_counted w at (record_end ∷ roles) = omega (arith, places_counted (role_counted w record_end) (at + 1) roles)
places_counted w at (inner ∷ roles) = places_counted w (at + 1) roles

-- a record begins after some of them, and there are no more records than bytes
pub counted_most : (w : Widths) (roles : List Role) → w.start ≤ w.places
    → ((roles_counted w roles).start ≤ (roles_counted w roles).places) × ((roles_counted w roles).records ≤ w.records + length roles)
counted_most w [] h = (h, omega arith)
counted_most w (separator ∷ roles) h = let m = counted_most (role_counted w separator) roles (omega arith) in (m.0, omega (arith, m.1))
counted_most w (record_end ∷ roles) h = let m = counted_most (role_counted w record_end) roles (omega arith) in (m.0, omega (arith, m.1))
counted_most w (inner ∷ roles) h = let m = counted_most w roles h in (m.0, omega (arith, m.1))

-- a byte that ends no record
one_role : (w : Widths) (s e : ℕ) → s < 2 → e ≡ 0 → role_counted w (cond (e == 1) record_end (cond (s == 1) separator inner)) ≡ with_places w s
one_role w zero e h none = let same : w.places + 0 ≡ w.places = omega arith in rw (none, same) refl
one_role w (suc zero) e h none = rw none refl
one_role w (suc (suc s)) e h none = absurd (omega arith)

-- bytes that end no record
pub no_ends : (ends eol i n : ℕ) (w : Widths) (from to : ℕ) → ((k : ℕ) → i ≤ k → k < i + n → bit_at eol k ≡ 0)
    → from ≡ count_ones (ends % 2 ^ i) → to ≡ count_ones (ends % 2 ^ (i + n)) → roles_counted w (mask_roles ends eol i n) ≡ with_places w (to - from)
unfolding mask_roles
no_ends ends eol i zero w from to none f t =
    let same : i + 0 ≡ i = omega arith in
    let e : w.places + (to - from) ≡ w.places = omega (arith, ap (λ k. count_ones (ends % 2 ^ k)) same) in
    rw e refl
no_ends ends eol i (suc n) w from to none f t =
    let one = ap (λ k. count_ones (ends % 2 ^ k)) (add-one i) ∙ ones_next ends i in
    let next : i + suc n ≡ i + 1 + n = omega arith in
    let last : to ≡ count_ones (ends % 2 ^ (i + 1 + n)) = t ∙ ap (λ k. count_ones (ends % 2 ^ k)) next in
    let rise : count_ones (ends % 2 ^ (i + 1)) ≤ count_ones (ends % 2 ^ (i + 1 + n)) = ones_rise ends (i + 1) n in
    let sum : w.places + bit_at ends i + (to - count_ones (ends % 2 ^ (i + 1))) ≡ w.places + (to - from) = omega (arith, one, rise, last, f) in
    ap (λ v. roles_counted v (mask_roles ends eol (i + 1) n)) (one_role w (bit_at ends i) (bit_at eol i) (bit_at-lt ends i) (none i (omega arith) (omega arith)))
    ∙ no_ends ends eol (i + 1) n (with_places w (bit_at ends i)) (count_ones (ends % 2 ^ (i + 1))) to (λ k h l. none k (omega arith) (omega arith)) refl last
    ∙ ap (λ places. record w { places = places }) sum

-- up to the end of a record
to_end : (ends eol i p : ℕ) (w : Widths) (passed before : ℕ) → i ≤ p → p < 64 → bit_at eol p ≡ 1 → ((k : ℕ) → i ≤ k → k < p → bit_at eol k ≡ 0)
    → passed ≡ count_ones (ends % 2 ^ i) → before ≡ count_ones (ends % 2 ^ p)
    → roles_counted (with_places w passed) (mask_roles ends eol i (64 - i))
    ≡ roles_counted (with_places (record_ended w (w.places + before)) (before + 1)) (mask_roles ends eol (p + 1) (64 - (p + 1)))
to_end ends eol i p w passed before from within set none f t =
    let there : i + (p - i) ≡ p = omega arith in
    let rise : count_ones (ends % 2 ^ i) ≤ count_ones (ends % 2 ^ p) = omega (arith, ones_rise ends i (p - i), ap (λ k. count_ones (ends % 2 ^ k)) there) in
    let sum : w.places + passed + (before - passed) ≡ w.places + before = omega (arith, rise) in
    let next : w.places + before + 1 ≡ w.places + (before + 1) = omega arith in
    ap (roles_counted (with_places w passed)) (roles_around ends eol i (p - i) p (p + 1) (64 - (p + 1)) (64 - i) (omega arith) refl (omega arith) set)
    ∙ roles_counted-append (with_places w passed) (mask_roles ends eol i (p - i)) (record_end ∷ mask_roles ends eol (p + 1) (64 - (p + 1)))
    ∙ ap (λ v. roles_counted (role_counted v record_end) (mask_roles ends eol (p + 1) (64 - (p + 1))))
    (no_ends ends eol i (p - i) (with_places w passed) passed before (λ k h l. none k h (omega arith)) f (t ∙ ap (λ k. count_ones (ends % 2 ^ k)) (sym there)))
    ∙ ap (λ k. roles_counted (role_counted (record w { places = k }) record_end) (mask_roles ends eol (p + 1) (64 - (p + 1)))) sum
    ∙ ap (λ k. roles_counted (record (record_ended w (w.places + before)) { places = k }) (mask_roles ends eol (p + 1) (64 - (p + 1)))) next

-- the bytes before `next` are counted but for their structural places
pub record IsCounting (old now : Widths) (ends eol left : ℕ) : Type 0 where
  pub next : ℕ
  pub most : next ≤ 64
  pub others : (k : ℕ) → next ≤ k → k < 64 → bit_at left k ≡ bit_at eol k
  pub none : (k : ℕ) → k < next → bit_at left k ≡ 0
  pub counts : roles_counted (with_places now (count_ones (ends % 2 ^ next))) (mask_roles ends eol next (64 - next)) ≡ roles_counted old (mask_roles ends eol 0 64)
  pub places : now.places ≡ old.places
  pub start : now.start ≤ now.places + count_ones (ends % 2 ^ next)
  pub records : now.records ≤ old.records + next

not_below : (place next b : ℕ) → b ≡ 1 → (place < next → b ≡ 0) → next ≤ place
not_below place next b set none = grind arith

-- up to the lowest bit that is left
pub counting_more : (old now : Widths) (ends eol left before place : ℕ) → IsCounting old now ends eol left → 0 < left → left < 2 ^ 64
    → place ≡ trailing_zeros w64 left → before ≡ count_ones (bit_and ends (1 * 2 ^ place % 2 ^ 64 - 1))
    → ((k : ℕ) → bit_at eol k ≡ 1 → bit_at ends k ≡ 1)
    → (before ≤ 64) × (now.start ≤ now.places + before) × (now.records ≤ old.records + 63)
    × IsCounting old (record_ended now (now.places + before)) ends eol (bit_and left (bit_not w64 (1 * 2 ^ place % 2 ^ 64)))
counting_more old now ends eol left before place c some small is f within_ends =
    let low = bit_at-trailing_zeros w64 left some small in
    let within : place < 64 = omega (arith, low.0) in
    let set : bit_at left place ≡ 1 = ap (bit_at left) is ∙ low.1 in
    let from : c.next ≤ place = not_below place c.next (bit_at left place) set (c.none place) in
    let ended : bit_at eol place ≡ 1 = sym (c.others place from within) ∙ set in
    let below : (k : ℕ) → k < place → bit_at left k ≡ 0 = λ k h. low.2 k (omega arith) in
    let count : before ≡ count_ones (ends % 2 ^ place) = f ∙ ones_before ends place within in
    let there : c.next + (place - c.next) ≡ place = omega arith in
    let rise : count_ones (ends % 2 ^ c.next) ≤ before = omega (arith, count, ones_rise ends c.next (place - c.next), ap (λ k. count_ones (ends % 2 ^ k)) there) in
    let most : before ≤ place = omega (arith, count, ones_most ends place) in
    let behind : count_ones (ends % 2 ^ (place + 1)) ≡ before + 1 = omega (arith, count, ones_next ends place, ap (λ k. count_ones (ends % 2 ^ k)) (add-one place), within_ends place ended) in (
      omega arith,
      omega (arith, c.start),
      omega (arith, c.records),
      record {
        next = place + 1;
        most = omega arith;
        others = λ k h l. bit_at_clear_other w64 left place within k l (λ e. omega arith) ∙ c.others k (omega arith) l;
        none = λ k h. cleared_below left place k within below (omega arith);
        counts = ap (λ n. roles_counted (with_places (record_ended now (now.places + before)) n) (mask_roles ends eol (place + 1) (64 - (place + 1)))) behind
            ∙ sym (to_end ends eol c.next place now (count_ones (ends % 2 ^ c.next)) before from within ended
            (λ k h l. sym (c.others k h (omega arith)) ∙ below k l) refl count) ∙ c.counts;
        places = c.places;
        start = omega (arith, behind);
        records = omega (arith, c.records);
      },
    )

-- no bit is left
pub counting_all : (old now : Widths) (ends eol left : ℕ) → IsCounting old now ends eol left → left ≡ 0 → ends < 2 ^ 64
    → with_places now (count_ones ends) ≡ roles_counted old (mask_roles ends eol 0 64)
counting_all old now ends eol left c end small =
    let there : c.next + (64 - c.next) ≡ 64 = omega (arith, c.most) in
    let whole : count_ones ends ≡ count_ones (ends % 2 ^ (c.next + (64 - c.next))) = sym (ones_whole ends small) ∙ ap (λ k. count_ones (ends % 2 ^ k)) (sym there) in
    let rise : count_ones (ends % 2 ^ c.next) ≤ count_ones ends = omega (arith, whole, ones_rise ends c.next (64 - c.next)) in
    let sum : now.places + count_ones ends ≡ now.places + count_ones (ends % 2 ^ c.next) + (count_ones ends - count_ones (ends % 2 ^ c.next)) = omega (arith, rise) in
    ap (λ places. record now { places = places }) sum
    ∙ sym (no_ends ends eol c.next (64 - c.next) (with_places now (count_ones (ends % 2 ^ c.next))) (count_ones (ends % 2 ^ c.next)) (count_ones ends)
    (λ k h l. sym (c.others k h (omega arith)) ∙ ap (λ e. bit_at e k) end ∙ bit_at-zero k) refl whole)
    ∙ c.counts

-- ---- one record ends at most

either : (t : Bool) (n : ℕ) → cond t n n ≡ n
either true n = refl
either false n = refl

kept : (t : Bool) (n : ℕ) (uneven other : Option ℕ) → cond (t || (n == n)) uneven other ≡ uneven
kept true n uneven other = refl
kept false n uneven other = rw (eq-eqb n n refl) refl

-- one of the first record's width changes neither that width nor the first row of another
even_ended : (w : Widths) (at : ℕ) → at + 1 - w.start ≡ w.width → record_ended w at ≡ record w { start = at + 1; records = w.records + 1 }
even_ended w at even =
    let width : width_with w (at + 1 - w.start) ≡ w.width = ap (λ f. cond (w.records == 0) f w.width) even ∙ either (w.records == 0) w.width in
    let uneven : uneven_with w (at + 1 - w.start) ≡ w.uneven =
    ap (λ f. cond (is_some w.uneven || (f == width_with w (at + 1 - w.start))) w.uneven (Some (w.records - 1))) (even ∙ sym width)
    ∙ kept (is_some w.uneven) (width_with w (at + 1 - w.start)) w.uneven (Some (w.records - 1)) in
    ap (λ v. record w { start = at + 1; records = w.records + 1; width = v; uneven = uneven_with w (at + 1 - w.start) }) width
    ∙ ap (λ u. record w { start = at + 1; records = w.records + 1; uneven = u }) uneven

-- none ends
none_ended : (w : Widths) (ends eol : ℕ) → ends < 2 ^ 64 → count_ones eol ≡ 0 → roles_counted w (mask_roles ends eol 0 64) ≡ with_places w (count_ones ends)
none_ended w ends eol small none =
    let no : eol ≡ 0 = zero_from_ones eol none in
    let sum : w.places + (count_ones ends - 0) ≡ w.places + count_ones ends = omega arith in
    no_ends ends eol 0 64 w 0 (count_ones ends) (λ k h l. ap (λ e. bit_at e k) no ∙ bit_at-zero k) (sym (ones_none ends)) (sym (ones_whole ends small))
    ∙ ap (λ k. record w { places = k }) sum

-- one ends, at the structural place that has `before` others before it in the block
one_ended : (w : Widths) (ends eol before place : ℕ) → ends < 2 ^ 64 → IsOne eol place → ((k : ℕ) → bit_at eol k ≡ 1 → bit_at ends k ≡ 1)
    → before ≡ count_ones (ends % 2 ^ place) → roles_counted w (mask_roles ends eol 0 64) ≡ with_places (record_ended w (w.places + before)) (count_ones ends)
one_ended w ends eol before place small one within is =
    let set : bit_at eol place ≡ 1 = ap (λ e. bit_at e place) one.is ∙ bit_at-pow_same place in
    let other : (k : ℕ) → k ≢ place → bit_at eol k ≡ 0 = λ k ne. ap (λ e. bit_at e k) one.is ∙ bit_at-pow_other place k ne in
    let there : place + 1 + (64 - (place + 1)) ≡ 64 = omega (arith, one.within) in
    let passed : count_ones (ends % 2 ^ (place + 1)) ≡ before + 1 =
    omega (arith, is, ones_next ends place, ap (λ k. count_ones (ends % 2 ^ k)) (add-one place), within place set) in
    let whole : count_ones ends ≡ count_ones (ends % 2 ^ (place + 1 + (64 - (place + 1)))) = sym (ones_whole ends small) ∙ ap (λ k. count_ones (ends % 2 ^ k)) (sym there) in
    let rise : before + 1 ≤ count_ones ends = omega (arith, passed, whole, ones_rise ends (place + 1) (64 - (place + 1))) in
    let none : w.places + 0 ≡ w.places = omega arith in
    let sum : w.places + (before + 1) + (count_ones ends - (before + 1)) ≡ w.places + count_ones ends = omega (arith, rise) in
    ap (λ k. roles_counted (record w { places = k }) (mask_roles ends eol 0 64)) (sym none)
    ∙ to_end ends eol 0 place w 0 before (omega arith) one.within set (λ k h l. other k (omega arith)) (sym (ones_none ends)) is
    ∙ no_ends ends eol (place + 1) (64 - (place + 1)) (with_places (record_ended w (w.places + before)) (before + 1)) (before + 1) (count_ones ends)
    (λ k h l. other k (omega arith)) (sym passed) whole
    ∙ ap (λ k. record (record_ended w (w.places + before)) { places = k }) sum

times_one : (n : ℕ) → 1 * n ≡ n
times_one n = omega arith

-- so the counts go on as the code has them
pub most_one_ended : (w : Widths) (ends eol fields : ℕ) → w.start ≤ w.places → ends < 2 ^ 64 → eol < 2 ^ 64 → ((k : ℕ) → bit_at eol k ≡ 1 → bit_at ends k ≡ 1)
    → count_ones eol ≤ 1 → fields ≡ w.places + count_ones (bit_and ends ((eol + 18446744073709551615) % 18446744073709551616)) + 1 - w.start
    → count_ones eol * fields ≡ count_ones eol * w.width
    → record w { places = w.places + count_ones ends; start = w.start + count_ones eol * w.width; records = w.records + count_ones eol }
    ≡ roles_counted w (mask_roles ends eol 0 64)
most_one_ended w ends eol fields start small low within most is same = on (count_ones eol) refl
  where
    on : (n : ℕ) → count_ones eol ≡ n → record w { places = w.places + count_ones ends; start = w.start + count_ones eol * w.width; records = w.records + count_ones eol }
        ≡ roles_counted w (mask_roles ends eol 0 64)
    on zero e =
        let s : w.start + count_ones eol * w.width ≡ w.start = ap (λ n. w.start + n * w.width) e ∙ omega arith in
        let r : w.records + count_ones eol ≡ w.records = omega (arith, e) in
        ap (λ k. record w { places = w.places + count_ones ends; start = k; records = w.records + count_ones eol }) s
        ∙ ap (λ k. record w { places = w.places + count_ones ends; records = k }) r
        ∙ sym (none_ended w ends eol small e)
    on (suc zero) e =
        let place : ℕ = trailing_zeros w64 eol in
        let one = one_alone eol low e in
        let positive : 0 < 2 ^ place = pow_pos place in
        let mask : (eol + 18446744073709551615) % 18446744073709551616 ≡ 2 ^ place - 1 = omega (arith, one.is, positive, low) in
        let before : ℕ = count_ones (bit_and ends ((eol + 18446744073709551615) % 18446744073709551616)) in
        let count : before ≡ count_ones (ends % 2 ^ place) = ap (λ m. count_ones (bit_and ends m)) mask ∙ ap count_ones (and_mask ends place) in
        let even : w.places + before + 1 - w.start ≡ w.width =
        sym is ∙ sym (times_one fields) ∙ ap (λ n. n * fields) (sym e) ∙ same ∙ ap (λ n. n * w.width) e ∙ times_one w.width in
        let s : w.start + count_ones eol * w.width ≡ w.places + before + 1 =
        ap (λ n. w.start + n * w.width) e ∙ omega (arith, even, start) in
        let r : w.records + count_ones eol ≡ w.records + 1 = omega (arith, e) in
        ap (λ k. record w { places = w.places + count_ones ends; start = k; records = w.records + count_ones eol }) s
        ∙ ap (λ k. record w { places = w.places + count_ones ends; start = w.places + before + 1; records = k }) r
        ∙ ap (λ v. with_places v (count_ones ends)) (sym (even_ended w (w.places + before) even))
        ∙ sym (one_ended w ends eol before place small one within count)
    on (suc (suc n)) e = absurd (omega arith)

-- and stay within a word
pub ended_within : (w : Widths) (records fields : ℕ) → records ≤ 1 → records * fields ≡ records * w.width → w.start + fields < 2 ^ 64 → w.start + records * w.width < 2 ^ 64
ended_within w zero fields most same room = let none : w.start + zero * w.width ≤ w.start + fields = omega arith in omega (arith, none)
ended_within w (suc zero) fields most same room = let s : suc zero * w.width ≡ fields = sym same ∙ times_one fields in omega (arith, s)
ended_within w (suc (suc n)) fields most same room = absurd (omega arith)
