-- Texts in the order of their bytes are in the order of their characters.
use Rattle.std.proofs.Common.{◌≡◌, ℕ, ◌+◌, ◌/◌, ◌%◌, ◌<◌, ◌≤◌, true, cond, List, [], ◌∷◌, ◌++◌, refl, sym, ap, ap₂, ◌∙◌, arith, nat_lt}
use Rattle.std.specs.Cmp.Lexicographic.{slice_cmp}
use Rattle.std.specs.Ordering.{MatchOrdering, nat_cmp, ordering_then}
use Rattle.std.specs.Str.{IsUtf8, chars}
use Rattle.std.specs.declared.cmp.Ordering.{Ordering}
use Rattle.std.specs.declared.cmp.Ordering.TheVariants.{Less, Equal, Greater}
use Rattle.std.proofs.Math.Utf8.{encode, encodes, scalar, scalars}
use Rattle.std.proofs.lemmas.Bool.{and_parts, cond_both, ltb-true, ltb-false}
use Rattle.std.proofs.lemmas.Bool.Decides.{nat_tests}
use Rattle.std.proofs.lemmas.Cmp.{ranked}
use Rattle.std.proofs.lemmas.Str.{encodes-chars, scalars-chars}
use borrow.Table.Char.{scalar_below}

-- ---- numbers

cmp-lt : (m n : ℕ) → m < n → nat_cmp m n ≡ Less
cmp-lt m n lt = grind (arith, nat_tests)

cmp-gt : (m n : ℕ) → n < m → nat_cmp m n ≡ Greater
cmp-gt m n gt = grind (arith, nat_tests)

cmp-same : (m n : ℕ) → m ≡ n → nat_cmp m n ≡ Equal
cmp-same m n e = grind (arith, nat_tests)

cmp-shift : (k m n : ℕ) → nat_cmp (k + m) (k + n) ≡ nat_cmp m n
cmp-shift k m n = grind (arith, nat_tests)

-- where the quotients by 64 are one, the remainders decide
cmp-rest : (c d : ℕ) → c / 64 ≡ d / 64 → (o : Ordering) → MatchOrdering o (c % 64 < d % 64) (c % 64 ≡ d % 64) (d % 64 < c % 64) → o ≡ nat_cmp c d
cmp-rest c d e Less h = sym (cmp-lt c d (omega (arith, e, h)))
cmp-rest c d e Equal h = sym (cmp-same c d (omega (arith, e, h)))
cmp-rest c d e Greater h = sym (cmp-gt c d (omega (arith, e, h)))

-- quotients by 64, and then remainders, are in the order of the numbers
split_at : (c d : ℕ) (r o : Ordering) → MatchOrdering o (c / 64 < d / 64) (c / 64 ≡ d / 64) (d / 64 < c / 64)
    → ordering_then o (ordering_then (nat_cmp (c % 64) (d % 64)) r) ≡ ordering_then (nat_cmp c d) r
split_at c d r Less h = sym (ap (λ o. ordering_then o r) (cmp-lt c d (omega (arith, h))))
split_at c d r Equal h = ap (λ o. ordering_then o r) (cmp-rest c d h (nat_cmp (c % 64) (d % 64)) (ranked (c % 64) (d % 64) _ refl))
split_at c d r Greater h = sym (ap (λ o. ordering_then o r) (cmp-gt c d (omega (arith, h))))

-- one byte more, which has six bits
six_bits : (c d : ℕ) (r : Ordering) → ordering_then (nat_cmp (c / 64) (d / 64)) (ordering_then (nat_cmp (128 + c % 64) (128 + d % 64)) r) ≡ ordering_then (nat_cmp c d) r
six_bits c d r =
    ap (λ o. ordering_then (nat_cmp (c / 64) (d / 64)) (ordering_then o r)) (cmp-shift 128 (c % 64) (d % 64))
    ∙ split_at c d r (nat_cmp (c / 64) (d / 64)) (ranked (c / 64) (d / 64) _ refl)

-- ---- characters

two_bytes : (c d : ℕ) (r : Ordering) → ordering_then (nat_cmp (192 + c / 64) (192 + d / 64)) (ordering_then (nat_cmp (128 + c % 64) (128 + d % 64)) r)
    ≡ ordering_then (nat_cmp c d) r
two_bytes c d r = ap (λ o. ordering_then o (ordering_then (nat_cmp (128 + c % 64) (128 + d % 64)) r)) (cmp-shift 192 (c / 64) (d / 64)) ∙ six_bits c d r

three_bytes : (c d : ℕ) (r : Ordering)
    → ordering_then (nat_cmp (224 + c / 4096) (224 + d / 4096)) (ordering_then (nat_cmp (128 + c / 64 % 64) (128 + d / 64 % 64)) (ordering_then (nat_cmp (128 + c % 64) (128 + d % 64)) r))
    ≡ ordering_then (nat_cmp c d) r
three_bytes c d r =
    let high : c / 4096 ≡ c / 64 / 64 = omega arith in
    let other : d / 4096 ≡ d / 64 / 64 = omega arith in
    let low = ordering_then (nat_cmp (128 + c % 64) (128 + d % 64)) r in
    ap (λ o. ordering_then o (ordering_then (nat_cmp (128 + c / 64 % 64) (128 + d / 64 % 64)) low)) (cmp-shift 224 (c / 4096) (d / 4096) ∙ ap₂ nat_cmp high other)
    ∙ six_bits (c / 64) (d / 64) low ∙ six_bits c d r

four_bytes : (c d : ℕ) (r : Ordering)
    → ordering_then (nat_cmp (240 + c / 262144) (240 + d / 262144)) (ordering_then (nat_cmp (128 + c / 4096 % 64) (128 + d / 4096 % 64))
    (ordering_then (nat_cmp (128 + c / 64 % 64) (128 + d / 64 % 64)) (ordering_then (nat_cmp (128 + c % 64) (128 + d % 64)) r)))
    ≡ ordering_then (nat_cmp c d) r
four_bytes c d r =
    let high : c / 262144 ≡ c / 4096 / 64 = omega arith in
    let other : d / 262144 ≡ d / 4096 / 64 = omega arith in
    let high_2 : c / 4096 ≡ c / 64 / 64 = omega arith in
    let other_2 : d / 4096 ≡ d / 64 / 64 = omega arith in
    let low = ordering_then (nat_cmp (128 + c % 64) (128 + d % 64)) r in
    let mid = ordering_then (nat_cmp (128 + c / 64 % 64) (128 + d / 64 % 64)) low in
    ap (λ o. ordering_then o (ordering_then (nat_cmp (128 + c / 4096 % 64) (128 + d / 4096 % 64)) mid)) (cmp-shift 240 (c / 262144) (d / 262144) ∙ ap₂ nat_cmp high other)
    ∙ six_bits (c / 4096) (d / 4096) mid ∙ ap (λ o. ordering_then o mid) (ap₂ nat_cmp high_2 other_2)
    ∙ six_bits (c / 64) (d / 64) low ∙ six_bits c d r

-- the bytes of a character by how many there are
encode_by : (c : ℕ) (P : List ℕ → Type 0) → (c < 128 → P (c ∷ [])) → (128 ≤ c → c < 2048 → P ((192 + c / 64) ∷ (128 + c % 64) ∷ []))
    → (2048 ≤ c → c < 65536 → P ((224 + c / 4096) ∷ (128 + c / 64 % 64) ∷ (128 + c % 64) ∷ []))
    → (65536 ≤ c → P ((240 + c / 262144) ∷ (128 + c / 4096 % 64) ∷ (128 + c / 64 % 64) ∷ (128 + c % 64) ∷ [])) → P (encode c)
unfolding encode
encode_by c P one two three four =
    let rest_2 = (240 + c / 262144) ∷ (128 + c / 4096 % 64) ∷ (128 + c / 64 % 64) ∷ (128 + c % 64) ∷ [] in
    let three_way = (224 + c / 4096) ∷ (128 + c / 64 % 64) ∷ (128 + c % 64) ∷ [] in
    let two_way = (192 + c / 64) ∷ (128 + c % 64) ∷ [] in
    cond_both (nat_lt c 128) (c ∷ []) (cond (nat_lt c 2048) two_way (cond (nat_lt c 65536) three_way rest_2)) P
    (λ t. one (ltb-true c 128 t))
    (λ f. cond_both (nat_lt c 2048) two_way (cond (nat_lt c 65536) three_way rest_2) P
    (λ t. two (ltb-false c 128 f) (ltb-true c 2048 t))
    (λ g. cond_both (nat_lt c 65536) three_way rest_2 P (λ t. three (ltb-false c 2048 g) (ltb-true c 65536 t)) (λ h. four (ltb-false c 65536 h))))

-- first bytes that are in the order of the characters
less : (a b c d : ℕ) (r s : Ordering) → a < b → c < d → ordering_then (nat_cmp a b) r ≡ ordering_then (nat_cmp c d) s
less a b c d r s h g = ap (λ o. ordering_then o r) (cmp-lt a b h) ∙ sym (ap (λ o. ordering_then o s) (cmp-lt c d g))

greater : (a b c d : ℕ) (r s : Ordering) → b < a → d < c → ordering_then (nat_cmp a b) r ≡ ordering_then (nat_cmp c d) s
greater a b c d r s h g = ap (λ o. ordering_then o r) (cmp-gt a b h) ∙ sym (ap (λ o. ordering_then o s) (cmp-gt c d g))

char_cmp : (c d : ℕ) (xs ys : List ℕ) → c < 1114112 → d < 1114112
    → slice_cmp nat_cmp (encode c ++ xs) (encode d ++ ys) ≡ ordering_then (nat_cmp c d) (slice_cmp nat_cmp xs ys)
char_cmp c d xs ys c_small d_small =
    let r = slice_cmp nat_cmp xs ys in
    let By : List ℕ → Type 0 = λ bs. slice_cmp nat_cmp (bs ++ xs) (encode d ++ ys) ≡ ordering_then (nat_cmp c d) r in
    encode_by c By
    (λ lt. encode_by d (λ bs. slice_cmp nat_cmp ((c ∷ []) ++ xs) (bs ++ ys) ≡ ordering_then (nat_cmp c d) r)
    (λ _. refl)
    (λ low _. less c (192 + d / 64) c d _ r (omega arith) (omega arith))
    (λ low _. less c (224 + d / 4096) c d _ r (omega arith) (omega arith))
    (λ low. less c (240 + d / 262144) c d _ r (omega arith) (omega arith)))
    (λ ge lt. encode_by d (λ bs. slice_cmp nat_cmp (((192 + c / 64) ∷ (128 + c % 64) ∷ []) ++ xs) (bs ++ ys) ≡ ordering_then (nat_cmp c d) r)
    (λ high. greater (192 + c / 64) d c d _ r (omega arith) (omega arith))
    (λ _ _. two_bytes c d r)
    (λ low _. less (192 + c / 64) (224 + d / 4096) c d _ r (omega arith) (omega arith))
    (λ low. less (192 + c / 64) (240 + d / 262144) c d _ r (omega arith) (omega arith)))
    (λ ge lt. encode_by d (λ bs. slice_cmp nat_cmp (((224 + c / 4096) ∷ (128 + c / 64 % 64) ∷ (128 + c % 64) ∷ []) ++ xs) (bs ++ ys) ≡ ordering_then (nat_cmp c d) r)
    (λ high. greater (224 + c / 4096) d c d _ r (omega arith) (omega arith))
    (λ _ high. greater (224 + c / 4096) (192 + d / 64) c d _ r (omega arith) (omega arith))
    (λ _ _. three_bytes c d r)
    (λ low. less (224 + c / 4096) (240 + d / 262144) c d _ r (omega arith) (omega arith)))
    (λ ge. encode_by d (λ bs. slice_cmp nat_cmp (((240 + c / 262144) ∷ (128 + c / 4096 % 64) ∷ (128 + c / 64 % 64) ∷ (128 + c % 64) ∷ []) ++ xs) (bs ++ ys) ≡ ordering_then (nat_cmp c d) r)
    (λ high. greater (240 + c / 262144) d c d _ r (omega arith) (omega arith))
    (λ _ high. greater (240 + c / 262144) (192 + d / 64) c d _ r (omega arith) (omega arith))
    (λ _ high. greater (240 + c / 262144) (224 + d / 4096) c d _ r (omega arith) (omega arith))
    (λ _. four_bytes c d r))

-- ---- texts

none_first : (d : ℕ) (ys : List ℕ) → slice_cmp nat_cmp [] (encode d ++ ys) ≡ Less
none_first d ys = encode_by d (λ bs. slice_cmp nat_cmp [] (bs ++ ys) ≡ Less) (λ _. refl) (λ _ _. refl) (λ _ _. refl) (λ _. refl)

none_second : (c : ℕ) (xs : List ℕ) → slice_cmp nat_cmp (encode c ++ xs) [] ≡ Greater
none_second c xs = encode_by c (λ bs. slice_cmp nat_cmp (bs ++ xs) [] ≡ Greater) (λ _. refl) (λ _ _. refl) (λ _ _. refl) (λ _. refl)

encodes-cmp : (cs ds : List ℕ) → scalars cs ≡ true → scalars ds ≡ true → slice_cmp nat_cmp (encodes cs) (encodes ds) ≡ slice_cmp nat_cmp cs ds
encodes-cmp [] [] p q = refl
encodes-cmp [] (d ∷ ds) p q = none_first d (encodes ds)
encodes-cmp (c ∷ cs) [] p q = none_second c (encodes cs)
encodes-cmp (c ∷ cs) (d ∷ ds) p q =
    let c_is = and_parts (scalar c) (scalars cs) p in
    let d_is = and_parts (scalar d) (scalars ds) q in
    char_cmp c d (encodes cs) (encodes ds) (scalar_below c c_is.0) (scalar_below d d_is.0) ∙ ap (ordering_then (nat_cmp c d)) (encodes-cmp cs ds c_is.1 d_is.1)

pub texts-cmp : (s t : List ℕ) → IsUtf8 s → IsUtf8 t → slice_cmp nat_cmp s t ≡ slice_cmp nat_cmp (chars s) (chars t)
texts-cmp s t p q =
    ap₂ (slice_cmp nat_cmp) (sym (encodes-chars s p)) (sym (encodes-chars t q)) ∙ encodes-cmp (chars s) (chars t) (scalars-chars s p) (scalars-chars t q)
