-- The places that are left, one after another.
use Rattle.std.proofs.Common.{◌≡◌, ℕ, ◌+◌, ◌-◌, ◌*◌, ◌%◌, ◌^◌, ◌<◌, List, [], ◌∷◌, ◌++◌, append_assoc, Option, None, Some, refl, sym, ap, ◌∙◌, arith, bit_and, w64}
use Rattle.std.specs.Option.{MatchOption}
use Rattle.std.specs.Int.{bit_at, bit_not, trailing_zeros}
use Rattle.std.proofs.lemmas.Nat.Bits.{bit_at-trailing_zeros, bit_at_clear_other, bit_at-zero}
use Rattle.csv_index.specs.Blocks.{set_places}
use Rattle.csv_index.specs.Structure.{ends_of}
use Rattle.csv_index.proofs.Bits.{places_split, places_same, places_none, places_around, cleared_below}

-- where no bit is left, the next block's are
pub ends_next : (base word : ℕ) (block : ℕ) (rest : List ℕ) (last : Option ℕ) → word ≡ 0
    → set_places base word 0 64 ++ ends_of (base + 64) (block ∷ rest) last ≡ set_places (base + 64) block 0 64 ++ ends_of (base + 64 + 64) rest last
ends_next base word block rest last none =
    ap (λ l. l ++ ends_of (base + 64) (block ∷ rest) last) (places_none base word 0 64 (λ k h l. ap (λ w. bit_at w k) none ∙ bit_at-zero k))
    ∙ append_assoc (set_places (base + 64) block 0 64) _ _

-- where no bit is left and no block is, there is the last end alone
pub ends_last : (base word : ℕ) (last : Option ℕ) → word ≡ 0 → set_places base word 0 64 ++ ends_of (base + 64) [] last ≡ ends_of (base + 64) [] last
ends_last base word last none =
    ap (λ l. l ++ ends_of (base + 64) [] last) (places_none base word 0 64 (λ k h l. ap (λ w. bit_at w k) none ∙ bit_at-zero k))

-- where bits are left, the lowest is the next place
pub ends_lowest : (base word place : ℕ) → 0 < word → word < 2 ^ 64 → place ≡ trailing_zeros w64 word
    → set_places base word 0 64 ≡ (base + place) ∷ set_places base (bit_and word (bit_not w64 (1 * 2 ^ place % 2 ^ 64))) 0 64
ends_lowest base word place some small is =
    let low = bit_at-trailing_zeros w64 word some small in
    let within : place < 64 = omega (arith, low.0) in
    let set : bit_at word place ≡ 1 = ap (bit_at word) is ∙ low.1 in
    let below : (k : ℕ) → k < place → bit_at word k ≡ 0 = λ k h. low.2 k (omega arith) in
    let cleared : ℕ = bit_and word (bit_not w64 (1 * 2 ^ place % 2 ^ 64)) in
    places_around base word 0 place place (place + 1) (63 - place) 64 (omega arith) refl (omega arith) set
    ∙ ap (λ l. l ++ (base + place) ∷ set_places base word (place + 1) (63 - place)) (places_none base word 0 place (λ k h l. below k (omega arith)))
    ∙ ap (λ l. (base + place) ∷ l)
    (sym (places_split base cleared 0 (place + 1) (place + 1) (63 - place) 64 (omega arith) (omega arith)
    ∙ ap (λ l. l ++ set_places base cleared (place + 1) (63 - place))
    (places_none base cleared 0 (place + 1) (λ k h l. cleared_below word place k within below (omega arith)))
    ∙ places_same base cleared word (place + 1) (63 - place) (λ k h l. bit_at_clear_other w64 word place within k (omega arith) (λ e. omega arith))))

-- where nothing but the last end is left, that is taken
pub last_taken : (old : List ℕ) (base word : ℕ) (rest : List ℕ) (last taken after : Option ℕ)
    → set_places base word 0 64 ++ ends_of (base + 64) rest last ≡ old → word ≡ 0 → rest ≡ [] → taken ≡ last → after ≡ None
    → MatchOption taken ((old ≡ []) × (set_places base word 0 64 ++ ends_of (base + 64) rest after ≡ []))
    (λ end. old ≡ end ∷ (set_places base word 0 64 ++ ends_of (base + 64) rest after))
last_taken old base word rest last taken after left none all is gone = on last taken left is
  where
    empty : set_places base word 0 64 ++ ends_of (base + 64) rest after ≡ []
    empty = rw (all, gone) (ends_last base word None none)

    on : (l t : Option ℕ) → set_places base word 0 64 ++ ends_of (base + 64) rest l ≡ old → t ≡ l
        → MatchOption t ((old ≡ []) × (set_places base word 0 64 ++ ends_of (base + 64) rest after ≡ []))
        (λ end. old ≡ end ∷ (set_places base word 0 64 ++ ends_of (base + 64) rest after))
    on None t e same = rw same (sym e ∙ ap (λ r. set_places base word 0 64 ++ ends_of (base + 64) r None) all ∙ ends_last base word None none, empty)
    on (Some end) t e same =
        rw same (sym e ∙ ap (λ r. set_places base word 0 64 ++ ends_of (base + 64) r (Some end)) all ∙ ends_last base word (Some end) none ∙ ap (λ l. end ∷ l) (sym empty))
