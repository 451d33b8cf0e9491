-- The kind of a last byte by its tests, and what the tests say of what may follow.
use Rattle.std.proofs.Common.{◌≡◌, ℕ, Bool, true, false, not, ◌&&◌, ◌||◌, if◌then◌else◌, ◌==◌, refl, inl, inr, ne_eqb}
use Rattle.std.proofs.lemmas.Bool.{cases_eq}
use Rattle.csv_grammar.specs.Bytes.{double_quote, comma, carriage_return, line_feed}
use Rattle.csv_grammar.specs.Following.{LastByte, a_carriage_return, a_plain, byte_kind, may_follow_outside, may_end_outside}
use Rattle.quote_parity.specs.Kinds.{kind_of_tests}

-- the kind of a byte, by the tests that the words have
pub byte_kinds : (x : ℕ) → byte_kind x ≡ kind_of_tests ((x == comma) || (x == line_feed)) (x == double_quote) (x == carriage_return)
byte_kinds x =
    elim (cases_eq x comma) [
      | inl is ↦ rw is refl
      | inr c ↦
          let c' = ne_eqb x comma c in
          elim (cases_eq x line_feed) [
            | inl is ↦ rw is refl
            | inr l ↦
                let l' = ne_eqb x line_feed l in
                elim (cases_eq x double_quote) [
                  | inl is ↦ rw is refl
                  | inr q ↦ let q' = ne_eqb x double_quote q in rw (c', l', q') (last (x == carriage_return))
                ]
          ]
    ]
  where
    last : (r : Bool) → (let k : LastByte = if r then a_carriage_return else a_plain in k) ≡ kind_of_tests false false r
    last true = refl
    last false = refl

-- ---- what may follow

-- which bytes are faults after a last byte of these tests
abbrev pub is_fault : Bool → Bool → Bool → Bool → ℕ → Bool
is_fault outside start quote cr x =
    outside && (((cr && not (x == line_feed)) || ((x == double_quote) && not (quote || start)))
    || (quote && not (((x == double_quote) || ((x == comma) || (x == line_feed))) || (x == carriage_return))))

-- after a CR any but LF
cr_faults : (start quote : Bool) (x : ℕ) → is_fault true start quote true x ≡ not (x == line_feed)
cr_faults start quote x =
    elim (cases_eq x line_feed) [
      | inl is ↦ rw is (closed quote)
      | inr other ↦ rw (ne_eqb x line_feed other) refl
    ]
  where
    closed : (q : Bool) → (q && false) ≡ false
    closed true = refl
    closed false = refl

-- after a double quote any that is plain
quote_faults : (start q c l r : Bool)
    → ((q && false) || not ((q || (c || l)) || r)) ≡ not (not (not (q || c || r || l)))
quote_faults start true c l r = refl
quote_faults start false true l r = refl
quote_faults start false false true true = refl
quote_faults start false false true false = refl
quote_faults start false false false true = refl
quote_faults start false false false false = refl

-- else a double quote, but not at the start of a field
start_faults : (q : Bool) → ((q && false) || false) ≡ false
start_faults true = refl
start_faults false = refl

plain_faults : (q : Bool) → ((q && true) || false) ≡ not (not q)
plain_faults true = refl
plain_faults false = refl

pub faults : (inside start quote cr : Bool) (x : ℕ)
    → is_fault (not inside && true) start quote cr x ≡ not (if inside then true else may_follow_outside (kind_of_tests start quote cr) x)
faults true start quote cr x = refl
faults false start quote true x = cr_faults start quote x
faults false start true false x = quote_faults start (x == double_quote) (x == comma) (x == line_feed) (x == carriage_return)
faults false true false false x = start_faults (x == double_quote)
faults false false false false x = plain_faults (x == double_quote)

-- ---- where a text may end

pub end_tests : (inside start quote cr : Bool) → (if inside then not true else may_end_outside (kind_of_tests start quote cr)) ≡ not (inside || cr)
end_tests true start quote cr = refl
end_tests false start quote true = refl
end_tests false start true false = refl
end_tests false true false false = refl
end_tests false false false false = refl
