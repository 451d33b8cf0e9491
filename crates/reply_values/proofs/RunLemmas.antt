-- Runs of bytes that stand for themselves.
use Rattle.std.proofs.Common.{◌≡◌, ℕ, ◌+◌, Bool, true, false, ◌||◌, ◌==◌, cond, not, List, [], ◌∷◌, ◌++◌, length, take, drop, refl, sym, ap, ◌∙◌, arith, append_assoc, tests, length-append}
use Rattle.std.specs.List.{flat_map, list_any, position_or_len}
use Rattle.std.proofs.lemmas.List.{take-append-drop, take_all, append-nil, nil_from_length}
use Rattle.std.proofs.lemmas.List.Concat.{flat_map-append}
use Rattle.std.proofs.lemmas.Bool.{eqb-true}
use Rattle.reply_values.proofs.BlockLemmas.{none_is_past}
use Rattle.csv_grammar.specs.Records.{doubled, print_field, quoted, unquoted}
use Rattle.json.specs.Print.{escape_byte}
use Rattle.json.proofs.Printed.Strings.{escape_byte_plain}
use Rattle.reply_values.specs.Printed.{is_plain_text, printed_byte, needs_more, needs_quotes, printed_text}
use Rattle.reply_values.specs.Size.{told}

escaped_plain : (json : Bool) (b : ℕ) → needs_more json b ≡ false → printed_byte json b ≡ b ∷ []
escaped_plain true b h = escape_byte_plain b (λ e. grind (arith, tests, e)) (λ e. grind (arith, tests, e)) (grind (arith, tests))
escaped_plain false b h = grind (arith, tests)

flat_map_plain_from : (json : Bool) (b : ℕ) (bs : List ℕ) (test : Bool) → needs_more json b ≡ test → (n : ℕ) → flat_map (printed_byte json) (take n bs) ≡ take n bs
    → flat_map (printed_byte json) (take (cond (not test) (1 + n) 0) (b ∷ bs)) ≡ take (cond (not test) (1 + n) 0) (b ∷ bs)
flat_map_plain_from json b bs true e n h = refl
flat_map_plain_from json b bs false e n h =
    let more : take (1 + n) (b ∷ bs) ≡ b ∷ take n bs = grind arith in rw (more, escaped_plain json b e, h) refl

abbrev pub run_of : Bool → List ℕ → ℕ
run_of json bs = position_or_len (needs_more json) bs

-- what stands before the first byte that does not stand for itself
pub plain_run : (json : Bool) (bs : List ℕ) → flat_map (printed_byte json) (take (run_of json bs) bs) ≡ take (run_of json bs) bs
plain_run json [] = refl
plain_run json (b ∷ bs) = flat_map_plain_from json b bs (needs_more json b) refl (run_of json bs) (plain_run json bs)

plain_then_whole : (json : Bool) (bs : List ℕ) → is_plain_text json bs ≡ true → run_of json bs ≡ length bs
plain_then_whole json bs plain = eqb-true (run_of json bs) (length bs) (sym (none_is_past (needs_more json) bs) ∙ plain)

-- a text each byte of which stands for itself does so
pub all_plain : (json : Bool) (bs : List ℕ) → is_plain_text json bs ≡ true → flat_map (printed_byte json) bs ≡ bs
all_plain json bs plain =
    let front : take (run_of json bs) bs ≡ bs = take_all (run_of json bs) bs (omega (arith, plain_then_whole json bs plain)) in rw front at (plain_run json bs)

doubled_same : (bytes : List ℕ) → flat_map (printed_byte false) bytes ≡ doubled bytes
doubled_same [] = refl
doubled_same (b ∷ bytes) = by (b == 34) (doubled_same bytes)
  where
    by : (t : Bool) → flat_map (printed_byte false) bytes ≡ doubled bytes
        → cond t (34 ∷ 34 ∷ []) (b ∷ []) ++ flat_map (printed_byte false) bytes ≡ cond t (34 ∷ 34 ∷ doubled bytes) (b ∷ doubled bytes)
    by true same = ap (λ w. 34 ∷ 34 ∷ w) same
    by false same = ap (λ w. b ∷ w) same

-- and is as long, with its double quotes
pub plain_long : (json : Bool) (bytes : List ℕ) → is_plain_text json bytes ≡ true
    → length (printed_text json bytes) ≡ cond (json || (length bytes == 0)) (length bytes + 2) (length bytes)
plain_long true bytes plain = omega (arith, ap length (all_plain true bytes plain), length-append (flat_map escape_byte bytes) (34 ∷ []))
plain_long false bytes plain = by (length bytes == 0) (list_any (needs_more false) bytes) plain (ap length (sym (doubled_same bytes) ∙ all_plain false bytes plain))
  where
    by : (empty some : Bool) → not some ≡ true → length (doubled bytes) ≡ length bytes
        → length (print_field (cond (empty || some) (quoted bytes) (unquoted bytes))) ≡ cond empty (length bytes + 2) (length bytes)
    by true some plain inside = omega (arith, inside, length-append (doubled bytes) (34 ∷ []))
    by false true plain inside = cc
    by false false plain inside = refl

run_and_rest : (json : Bool) (bs : List ℕ) → flat_map (printed_byte json) bs ≡ take (run_of json bs) bs ++ flat_map (printed_byte json) (drop (run_of json bs) bs)
run_and_rest json bs =
    let whole = take-append-drop (run_of json bs) bs in
    ap (flat_map (printed_byte json)) (sym whole) ∙ flat_map-append (printed_byte json) (take (run_of json bs) bs) (drop (run_of json bs) bs)
    ∙ ap (λ run. run ++ flat_map (printed_byte json) (drop (run_of json bs) bs)) (plain_run json bs)

-- ---- a run is written, and what follows it is left

write_run : (json : Bool) (out rest run tail whole : List ℕ) (k : ℕ) → k ≡ run_of json rest → run ≡ take k rest → tail ≡ drop k rest → out ++ flat_map (printed_byte json) rest ≡ whole
    → (out ++ run) ++ flat_map (printed_byte json) tail ≡ whole
write_run json out rest run tail whole k place front back before = rw (append_assoc, front, back, place, ← run_and_rest json rest) before

pub write_last : (json : Bool) (out rest run tail whole now : List ℕ) (k : ℕ) → k ≡ run_of json rest → run ≡ take k rest → tail ≡ drop k rest → out ++ flat_map (printed_byte json) rest ≡ whole
    → length tail ≡ 0 → now ≡ out ++ run → now ≡ whole
write_last json out rest run tail whole now k place front back before empty items =
    let step : (out ++ run) ++ flat_map (printed_byte json) tail ≡ whole = write_run json out rest run tail whole k place front back before in
    items ∙ sym (append-nil (out ++ run)) ∙ rw (nil_from_length tail empty) at step

pub write_more : (json : Bool) (out rest run tail whole between now others : List ℕ) (byte k : ℕ) → k ≡ run_of json rest → run ≡ take k rest → tail ≡ drop k rest
    → out ++ flat_map (printed_byte json) rest ≡ whole → tail ≡ byte ∷ others → between ≡ out ++ run → now ≡ between ++ printed_byte json byte → now ++ flat_map (printed_byte json) others ≡ whole
write_more json out rest run tail whole between now others byte k place front back before cases items after =
    let step : (out ++ run) ++ flat_map (printed_byte json) tail ≡ whole = write_run json out rest run tail whole k place front back before in
    rw (after, items, append_assoc) (rw cases at step)

-- ---- a run is counted, and what follows it is left

pub run_counted : (json : Bool) (rest run tail : List ℕ) (k : ℕ) → k ≡ run_of json rest → run ≡ take k rest → tail ≡ drop k rest
    → length (flat_map (printed_byte json) rest) ≡ length run + length (flat_map (printed_byte json) tail)
run_counted json rest run tail k place front back =
    rw (front, back, place) (ap length (run_and_rest json rest) ∙ length-append (take (run_of json rest) rest) (flat_map (printed_byte json) (drop (run_of json rest) rest)))

pub last_run : (json : Bool) (rest run tail : List ℕ) (k size mid whole : ℕ) → k ≡ run_of json rest → run ≡ take k rest → tail ≡ drop k rest
    → told (size + length (flat_map (printed_byte json) rest)) ≡ whole → mid ≡ told (size + length run) → length tail ≡ 0 → mid ≡ whole
last_run json rest run [] k size mid whole place front back before mid_is empty = omega (arith, run_counted json rest run [] k place front back, before, mid_is)
last_run json rest run (byte ∷ tail) k size mid whole place front back before mid_is empty = absurd (omega (arith, empty))

-- the run and the byte after it are counted, and what follows them is left
pub byte_counted : (json : Bool) (rest run tail others : List ℕ) (byte k : ℕ) → k ≡ run_of json rest → run ≡ take k rest → tail ≡ drop k rest → tail ≡ byte ∷ others
    → length (flat_map (printed_byte json) rest) ≡ length run + (length (printed_byte json byte) + length (flat_map (printed_byte json) others))
byte_counted json rest run tail others byte k place front back cases =
    run_counted json rest run tail k place front back ∙ ap (λ l. length run + length (flat_map (printed_byte json) l)) cases
    ∙ ap (λ n. length run + n) (length-append (printed_byte json byte) (flat_map (printed_byte json) others))

pub one_run : (json : Bool) (rest run tail others : List ℕ) (byte k size mid after whole : ℕ) → k ≡ run_of json rest → run ≡ take k rest → tail ≡ drop k rest
    → told (size + length (flat_map (printed_byte json) rest)) ≡ whole → mid ≡ told (size + length run) → tail ≡ byte ∷ others → after ≡ told (mid + length (printed_byte json byte))
    → told (after + length (flat_map (printed_byte json) others)) ≡ whole
one_run json rest run tail others byte k size mid after whole place front back before mid_is cases after_is =
    omega (arith, byte_counted json rest run tail others byte k place front back cases, before, mid_is, after_is)

-- ---- double quotes

pub quoted_text : (json : Bool) (bytes : List ℕ) → (json || needs_quotes bytes) ≡ true → printed_text json bytes ≡ 34 ∷ (flat_map (printed_byte json) bytes ++ 34 ∷ [])
quoted_text true bytes is = refl
quoted_text false bytes is = by (needs_quotes bytes) is
  where
    by : (t : Bool) → t ≡ true → print_field (cond t (quoted bytes) (unquoted bytes)) ≡ 34 ∷ (flat_map (printed_byte false) bytes ++ 34 ∷ [])
    by true e = ap (λ inside. 34 ∷ (inside ++ 34 ∷ [])) (sym (doubled_same bytes))
    by false e = cc

pub plain_text : (json : Bool) (bytes : List ℕ) → (json || needs_quotes bytes) ≡ false → printed_text json bytes ≡ bytes
plain_text true bytes is = cc
plain_text false bytes is = by (needs_quotes bytes) is
  where
    by : (t : Bool) → t ≡ false → print_field (cond t (quoted bytes) (unquoted bytes)) ≡ bytes
    by true e = cc
    by false e = refl

-- ---- a text each byte of which stands for itself

pub plain_quoted : (json : Bool) (bytes : List ℕ) → is_plain_text json bytes ≡ true → (json || (length bytes == 0)) ≡ true → printed_text json bytes ≡ 34 ∷ (bytes ++ 34 ∷ [])
plain_quoted json bytes plain is =
    quoted_text json bytes (by json (length bytes == 0) (list_any (needs_more false) bytes) is) ∙ ap (λ inside. 34 ∷ (inside ++ 34 ∷ [])) (all_plain json bytes plain)
  where
    by : (a empty some : Bool) → (a || empty) ≡ true → (a || (empty || some)) ≡ true
    by true empty some is = refl
    by false true some is = refl
    by false false some is = cc

pub plain_bare : (json : Bool) (bytes : List ℕ) → is_plain_text json bytes ≡ true → (json || (length bytes == 0)) ≡ false → printed_text json bytes ≡ bytes
plain_bare true bytes plain is = cc
plain_bare false bytes plain is = plain_text false bytes (by (length bytes == 0) (list_any (needs_more false) bytes) plain is)
  where
    by : (empty some : Bool) → not some ≡ true → empty ≡ false → (empty || some) ≡ false
    by true some plain is = cc
    by false true plain is = cc
    by false false plain is = refl

-- a text with another byte has double quotes
pub other_quoted : (json : Bool) (bytes : List ℕ) → is_plain_text json bytes ≡ false → printed_text json bytes ≡ 34 ∷ (flat_map (printed_byte json) bytes ++ 34 ∷ [])
other_quoted json bytes other = quoted_text json bytes (by json other)
  where
    from : (empty some : Bool) → not some ≡ false → (empty || some) ≡ true
    from true some other = refl
    from false true other = refl
    from false false other = cc

    by : (a : Bool) → is_plain_text a bytes ≡ false → (a || needs_quotes bytes) ≡ true
    by true other = refl
    by false other = from (length bytes == 0) (list_any (needs_more false) bytes) other
