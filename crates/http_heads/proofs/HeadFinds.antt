-- Whether some bytes begin with a piece of httparse's grammar can be told.
use Rattle.std.proofs.Common.{◌≡◌, ◌≢◌, ◌+◌, ◌<◌, ◌≤◌, ◌⊎◌, ℕ, zero, suc, Bool, true, false, List, [], ◌∷◌, ◌++◌, length, refl, sym, ap, ◌∙◌, subst, arith, inl, inr, append_assoc, append-nil, length-append}
use Rattle.std.specs.Str.{is_utf8}
use Rattle.std.proofs.lemmas.Bool.{false≢true, cases_eq, cases_Bool, cases_lt}
use Rattle.std.proofs.lemmas.List.Elements.{All-nil, All-cons, All-head, All-tail}
use Rattle.std.proofs.lemmas.Str.{IsUtf8-from_is_utf8, is_utf8-from_IsUtf8}
use Rattle.std.specs.List.{flat_map}
use Rattle.httparse.specs.Grammar.{is_token_byte, is_uri_byte, is_value_byte, AllPass, LineEnd, crlf, lf, print_end, print_blank, print_version, Field, print_field, IsField}
use Rattle.httparse.specs.Pieces.{Piece, Begins, Then, Stops, is_newline, Newline, Blank, Word, Target, Version, Text, FieldLine, Section, RequestStart, Method}
use Rattle.httparse.proofs.RunLemmas.{run_unique, run_unstopped}
use Rattle.httparse.proofs.PieceLemmas.{IsDeterministic, Blank_deterministic, Method_deterministic, Target_deterministic, Version_deterministic, Word_deterministic, Name_deterministic, FieldLine_deterministic, Stops_value, Stops-FieldLine, Section_line, newline_not_stopped, print_end_unique, print_field-append, space_ends_token, colon_ends_token, RequestStart_deterministic}

-- the text begins with the piece, or it does not
abbrev pub Told : {A : Type 0} → Piece A → List ℕ → Type 0
Told G text = Begins G text ⊎ ¬ (Begins G text)

second_told : {A B : Type 0} (G : Piece A) (H : Piece B) → IsDeterministic G → (text : List ℕ) (x : Begins G text)
    → Told H x.1 → Told (Then G H) text
second_told G H det text x (inl y) = inl ((x.0, y.0), y.1, (x.1, x.2, y.2))
second_told G H det text x (inr none) = inr (λ z.
    let same = det.unique z.0.0 x.0 text z.2.0 x.1 z.2.1 x.2 in
    let P : List ℕ → Type 0 = λ m. H z.0.1 m z.1 in
    none (z.0.1, z.1, subst P same.1 z.2.2))

-- one piece and then another
pub then_told : {A B : Type 0} (G : Piece A) (H : Piece B) → IsDeterministic G → ((text : List ℕ) → Told G text)
    → ((text : List ℕ) → Told H text) → (text : List ℕ) → Told (Then G H) text
then_told G H det g h text = elim (g text) [
  | inl x ↦ second_told G H det text x (h x.1)
  | inr none ↦ inr (λ z. none (z.0.0, z.2.0, z.2.1))
]

-- ---- line ends

no_newline : (e : LineEnd) (r : List ℕ) → [] ≡ print_end e ++ r → ⊥
no_newline crlf r e = cc
no_newline lf r e = cc

other_newline : (b : ℕ) (text : List ℕ) → b ≢ 10 → b ≢ 13 → (e : LineEnd) (r : List ℕ) → b ∷ text ≡ print_end e ++ r → ⊥
other_newline b text no_lf no_cr crlf r e = no_cr (cc)
other_newline b text no_lf no_cr lf r e = no_lf (cc)

half_newline : (e : LineEnd) (r : List ℕ) → 13 ∷ [] ≡ print_end e ++ r → ⊥
half_newline crlf r e = cc
half_newline lf r e = let bad : ◌≡◌ {A = ℕ} 13 10 = cc in absurd (omega arith)

cr_newline : (c : ℕ) (text : List ℕ) → c ≢ 10 → (e : LineEnd) (r : List ℕ) → 13 ∷ c ∷ text ≡ print_end e ++ r → ⊥
cr_newline c text no_lf crlf r e = no_lf (cc)
cr_newline c text no_lf lf r e = let bad : ◌≡◌ {A = ℕ} 13 10 = cc in absurd (omega arith)

cr_told : (text : List ℕ) → Told Newline (13 ∷ text)
cr_told [] = inr (λ z. half_newline z.0 z.1 z.2)
cr_told (c ∷ text) = elim (cases_eq c 10) [
  | inl e ↦ inl (crlf, text, ap (λ (x : ℕ). 13 ∷ x ∷ text) e)
  | inr other ↦ inr (λ z. cr_newline c text other z.0 z.1 z.2)
]

pub newline_told : (text : List ℕ) → Told Newline text
newline_told [] = inr (λ z. no_newline z.0 z.1 z.2)
newline_told (b ∷ text) = elim (cases_eq b 10) [
  | inl e ↦ inl (lf, text, ap (λ (x : ℕ). x ∷ text) e)
  | inr no_lf ↦ elim (cases_eq b 13) [
    | inl e ↦ let P : ℕ → Type 0 = λ x. Told Newline (x ∷ text) in subst P (sym e) (cr_told text)
    | inr no_cr ↦ inr (λ z. other_newline b text no_lf no_cr z.0 z.1 z.2)
  ]
]

-- ---- empty lines

newline_shorter : (e : LineEnd) (text r : List ℕ) → text ≡ print_end e ++ r → length r < length text
newline_shorter crlf text r e = omega (arith, ap length e)
newline_shorter lf text r e = omega (arith, ap length e)

blank_tail : (text : List ℕ) (x : Begins Newline text) → ¬ (Begins Blank x.1) → (es : List LineEnd) (r : List ℕ) → Blank es text r → ⊥
blank_tail text x none [] r z = newline_not_stopped x.0 x.1 r (sym x.2 ∙ z.0) z.1
blank_tail text x none (e ∷ es) r z =
    let u = print_end_unique x.0 e x.1 (print_blank es ++ r) (sym x.2 ∙ z.0 ∙ append_assoc (print_end e) (print_blank es) r) in
    none (es, r, (u.1, z.1))

blank_more : (text : List ℕ) (x : Begins Newline text) → Told Blank x.1 → Told Blank text
blank_more text x (inl y) = inl (
  x.0 ∷ y.0,
  y.1,
  (x.2 ∙ ap (λ (t : List ℕ). print_end x.0 ++ t) y.2.0 ∙ sym (append_assoc (print_end x.0) (print_blank y.0) y.1), y.2.1),
)
blank_more text x (inr none) = inr (λ z. blank_tail text x none z.0 z.1 z.2)

blank_needs : (text : List ℕ) → ¬ (Begins Newline text) → ¬ (Stops is_newline text) → (es : List LineEnd) (r : List ℕ) → Blank es text r → ⊥
blank_needs text none goes [] r z = let P : List ℕ → Type 0 = λ t. Stops is_newline t in goes (subst P (sym z.0) z.1)
blank_needs text none goes (e ∷ es) r z = none (e, print_blank es ++ r, z.0 ∙ append_assoc (print_end e) (print_blank es) r)

blank_here : (text : List ℕ) → ¬ (Begins Newline text) → Told Blank text
blank_here [] none = inr (λ z. blank_needs [] none (λ s. s) z.0 z.1 z.2)
blank_here (b ∷ text) none = elim (cases_Bool (is_newline b)) [
  | inl holds ↦ inr (λ z. blank_needs (b ∷ text) none (λ s. false≢true (sym s ∙ holds)) z.0 z.1 z.2)
  | inr breaks ↦ inl ([], b ∷ text, (refl, breaks))
]

blank_within : (n : ℕ) (text : List ℕ) → length text < n → Told Blank text
blank_within zero text less = absurd (omega arith)
blank_within (suc n) text less = elim (newline_told text) [
  | inl x ↦ blank_more text x (blank_within n x.1 (let s : length x.1 < length text = newline_shorter x.0 text x.1 x.2 in omega (arith, s, less)))
  | inr none ↦ blank_here text none
]

pub blank_told : (text : List ℕ) → Told Blank text
blank_told text = blank_within (length text + 1) text (omega arith)

-- ---- words

-- the longest front of bytes that pass the test
span : (test : ℕ → Bool) (text : List ℕ) → (w : List ℕ) × (r : List ℕ) × AllPass test w × (text ≡ w ++ r) × ((r ≡ []) ⊎ Stops test r)
span test [] = ([], [], All-nil _, refl, inl refl)
span test (b ∷ text) = elim (cases_Bool (test b)) [
  | inl holds ↦ let s = span test text in
      (b ∷ s.0, s.1, All-cons (λ v. test v ≡ true) b s.0 holds s.2, ap (λ (t : List ℕ). b ∷ t) s.3, s.4)
  | inr breaks ↦ ([], b ∷ text, All-nil _, refl, inr breaks)
]

whole_passes : (test : ℕ → Bool) (text w a r : List ℕ) → AllPass test w → text ≡ w ++ [] → text ≡ a ++ r → Stops test r → ⊥
whole_passes test text w a r all e f stops =
    let same : w ≡ a ++ r = sym (append-nil w) ∙ sym e ∙ f in
    let P : List ℕ → Type 0 = λ t. AllPass test t in run_unstopped test a r (subst P same all) stops

word_from : (test : ℕ → Bool) (stop : ℕ) → test stop ≡ false → (text w r : List ℕ) → AllPass test w → text ≡ w ++ r
    → (r ≡ []) ⊎ Stops test r → Told (Word test stop) text
word_from test stop fails text w [] all e ends = inr (λ z. whole_passes test text w z.0 (stop ∷ z.1) all e z.2.2 fails)
word_from test stop fails text w (x ∷ r) all e (inl bad) = absurd (cc)
word_from test stop fails text w (x ∷ r) all e (inr stops) =
    let same : (z : Begins (Word test stop) text) → (z.0 ≡ w) × (stop ∷ z.1 ≡ x ∷ r) =
    λ z. run_unique test z.0 w (stop ∷ z.1) (x ∷ r) z.2.1 all fails stops (sym z.2.2 ∙ e) in
    elim (cases_eq x stop) [
      | inl is ↦ elim (cases_lt 0 (length w)) [
        | inl some ↦ inl (w, r, (some, all, e ∙ ap (λ (y : ℕ). w ++ y ∷ r) is))
        | inr none ↦ inr (λ z. let some : 0 < length z.0 = z.2.0 in let len : length z.0 ≡ length w = ap length (same z).0 in
            omega (arith, some, none, len))
      ]
      | inr other ↦ inr (λ z. let u = (same z).1 in other (cc))
    ]

pub word_told : (test : ℕ → Bool) (stop : ℕ) → test stop ≡ false → (text : List ℕ) → Told (Word test stop) text
word_told test stop fails text = let s = span test text in word_from test stop fails text s.0 s.1 s.2 s.3 s.4

pub target_told : (text : List ℕ) → Told Target text
target_told text = elim (word_told is_uri_byte 32 refl text) [
  | inl x ↦ elim (cases_Bool (is_utf8 x.0)) [
    | inl holds ↦ inl (x.0, x.1, (x.2, IsUtf8-from_is_utf8 x.0 holds))
    | inr breaks ↦ inr (λ z.
        let same = (Word_deterministic is_uri_byte 32 refl).unique z.0 x.0 text z.1 x.1 z.2.0 x.2 in
        false≢true (sym breaks ∙ ap is_utf8 (sym same.0) ∙ is_utf8-from_IsUtf8 z.0 z.2.1))
  ]
  | inr none ↦ inr (λ z. none (z.0, z.1, z.2.0))
]

-- ---- the version

bytes_told : (bytes text : List ℕ) → ((rest : List ℕ) × (text ≡ bytes ++ rest)) ⊎ ((rest : List ℕ) → text ≡ bytes ++ rest → ⊥)
bytes_told [] text = inl (text, refl)
bytes_told (b ∷ bytes) [] = inr (λ rest e. cc)
bytes_told (b ∷ bytes) (x ∷ text) = elim (cases_eq x b) [
  | inl is ↦ elim (bytes_told bytes text) [
    | inl found ↦ inl (found.0, cc (is, found.1))
    | inr none ↦ inr (λ rest e. none rest (cc))
  ]
  | inr other ↦ inr (λ rest e. other (cc))
]

pub version_told : (text : List ℕ) → Told Version text
version_told text = elim (bytes_told (print_version 0) text) [
  | inl x ↦ inl (0, x.0, (omega arith, x.1))
  | inr not_zero ↦ elim (bytes_told (print_version 1) text) [
    | inl x ↦ inl (1, x.0, (omega arith, x.1))
    | inr not_one ↦ inr (λ z.
        let P : ℕ → Type 0 = λ m. text ≡ print_version m ++ z.1 in
        elim (cases_eq z.0 0) [
          | inl is ↦ not_zero z.1 (subst P is z.2.1)
          | inr other ↦ let small : z.0 ≤ 1 = z.2.0 in let is : z.0 ≡ 1 = omega (arith, small, other) in not_one z.1 (subst P is z.2.1)
        ])
  ]
]

-- ---- field lines

text_from : (text w r : List ℕ) → AllPass is_value_byte w → text ≡ w ++ r → (r ≡ []) ⊎ Stops is_value_byte r
    → ¬ (Begins Newline r) → ¬ (Begins Text text)
text_from text w r all e (inl is) none z =
    whole_passes is_value_byte text w z.0.0 _ all (e ∙ ap (λ (t : List ℕ). w ++ t) is) z.2.1 (Stops_value z.0.1 z.1)
text_from text w r all e (inr stops) none z =
    let same = run_unique is_value_byte z.0.0 w _ r z.2.0 all (Stops_value z.0.1 z.1) stops (sym z.2.1 ∙ e) in
    none (z.0.1, z.1, sym same.1)

text_told : (text : List ℕ) → Told Text text
text_told text =
    let s = span is_value_byte text in
    elim (newline_told s.1) [
      | inl x ↦ inl ((s.0, x.0), x.1, (s.2, s.3 ∙ ap (λ (t : List ℕ). s.0 ++ t) x.2))
      | inr none ↦ inr (text_from text s.0 s.1 s.2 s.3 s.4 none)
    ]

line_from_parts : (text : List ℕ) → Begins (Then (Word is_token_byte 58) Text) text → Begins FieldLine text
line_from_parts text x =
    let f : Field = record { name = x.0.0; raw = x.0.1.0; end = x.0.1.1 } in (
      f,
      x.1,
      (
        record { name = (x.2.1.0, x.2.1.1); raw = x.2.2.0 },
        x.2.1.2 ∙ ap (λ (t : List ℕ). x.0.0 ++ 58 ∷ t) x.2.2.1 ∙ sym (print_field-append f x.1),
      ),
    )

line_parts : (text : List ℕ) → Begins FieldLine text → Begins (Then (Word is_token_byte 58) Text) text
line_parts text x =
    ((x.0.name, (x.0.raw, x.0.end)), x.1, (_, (x.2.0.name.0, x.2.0.name.1, x.2.1 ∙ print_field-append x.0 x.1), (x.2.0.raw, refl)))

pub field_told : (text : List ℕ) → Told FieldLine text
field_told text = elim (then_told (Word is_token_byte 58) Text Name_deterministic (word_told is_token_byte 58 colon_ends_token) text_told text) [
  | inl x ↦ inl (line_from_parts text x)
  | inr none ↦ inr (λ z. none (line_parts text z))
]

field_shorter : (text : List ℕ) (x : Begins FieldLine text) → length x.1 < length text
field_shorter text x =
    let e : length text ≡ length (print_field x.0) + length x.1 = ap length x.2.1 ∙ length-append (print_field x.0) x.1 in
    let some : 0 < length x.0.name = x.2.0.name.0 in
    let more : length x.0.name ≤ length (print_field x.0) = grind (arith, length-append) in
    omega (arith, e, some, more)

-- ---- sections

section_first : (g : Field) (gs : List Field) (last : LineEnd) (text rest : List ℕ) → Section (g ∷ gs, last) text rest
    → FieldLine g text ((flat_map print_field gs ++ print_end last) ++ rest)
section_first g gs last text rest x = (
  All-head IsField g gs x.0,
  x.1 ∙ ap (λ (t : List ℕ). t ++ rest) (append_assoc (print_field g) (flat_map print_field gs) (print_end last))
      ∙ append_assoc (print_field g) (flat_map print_field gs ++ print_end last) rest,
)

section_tail : (text : List ℕ) (f : Begins FieldLine text) → ¬ (Begins Section f.1) → (gs : List Field) (last : LineEnd) (r : List ℕ)
    → Section (gs, last) text r → ⊥
section_tail text f none [] last r z = newline_not_stopped last r text (sym z.1) (Stops-FieldLine f.0 text f.1 f.2)
section_tail text f none (g ∷ gs) last r z =
    let same = FieldLine_deterministic.unique g f.0 text _ f.1 (section_first g gs last text r z) f.2 in
    none ((gs, last), r, (All-tail IsField g gs z.0, sym same.1))

section_more : (text : List ℕ) (f : Begins FieldLine text) → Told Section f.1 → Told Section text
section_more text f (inl y) = inl (
  (f.0 ∷ y.0.0, y.0.1),
  y.1,
  (
    All-cons IsField f.0 y.0.0 f.2.0 y.2.0,
    f.2.1 ∙ ap (λ (t : List ℕ). print_field f.0 ++ t) y.2.1
        ∙ sym (append_assoc (print_field f.0) (flat_map print_field y.0.0 ++ print_end y.0.1) y.1)
        ∙ ap (λ (t : List ℕ). t ++ y.1) (sym (append_assoc (print_field f.0) (flat_map print_field y.0.0) (print_end y.0.1))),
  ),
)
section_more text f (inr none) = inr (λ z. section_tail text f none z.0.0 z.0.1 z.1 z.2)

section_within : (n : ℕ) (text : List ℕ) → length text < n → Told Section text
section_within zero text less = absurd (omega arith)
section_within (suc n) text less = elim (newline_told text) [
  | inl x ↦ inl (([], x.0), x.1, (All-nil IsField, x.2))
  | inr no_end ↦ elim (field_told text) [
    | inl f ↦ section_more text f (section_within n f.1 (let s : length f.1 < length text = field_shorter text f in omega (arith, s, less)))
    | inr no_field ↦ inr (λ z. elim (Section_line z.0 text z.1 z.2) [ inl e ↦ no_end e | inr f ↦ no_field f ])
  ]
]

pub section_told : (text : List ℕ) → Told Section text
section_told text = section_within (length text + 1) text (omega arith)

-- ---- a whole head

pub head_told : (text : List ℕ) → Told (Then RequestStart Section) text
head_told = then_told RequestStart Section RequestStart_deterministic start_told section_told
  where
    start_told : (text : List ℕ) → Told RequestStart text
    start_told =
        then_told Blank _ Blank_deterministic blank_told
        (then_told Method _ Method_deterministic (word_told is_token_byte 32 space_ends_token)
        (then_told Target _ Target_deterministic target_told
        (then_told Version Newline Version_deterministic version_told newline_told)))
