-- The parity of a text's double quotes and the kind of its last byte tell where the machine stands after it.
use Rattle.std.proofs.Common.{◌≡◌, ℕ, ◌+◌, ◌-◌, ◌%◌, true, List, [], ◌∷◌, ◌++◌, length, if◌then◌else◌, ◌==◌, Option, Some, None, refl, sym, ap, ap₂, ◌∙◌, subst, append_assoc, append-nil, arith}
use Rattle.std.specs.Prelude.{IfSome, IsTrue, is_some, slice_get, slice_index, count_by, ◌↔◌}
use Rattle.std.proofs.Math.Seq.{take-append_seam, get_or-append_seam}
use Rattle.std.proofs.lemmas.List.{length-append, get_or_push, length_push}
use Rattle.std.proofs.lemmas.List.Sums.{sum_by-append}
use Rattle.std.proofs.lemmas.Option.{same_Some, option_and_then_some, slice_get-get_or}
use Rattle.csv_grammar.specs.Bytes.{double_quote}
use Rattle.csv_grammar.specs.Records.{Field, Line, CsvText, AreRecords, records_of}
use Rattle.csv_grammar.specs.Faults.{unfinished, IsViable, cause_at, HasFault}
use Rattle.csv_grammar.specs.Structure.{Role, AreRoles}
use Rattle.csv_grammar.specs.Following.{LastByte, field_start, a_double_quote, a_carriage_return, a_plain, byte_kind, kind_of_last, TextCarry, carry_of, may_follow, following_role, may_end}
use Rattle.csv_grammar.proofs.ByteKinds.{Kind, a_quote, a_comma, a_return, a_feed, an_other, kind_of}
use Rattle.csv_grammar.proofs.Machine.{Mode, start, plain, inside, closed, returned, Progress, initial, step, run, finish}
use Rattle.csv_grammar.proofs.Runs.{progress_at, run_more}
use Rattle.csv_grammar.proofs.Viable.{whole, stuck, open_end, run-from_viable, viable-from_run}
use Rattle.csv_grammar.proofs.Structure.{role_in, step-roles, roles_read, read_are}

-- ---- the carry of one byte more

-- the carry after one byte more
abbrev pushed : TextCarry → ℕ → TextCarry
pushed carry b = record { parity = (carry.parity + (if b == double_quote then 1 else 0)) % 2; last = byte_kind b }

-- the carry of these parts
abbrev carry_at : ℕ → LastByte → TextCarry
carry_at parity last = record { parity = parity; last = last }

carry_of-push : (text : List ℕ) (b : ℕ) → carry_of (text ++ b ∷ []) ≡ pushed (carry_of text) b
carry_of-push text b = ap₂ carry_at parity (ap kind_of_last last)
  where
    parity : count_by (λ x. x == double_quote) (text ++ b ∷ []) % 2
        ≡ (count_by (λ x. x == double_quote) text % 2 + (if b == double_quote then 1 else 0)) % 2
    parity = omega (arith, sum_by-append {X = ℕ} (λ x. if x == double_quote then 1 else 0) text (b ∷ []))

    last : slice_get (text ++ b ∷ []) (length (text ++ b ∷ []) - 1) ≡ Some b
    last = slice_get-get_or (text ++ b ∷ []) (length (text ++ b ∷ []) - 1) 0 (omega (arith, length_push text b))
        ∙ ap Some (get_or_push text b 0 (length (text ++ b ∷ []) - 1) (omega (arith, length_push text b)))

-- ---- where the machine stands

-- the machine stands so after a text of that carry
abbrev pub Stands : Mode → TextCarry → Type 0
Stands start carry = (carry.parity ≡ 0) × (carry.last ≡ field_start)
Stands (plain bytes last) carry = (carry.parity ≡ 0) × (carry.last ≡ a_plain)
Stands (inside content) carry = carry.parity ≡ 1
Stands (closed content) carry = (carry.parity ≡ 0) × (carry.last ≡ a_double_quote)
Stands (returned field) carry = (carry.parity ≡ 0) × (carry.last ≡ a_carriage_return)

step_stands : (ls : List Line) (fs : List Field) (m : Mode) (carry : TextCarry) (b : ℕ) → Kind b → Stands m carry
    → IfSome (step (progress_at ls fs m) b) (λ q. Stands q.mode (pushed carry b))
step_stands ls fs start carry b a_quote s = rw s.0 refl
step_stands ls fs start carry b a_comma s = (rw s.0 refl, refl)
step_stands ls fs start carry b a_return s = (rw s.0 refl, refl)
step_stands ls fs start carry b a_feed s = (rw s.0 refl, refl)
step_stands ls fs start carry b (an_other _ q c x n) s = rw (q, c, x, n, s.0) (refl, refl)
step_stands ls fs (plain bytes last) carry b a_quote s = tt
step_stands ls fs (plain bytes last) carry b a_comma s = (rw s.0 refl, refl)
step_stands ls fs (plain bytes last) carry b a_return s = (rw s.0 refl, refl)
step_stands ls fs (plain bytes last) carry b a_feed s = (rw s.0 refl, refl)
step_stands ls fs (plain bytes last) carry b (an_other _ q c x n) s = rw (q, c, x, n, s.0) (refl, refl)
step_stands ls fs (inside content) carry b a_quote s = (rw s refl, refl)
step_stands ls fs (inside content) carry b a_comma s = rw s refl
step_stands ls fs (inside content) carry b a_return s = rw s refl
step_stands ls fs (inside content) carry b a_feed s = rw s refl
step_stands ls fs (inside content) carry b (an_other _ q c x n) s = rw (q, s) refl
step_stands ls fs (closed content) carry b a_quote s = rw s.0 refl
step_stands ls fs (closed content) carry b a_comma s = (rw s.0 refl, refl)
step_stands ls fs (closed content) carry b a_return s = (rw s.0 refl, refl)
step_stands ls fs (closed content) carry b a_feed s = (rw s.0 refl, refl)
step_stands ls fs (closed content) carry b (an_other _ q c x n) s = rw (q, c, x, n) tt
step_stands ls fs (returned f) carry b a_quote s = tt
step_stands ls fs (returned f) carry b a_comma s = tt
step_stands ls fs (returned f) carry b a_return s = tt
step_stands ls fs (returned f) carry b a_feed s = (rw s.0 refl, refl)
step_stands ls fs (returned f) carry b (an_other _ q c x n) s = rw n tt

-- after a text that was read from the start
run_stands : (text bytes : List ℕ) (p q : Progress) → Stands p.mode (carry_of text) → run p bytes ≡ Some q → Stands q.mode (carry_of (text ++ bytes))
run_stands text [] p q s e = subst (λ w. Stands q.mode (carry_of w)) (sym (append-nil text)) (subst (λ r. Stands r.mode (carry_of text)) (same_Some p q e) s)
run_stands text (b ∷ bytes) p q s e = option_and_then_some (λ r. run r bytes) (step p b) q e (λ r one rest.
    let next = subst (λ o. IfSome o (λ r. Stands r.mode (pushed (carry_of text) b))) one (step_stands p.lines p.fields p.mode (carry_of text) b (kind_of b) s) in
    subst (λ w. Stands q.mode (carry_of w)) (append_assoc text (b ∷ []) bytes)
    (run_stands (text ++ b ∷ []) bytes r q (subst (Stands r.mode) (sym (carry_of-push text b)) next) rest))

pub stands : (text : List ℕ) (p : Progress) → run initial text ≡ Some p → Stands p.mode (carry_of text)
stands text p e = run_stands [] text initial p (refl, refl) e

-- ---- what may follow

-- the machine goes on at a byte exactly where the byte may follow
step_may : (ls : List Line) (fs : List Field) (m : Mode) (carry : TextCarry) (b : ℕ) → Kind b → Stands m carry
    → may_follow carry b ≡ is_some (step (progress_at ls fs m) b)
step_may ls fs start carry b a_quote s = rw (s.0, s.1) refl
step_may ls fs start carry b a_comma s = rw (s.0, s.1) refl
step_may ls fs start carry b a_return s = rw (s.0, s.1) refl
step_may ls fs start carry b a_feed s = rw (s.0, s.1) refl
step_may ls fs start carry b (an_other _ q c x n) s = rw (s.0, s.1, q, c, x, n) refl
step_may ls fs (plain bytes last) carry b a_quote s = rw (s.0, s.1) refl
step_may ls fs (plain bytes last) carry b a_comma s = rw (s.0, s.1) refl
step_may ls fs (plain bytes last) carry b a_return s = rw (s.0, s.1) refl
step_may ls fs (plain bytes last) carry b a_feed s = rw (s.0, s.1) refl
step_may ls fs (plain bytes last) carry b (an_other _ q c x n) s = rw (s.0, s.1, q, c, x, n) refl
step_may ls fs (inside content) carry b a_quote s = rw s refl
step_may ls fs (inside content) carry b a_comma s = rw s refl
step_may ls fs (inside content) carry b a_return s = rw s refl
step_may ls fs (inside content) carry b a_feed s = rw s refl
step_may ls fs (inside content) carry b (an_other _ q c x n) s = rw (s, q) refl
step_may ls fs (closed content) carry b a_quote s = rw (s.0, s.1) refl
step_may ls fs (closed content) carry b a_comma s = rw (s.0, s.1) refl
step_may ls fs (closed content) carry b a_return s = rw (s.0, s.1) refl
step_may ls fs (closed content) carry b a_feed s = rw (s.0, s.1) refl
step_may ls fs (closed content) carry b (an_other _ q c x n) s = rw (s.0, s.1, q, c, x, n) refl
step_may ls fs (returned f) carry b a_quote s = rw (s.0, s.1) refl
step_may ls fs (returned f) carry b a_comma s = rw (s.0, s.1) refl
step_may ls fs (returned f) carry b a_return s = rw (s.0, s.1) refl
step_may ls fs (returned f) carry b a_feed s = rw (s.0, s.1) refl
step_may ls fs (returned f) carry b (an_other _ q c x n) s = rw (s.0, s.1, n) refl

-- where an option has a value
is_some_value : (o : Option Progress) → is_some o ≡ true → (q : Progress) × (o ≡ Some q)
is_some_value None e = cc
is_some_value (Some q) e = (q, refl)

-- a byte that may follow leads on
pub follows : (text : List ℕ) (b : ℕ) (p : Progress) → run initial text ≡ Some p → IsTrue (may_follow (carry_of text) b) → (q : Progress) × (step p b ≡ Some q)
follows text b p e may =
    is_some_value (step p b) (sym (step_may p.lines p.fields p.mode (carry_of text) b (kind_of b) (stands text p e)) ∙ may)

-- and one that leads on may follow
pub may : (text : List ℕ) (b : ℕ) (p q : Progress) → run initial text ≡ Some p → step p b ≡ Some q → IsTrue (may_follow (carry_of text) b)
may text b p q e one = step_may p.lines p.fields p.mode (carry_of text) b (kind_of b) (stands text p e) ∙ ap is_some one

pub byte_may : (text : List ℕ) (b : ℕ) → IsViable text → IsTrue (may_follow (carry_of text) b) ↔ IsViable (text ++ b ∷ [])
byte_may text b v = (to, from)
  where
    read : (p : Progress) × (run initial text ≡ Some p)
    read = run-from_viable text v

    to : IsTrue (may_follow (carry_of text) b) → IsViable (text ++ b ∷ [])
    to m = let next = follows text b read.0 read.1 m in
        viable-from_run (text ++ b ∷ []) next.0 (run_more initial read.0 text b read.1 ∙ next.1)

    from : IsViable (text ++ b ∷ []) → IsTrue (may_follow (carry_of text) b)
    from w =
        let all = run-from_viable (text ++ b ∷ []) w in
        may text b read.0 all.0 read.1 (sym (run_more initial read.0 text b read.1) ∙ all.1)

-- ---- the role of what follows

role_stands : (m : Mode) (carry : TextCarry) (b : ℕ) → Stands m carry → role_in m b ≡ following_role carry b
role_stands start carry b s = rw s.0 refl
role_stands (plain bytes last) carry b s = rw s.0 refl
role_stands (inside content) carry b s = rw s refl
role_stands (closed content) carry b s = rw s.0 refl
role_stands (returned f) carry b s = rw s.0 refl

pub role_follows : (text : List ℕ) (roles : List Role) (b : ℕ) → AreRoles text roles → IsViable (text ++ b ∷ [])
    → AreRoles (text ++ b ∷ []) (roles ++ following_role (carry_of text) b ∷ [])
role_follows text roles b are v =
    let read = roles_read text roles are in
    let all = run-from_viable (text ++ b ∷ []) v in
    let next : step read.0 b ≡ Some all.0 = sym (run_more initial read.0 text b read.1) ∙ all.1 in
    subst (AreRoles (text ++ b ∷ []))
    (step-roles read.0 all.0 b next ∙ rw (← read.2) (ap (λ r. roles ++ r ∷ []) (role_stands read.0.mode (carry_of text) b (stands text read.0 read.1))))
    (read_are (text ++ b ∷ []) all.0 all.1)

-- ---- where no byte follows

pub fault_at : (text : List ℕ) (b : ℕ) (more : List ℕ) → IsViable text → ¬ (IsViable (text ++ b ∷ []))
    → HasFault (text ++ b ∷ more) (length text) (cause_at (text ++ b ∷ more) (length text))
fault_at text b more v none =
    stuck (text ++ b ∷ more) (length text) read.0 (omega (arith, length-append text (b ∷ more)))
    (ap (run initial) (take-append_seam text (b ∷ more)) ∙ read.1) (ap (step read.0) here ∙ stop (step read.0 b) refl)
  where
    read : (p : Progress) × (run initial text ≡ Some p)
    read = run-from_viable text v

    here : slice_index (text ++ b ∷ more) (length text) ≡ b
    here = get_or-append_seam text b more 0

    stop : (o : Option Progress) → step read.0 b ≡ o → o ≡ None
    stop None e = refl
    stop (Some q) e = absurd (none (viable-from_run (text ++ b ∷ []) q (run_more initial read.0 text b read.1 ∙ e)))

-- ---- where the text may end

finish_stands : (ls : List Line) (fs : List Field) (m : Mode) (carry : TextCarry) → Stands m carry
    → may_end carry ≡ is_some (finish (progress_at ls fs m))
finish_stands ls fs start carry s = rw (s.0, s.1) refl
finish_stands ls fs (plain bytes last) carry s = rw (s.0, s.1) refl
finish_stands ls fs (inside content) carry s = rw s refl
finish_stands ls fs (closed content) carry s = rw (s.0, s.1) refl
finish_stands ls fs (returned f) carry s = rw (s.0, s.1) refl

finish_may : (text : List ℕ) (p : Progress) → run initial text ≡ Some p → may_end (carry_of text) ≡ is_some (finish p)
finish_may text p e = finish_stands p.lines p.fields p.mode (carry_of text) (stands text p e)

-- where a text may end it has records
pub records_at_end : (text : List ℕ) → IsViable text → IsTrue (may_end (carry_of text)) → (records : List (List Field)) × AreRecords text records
records_at_end text v may = on (finish read.0) refl (sym (finish_may text read.0 read.1) ∙ may)
  where
    read : (p : Progress) × (run initial text ≡ Some p)
    read = run-from_viable text v

    on : (o : Option CsvText) → finish read.0 ≡ o → is_some o ≡ true → (records : List (List Field)) × AreRecords text records
    on None e some = cc
    on (Some tree) e some = (records_of tree, whole text read.0 tree read.1 e)

-- and where not it is unfinished
pub unfinished_at_end : (text : List ℕ) → IsViable text → ¬ (IsTrue (may_end (carry_of text))) → HasFault text (length text) unfinished
unfinished_at_end text v not_may = on (finish read.0) refl
  where
    read : (p : Progress) × (run initial text ≡ Some p)
    read = run-from_viable text v

    on : (o : Option CsvText) → finish read.0 ≡ o → HasFault text (length text) unfinished
    on None e = open_end text read.0 read.1 e
    on (Some tree) e = absurd (not_may (finish_may text read.0 read.1 ∙ ap is_some e))
