-- What follows lines is read as a text of its own, and records whose text ends in LF are lines.
use Rattle.std.proofs.Common.{◌≡◌, ℕ, ◌+◌, ◌-◌, ◌<◌, ◌≤◌, ◌⊎◌, inl, inr, Bool, true, false, cond, List, [], ◌∷◌, ◌++◌, length, take, map, ◌==◌, if◌then◌else◌, Some, None, refl, sym, ap, ◌∙◌, subst, append_assoc, append-nil, arith, length-append, eq-eqb, ne_eqb, suc, get_or}
use Rattle.std.specs.Prelude.{option_to_list, slice_get, IfSome}
use Rattle.std.specs.List.{flat_map, AllByRecursion}
use Rattle.std.proofs.lemmas.Bool.{cases_eq, cases_lt}
use Rattle.std.proofs.lemmas.Grind.{flat_map-append}
use Rattle.std.proofs.lemmas.List.{map-append, take_more, take_all}
use Rattle.std.proofs.lemmas.Option.{slice_get_within, get_or_from_slice_get}
use Rattle.csv_grammar.specs.Bytes.{double_quote, comma, carriage_return, line_feed}
use Rattle.csv_grammar.specs.Records.{Field, unquoted, lf, Line, CsvText, print_line, IsRecord, AreRecords}
use Rattle.csv_grammar.specs.Pieces.{AreLines}
use Rattle.csv_grammar.specs.Faults.{Cause, unfinished, bare_cr, stray_quote, after_quote, IsViable, cause_at, HasFault}
use Rattle.csv_grammar.proofs.Machine.{Mode, start, plain, inside, closed, returned, Progress, initial, moved, next_field, next_line, step, run, finish}
use Rattle.csv_grammar.proofs.Runs.{progress_at, printed, run_front, run_one, reached}
use Rattle.csv_grammar.proofs.Viable.{whole, viable-from_run, records-run, records-finish, records_unique}
use Rattle.csv_grammar.proofs.BehindLines.{viable_after, viable_rest, records_rest}

-- ---- lines and records after lines

valid_joined : (lines others : List Line) → AllByRecursion (λ line. IsRecord line.fields) lines → AllByRecursion (λ line. IsRecord line.fields) others
    → AllByRecursion (λ line. IsRecord line.fields) (lines ++ others)
valid_joined [] others each more = more
valid_joined (line ∷ lines) others each more = (each.0, valid_joined lines others each.1 more)

pub lines_after : (front more : List ℕ) (records others : List (List Field)) → AreLines front records → AreLines more others → AreLines (front ++ more) (records ++ others)
lines_after front more records others are also = record {
  lines = are.lines ++ also.lines;
  valid = valid_joined are.lines also.lines are.valid also.valid;
  printed = rw (are.printed, also.printed) (sym (flat_map-append print_line are.lines also.lines));
  are = rw (are.are, also.are) (sym (map-append (λ (line : Line). line.fields) are.lines also.lines));
}

pub records_after : (front more : List ℕ) (records others : List (List Field)) → AreLines front records → AreRecords more others → AreRecords (front ++ more) (records ++ others)
records_after front more records others are also =
    let tree = also.tree in record {
      tree = record { lines = are.lines ++ tree.lines; last = tree.last };
      valid = record { lines = valid_joined are.lines tree.lines are.valid also.valid.lines; last = also.valid.last };
      printed = rw (are.printed, also.printed, flat_map-append print_line are.lines tree.lines) (sym (append_assoc (flat_map print_line are.lines) (flat_map print_line tree.lines) _));
      are = rw (are.are, also.are, map-append (λ (line : Line). line.fields) are.lines tree.lines)
          (sym (append_assoc (map (λ (line : Line). line.fields) are.lines) (map (λ (line : Line). line.fields) tree.lines) (option_to_list tree.last)));
    }

-- ---- a fault after lines

-- each byte may begin a text
first_viable : (b : ℕ) → IsViable (b ∷ [])
first_viable b = on (b == double_quote) (b == comma) (b == carriage_return) (b == line_feed) refl
  where
    on : (w x y z : Bool)
        → step initial b ≡ cond w (Some (moved initial (inside []))) (cond x (Some (next_field initial (unquoted []))) (cond y (Some (moved initial (returned (unquoted [])))) (cond z (Some (next_line initial (unquoted []) lf)) (Some (moved initial (plain [] b))))))
        → IsViable (b ∷ [])
    on true x y z e = viable-from_run (b ∷ []) _ (run_one initial b ∙ e)
    on false true y z e = viable-from_run (b ∷ []) _ (run_one initial b ∙ e)
    on false false true z e = viable-from_run (b ∷ []) _ (run_one initial b ∙ e)
    on false false false true e = viable-from_run (b ∷ []) _ (run_one initial b ∙ e)
    on false false false false e = viable-from_run (b ∷ []) _ (run_one initial b ∙ e)

-- so no fault is at the first place
pub fault_past_first : (bytes : List ℕ) (place : ℕ) (cause : Cause) → HasFault bytes place cause → 0 < place
fault_past_first [] place cause fault = absurd (fault.outside [] (whole [] initial _ refl refl))
fault_past_first (b ∷ bytes) place cause fault =
    let long : 1 ≤ length (b ∷ bytes) = omega arith in
    let le = fault.longest 1 long (first_viable b) in omega (arith, le)

abbrev cause_of : Bool → ℕ → ℕ → Cause
cause_of at_end before here = if at_end then unfinished else (if before == carriage_return then bare_cr else (if here == double_quote then stray_quote else after_quote))

same_test : (a b c n : ℕ) → n ≡ c + b → (a == b) ≡ (c + a == n)
same_test a b c n e = on (cases_eq a b)
  where
    on : (a ≡ b) ⊎ (a ≡ b → ⊥) → (a == b) ≡ (c + a == n)
    on (inl is) = eq-eqb a b is ∙ sym (eq-eqb (c + a) n (omega (arith, is, e)))
    on (inr not) = ne_eqb a b not ∙ sym (ne_eqb (c + a) n (λ is. not (omega (arith, is, e))))

-- a byte after the front
get_past : (front more : List ℕ) (k : ℕ) → get_or (front ++ more) (length front + k) 0 ≡ get_or more k 0
get_past [] more k = let e : 0 + k ≡ k = omega arith in rw e refl
get_past (b ∷ front) more k = let e : suc (length front) + k ≡ suc (length front + k) = omega arith in rw e (get_past front more k)

cause_after : (front more : List ℕ) (place : ℕ) → 0 < place → cause_at more place ≡ cause_at (front ++ more) (length front + place)
cause_after front more place past =
    let all = front ++ more in
    let here : get_or all (length front + place) 0 ≡ get_or more place 0 = get_past front more place in
    let e : length front + place - 1 ≡ length front + (place - 1) = omega (arith, past) in
    let before : get_or all (length front + place - 1) 0 ≡ get_or more (place - 1) 0 = ap (λ k. get_or all k 0) e ∙ get_past front more (place - 1) in
    let end : (place == length more) ≡ (length front + place == length all) = same_test place (length more) (length front) (length all) (length-append front more) in
    ap (λ t. cause_of t (get_or more (place - 1) 0) (get_or more place 0)) end
    ∙ (ap (λ x. cause_of (length front + place == length all) x (get_or more place 0)) (sym before)
    ∙ ap (λ y. cause_of (length front + place == length all) (get_or all (length front + place - 1) 0) y) (sym here))

-- a front of joined texts that passes the first
pub front_past : (front more : List ℕ) (k : ℕ) → take (length front + k) (front ++ more) ≡ front ++ take k more
front_past [] more k = let e : 0 + k ≡ k = omega arith in rw e refl
front_past (b ∷ front) more k = let e : suc (length front) + k ≡ suc (length front + k) = omega arith in rw e (ap (λ xs. b ∷ xs) (front_past front more k))

pub fault_after : (front more : List ℕ) (records : List (List Field)) (place : ℕ) (cause : Cause) → AreLines front records → HasFault more place cause
    → HasFault (front ++ more) (length front + place) cause
fault_after front more records place cause are fault = record {
  outside = λ all them. let rest = records_rest front more records all are them in fault.outside rest.0 rest.1;
  within = omega (arith, fault.within, length-append front more);
  viable = subst IsViable (sym (front_past front more place)) (viable_after front (take place more) records are fault.viable);
  longest = λ n within v. on n within v (cases_lt (length front) n);
  why = fault.why ∙ cause_after front more place (fault_past_first more place cause fault);
}
  where
    on : (n : ℕ) → n ≤ length (front ++ more) → IsViable (take n (front ++ more)) → (length front < n) ⊎ (n ≤ length front) → n ≤ length front + place
    on n within v (inl past) =
        let is : length front + (n - length front) ≡ n = omega arith in
        let some = subst IsViable (ap (λ k. take k (front ++ more)) (sym is) ∙ front_past front more (n - length front)) v in
        let least = fault.longest (n - length front) (omega (arith, length-append front more)) (viable_rest front (take (n - length front) more) records are some) in
        omega (arith, least)
    on n within v (inr le) = omega arith

-- ---- records that end in LF

-- q is after a line
abbrev pub AtLine : Progress → Type 0
AtLine q = q ≡ progress_at q.lines [] start

-- after an LF the text may end only after a line
feed_line : (ls : List Line) (fs : List Field) (m : Mode) → IfSome (step (progress_at ls fs m) line_feed) (λ q. (text : CsvText) → finish q ≡ Some text → AtLine q)
feed_line ls fs start = λ text e. refl
feed_line ls fs (plain bytes last) = λ text e. refl
feed_line ls fs (inside content) = λ text e. cc
feed_line ls fs (closed content) = λ text e. refl
feed_line ls fs (returned f) = λ text e. refl

pub lines_at : (bytes : List ℕ) (q : Progress) → run initial bytes ≡ Some q → AtLine q → AreLines bytes (map (λ (line : Line). line.fields) q.lines)
lines_at bytes q e at =
    let read = reached bytes q e in record {
      lines = q.lines;
      valid = read.0.lines;
      printed = read.1 ∙ (ap printed at ∙ append-nil (flat_map print_line q.lines));
      are = refl;
    }

pub lines_of : (bytes : List ℕ) (records : List (List Field)) → AreRecords bytes records → slice_get bytes (length bytes - 1) ≡ Some line_feed → AreLines bytes records
lines_of bytes records are feed =
    let at = length bytes - 1 in
    let last : at + 1 ≡ length bytes = omega (arith, slice_get_within bytes at line_feed feed) in
    let split : bytes ≡ take at bytes ++ line_feed ∷ [] =
    sym (take_all (length bytes) bytes (omega arith)) ∙ (ap (λ k. take k bytes) (sym last) ∙ (take_more bytes at 0 (slice_get_within bytes at line_feed feed)
    ∙ ap (λ b. take at bytes ++ b ∷ []) (get_or_from_slice_get bytes at line_feed 0 feed))) in
    let read = records-run bytes records are in
    let end = records-finish bytes records read.0 are read.1 in
    let earlier = run_front initial read.0 (take at bytes) (line_feed ∷ []) (ap (run initial) (sym split) ∙ read.1) in
    let one : step earlier.0 line_feed ≡ Some read.0 = sym (run_one earlier.0 line_feed) ∙ earlier.2 in
    let p = earlier.0 in
    let at_line = subst (λ o. IfSome o (λ q. (text : CsvText) → finish q ≡ Some text → AtLine q)) one (feed_line p.lines p.fields p.mode) end.0 end.1 in
    let found = map (λ (line : Line). line.fields) read.0.lines in
    let lines : AreLines bytes found = lines_at bytes read.0 read.1 at_line in
    let them : AreRecords bytes found =
    subst (AreRecords bytes) (append-nil found) (subst (λ w. AreRecords w (found ++ [])) (append-nil bytes) (records_after bytes [] found [] lines nothing)) in
    subst (AreLines bytes) (records_unique bytes found records them are) lines
  where
    nothing : AreRecords [] []
    nothing = record { tree = record { lines = []; last = None }; valid = record { lines = tt; last = tt }; printed = refl; are = refl }
