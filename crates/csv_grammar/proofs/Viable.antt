-- The fronts that a run passes are the viable ones; where a run stops, there the text's fault is.
use Rattle.std.proofs.Common.{◌≡◌, ℕ, zero, suc, ◌+◌, ◌<◌, ◌≤◌, List, [], ◌∷◌, ◌++◌, length, take, drop, Option, Some, None, refl, sym, ap, ◌∙◌, arith, eq-eqb, inl, inr, ◌⊎◌, le_refl}
use Rattle.std.specs.Prelude.{option_and_then, slice_index}
use Rattle.std.proofs.lemmas.Bool.{cases_lt}
use Rattle.std.proofs.lemmas.List.{take_all, take-take, take-append-drop}
use Rattle.std.proofs.lemmas.Option.{none-some, same_Some}
use Rattle.csv_grammar.specs.Bytes.{double_quote, line_feed}
use Rattle.csv_grammar.specs.Records.{Field, Line, CsvText, AreRecords, records_of}
use Rattle.csv_grammar.specs.Faults.{Cause, unfinished, IsViable, cause_at, HasFault}
use Rattle.csv_grammar.proofs.Machine.{Mode, start, plain, inside, closed, returned, Progress, initial, step, run, finish}
use Rattle.csv_grammar.proofs.Runs.{progress_at, run_on, run_on_none, run_front, run_take_more, written}
use Rattle.csv_grammar.proofs.ReadsBack.{read_text}

-- ---- texts with records

-- where a run may end, its tree's records are those of the text
pub whole : (bytes : List ℕ) (p : Progress) (text : CsvText) → run initial bytes ≡ Some p → finish p ≡ Some text → AreRecords bytes (records_of text)
whole bytes p text e end = let all = written bytes p text e end in record { tree = text; valid = all.0; printed = all.1; are = refl }

-- a text with records is run to its end
pub records-run : (bytes : List ℕ) (records : List (List Field)) → AreRecords bytes records → (p : Progress) × (run initial bytes ≡ Some p)
records-run bytes records are =
    let read = read_text are.tree are.valid in (read.0, ap (run initial) are.printed ∙ read.1)

-- and may end there, with its records
pub records-finish : (bytes : List ℕ) (records : List (List Field)) (p : Progress) → AreRecords bytes records → run initial bytes ≡ Some p
    → (text : CsvText) × (finish p ≡ Some text) × (records ≡ records_of text)
records-finish bytes records p are e =
    let read = read_text are.tree are.valid in
    let same = same_Some p read.0 (sym e ∙ (ap (run initial) are.printed ∙ read.1)) in
    (are.tree, ap finish same ∙ read.2, are.are)

-- a text has one list of records at most
pub records_unique : (bytes : List ℕ) (records others : List (List Field)) → AreRecords bytes records → AreRecords bytes others → records ≡ others
records_unique bytes records others are also =
    let read = records-run bytes records are in
    let one = records-finish bytes records read.0 are read.1 in
    let two = records-finish bytes others read.0 also read.1 in
    one.2 ∙ (ap records_of (same_Some one.0 two.0 (sym one.1 ∙ two.1)) ∙ sym two.2)

-- ---- viable fronts

-- bytes after which a text may end
abbrev pub completion : Mode → List ℕ
completion start = []
completion (plain bytes last) = []
completion (inside content) = double_quote ∷ []
completion (closed content) = []
completion (returned field) = line_feed ∷ []

-- and those bytes lead to an end
pub completes : (lines : List Line) (fields : List Field) (m : Mode)
    → (q : Progress) × (text : CsvText) × (run (progress_at lines fields m) (completion m) ≡ Some q) × (finish q ≡ Some text)
completes ls fs start = (_, _, refl, refl)
completes ls fs (plain bytes last) = (_, _, refl, refl)
completes ls fs (inside content) = (_, _, refl, refl)
completes ls fs (closed content) = (_, _, refl, refl)
completes ls fs (returned f) = (_, _, refl, refl)

-- what is run over is viable
pub viable-from_run : (bytes : List ℕ) (p : Progress) → run initial bytes ≡ Some p → IsViable bytes
viable-from_run bytes p e =
    let c = completes p.lines p.fields p.mode in record {
      more = completion p.mode;
      records = records_of c.1;
      are = whole (bytes ++ completion p.mode) c.0 c.1 (run_on initial p bytes (completion p.mode) e ∙ c.2) c.3;
    }

-- what is viable is run over
pub run-from_viable : (bytes : List ℕ) → IsViable bytes → (p : Progress) × (run initial bytes ≡ Some p)
run-from_viable bytes v =
    let all = records-run (bytes ++ v.more) v.records v.are in
    let front = run_front initial all.0 bytes v.more all.1 in (front.0, front.1)

-- what is not run over is not viable
pub not_viable : (bytes : List ℕ) → run initial bytes ≡ None → ¬ (IsViable bytes)
not_viable bytes none v = let read = run-from_viable bytes v in none-some read.0 (sym none ∙ read.1)

-- a front of a viable text is viable
pub viable_front : (bytes more : List ℕ) → IsViable (bytes ++ more) → IsViable bytes
viable_front bytes more v =
    let all = run-from_viable (bytes ++ more) v in
    let front = run_front initial all.0 bytes more all.1 in
    viable-from_run bytes front.0 front.1

-- ---- where a run stops

-- no run passes the place where one stopped
pub not_past : (bytes : List ℕ) (n : ℕ) (p : Progress) → n < length bytes → run initial (take n bytes) ≡ Some p
    → step p (slice_index bytes n) ≡ None → (m : ℕ) → n < m → run initial (take m bytes) ≡ None
not_past bytes n p less e stop m past =
    ap (run initial) (sym (take-append-drop (n + 1) (take m bytes)))
    ∙ run_on_none initial (take (n + 1) (take m bytes)) (drop (n + 1) (take m bytes))
    (ap (run initial) (take-take (n + 1) m bytes (omega arith)) ∙ (run_take_more initial p bytes n less e ∙ stop))

-- where a run stops within the text, there its fault is
pub stuck : (bytes : List ℕ) (n : ℕ) (p : Progress) → n < length bytes → run initial (take n bytes) ≡ Some p
    → step p (slice_index bytes n) ≡ None → HasFault bytes n (cause_at bytes n)
stuck bytes n p less e stop = record {
  outside = λ records are.
      let read = records-run bytes records are in
      none-some read.0 (sym (not_past bytes n p less e stop (length bytes) less)
      ∙ (ap (run initial) (take_all (length bytes) bytes (le_refl (length bytes))) ∙ read.1));
  within = omega (arith, less);
  viable = viable-from_run (take n bytes) p e;
  longest = λ m within v. up_to m v (cases_lt n m);
  why = refl;
}
  where
    up_to : (m : ℕ) → IsViable (take m bytes) → (n < m) ⊎ (m ≤ n) → m ≤ n
    up_to m v (inl past) = absurd (not_viable (take m bytes) (not_past bytes n p less e stop m past) v)
    up_to m v (inr within) = within

-- where a run reaches the end of the text and may not end, there its fault is
pub open_end : (bytes : List ℕ) (p : Progress) → run initial bytes ≡ Some p → finish p ≡ None → HasFault bytes (length bytes) unfinished
open_end bytes p e none = record {
  outside = λ records are. let end = records-finish bytes records p are e in none-some end.0 (sym none ∙ end.1);
  within = le_refl (length bytes);
  viable = viable-from_run (take (length bytes) bytes) p (ap (run initial) (take_all (length bytes) bytes (le_refl (length bytes))) ∙ e);
  longest = λ m within v. within;
  why = rw (eq-eqb (length bytes) (length bytes) refl) refl;
}

-- a run that comes to nothing stops at a first place
pub first_stop : (p : Progress) (bytes : List ℕ) → run p bytes ≡ None
    → (n : ℕ) × (q : Progress) × (n < length bytes) × (run p (take n bytes) ≡ Some q) × (step q (slice_index bytes n) ≡ None)
first_stop p [] none = absurd (none-some p (sym none))
first_stop p (b ∷ bytes) none = on (λ r. first_stop r bytes) (step p b) refl
  where
    on : ((r : Progress) → run r bytes ≡ None
        → (n : ℕ) × (q : Progress) × (n < length bytes) × (run r (take n bytes) ≡ Some q) × (step q (slice_index bytes n) ≡ None))
        → (o : Option Progress) → step p b ≡ o
        → (n : ℕ) × (q : Progress) × (n < length (b ∷ bytes)) × (run p (take n (b ∷ bytes)) ≡ Some q) × (step q (slice_index (b ∷ bytes) n) ≡ None)
    on later None e = (zero, p, omega arith, refl, e)
    on later (Some r) e =
        let rest = later r (sym (ap (option_and_then (λ q. run q bytes)) e) ∙ none) in
        (suc rest.0, rest.1, omega (arith, rest.2), ap (option_and_then (λ q. run q (take rest.0 bytes))) e ∙ rest.3, rest.4)

-- ---- at most one fault

-- a text has one fault at most
pub fault_unique : (bytes : List ℕ) (p q : ℕ) (c d : Cause) → HasFault bytes p c → HasFault bytes q d → (p ≡ q) × (c ≡ d)
fault_unique bytes p q c d one two =
    let below = two.longest p one.within one.viable in
    let above = one.longest q two.within two.viable in
    let same : p ≡ q = omega (arith, below, above) in
    (same, one.why ∙ (ap (cause_at bytes) same ∙ sym two.why))

-- ---- records or a fault

-- a text has records or a fault, by where its run comes to
pub records_or_stop : (bytes : List ℕ)
    → ((records : List (List Field)) × AreRecords bytes records) ⊎ ((place : ℕ) × (cause : Cause) × HasFault bytes place cause)
records_or_stop bytes = on (run initial bytes) refl
  where
    ended : (p : Progress) → run initial bytes ≡ Some p → (o : Option CsvText) → finish p ≡ o
        → ((records : List (List Field)) × AreRecords bytes records) ⊎ ((place : ℕ) × (cause : Cause) × HasFault bytes place cause)
    ended p e None end = inr (length bytes, unfinished, open_end bytes p e end)
    ended p e (Some text) end = inl (records_of text, whole bytes p text e end)

    on : (o : Option Progress) → run initial bytes ≡ o
        → ((records : List (List Field)) × AreRecords bytes records) ⊎ ((place : ℕ) × (cause : Cause) × HasFault bytes place cause)
    on None e = let stop = first_stop initial bytes e in inr (stop.0, cause_at bytes stop.0, stuck bytes stop.0 stop.1 stop.2 stop.3 stop.4)
    on (Some p) e = ended p e (finish p) refl
