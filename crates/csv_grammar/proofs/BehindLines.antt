-- After lines the machine goes on as it goes from the start.
use Rattle.std.proofs.Common.{◌≡◌, ℕ, Bool, true, false, cond, List, [], ◌∷◌, ◌++◌, ◌==◌, Option, Some, None, refl, sym, ap, ◌∙◌, append_assoc, append-nil}
use Rattle.std.specs.Prelude.{option_map, option_and_then}
use Rattle.std.proofs.lemmas.Option.{same_Some}
use Rattle.csv_grammar.specs.Bytes.{double_quote, comma, carriage_return, line_feed}
use Rattle.csv_grammar.specs.Records.{Field, unquoted, quoted, crlf, lf, Line, CsvText, records_of, AreRecords}
use Rattle.csv_grammar.specs.Pieces.{AreLines}
use Rattle.csv_grammar.specs.Faults.{IsViable}
use Rattle.csv_grammar.proofs.Machine.{Mode, start, plain, inside, closed, returned, Progress, initial, moved, next_field, next_line, after_field, step, run, finish}
use Rattle.csv_grammar.proofs.Runs.{progress_at, run_on}
use Rattle.csv_grammar.proofs.ReadsBack.{lines_run}
use Rattle.csv_grammar.proofs.Viable.{whole, records-run, records-finish, viable-from_run, run-from_viable}

-- ---- the machine after lines

-- the same with more lines before
abbrev pub behind : List Line → Progress → Progress
behind before p = record p { lines = before ++ p.lines }

after_field_behind : (before : List Line) (p : Progress) (f : Field) (b : ℕ) (other : Option Progress)
    → after_field (behind before p) f b (option_map (behind before) other) ≡ option_map (behind before) (after_field p f b other)
after_field_behind before p f b other = on (b == comma) (b == carriage_return) (b == line_feed)
  where
    on : (x y z : Bool)
        → cond x (Some (next_field (behind before p) f)) (cond y (Some (moved (behind before p) (returned f))) (cond z (Some (next_line (behind before p) f lf)) (option_map (behind before) other)))
        ≡ option_map (behind before) (cond x (Some (next_field p f)) (cond y (Some (moved p (returned f))) (cond z (Some (next_line p f lf)) other)))
    on true y z = refl
    on false true z = refl
    on false false true = ap (λ ls. Some (progress_at ls [] start)) (append_assoc before p.lines (record { fields = p.fields ++ f ∷ []; end = lf } ∷ []))
    on false false false = refl

step_behind : (before ls : List Line) (fs : List Field) (m : Mode) (b : ℕ)
    → step (progress_at (before ++ ls) fs m) b ≡ option_map (behind before) (step (progress_at ls fs m) b)
step_behind before ls fs start b = on (b == double_quote) (after_field_behind before (progress_at ls fs start) (unquoted []) b (Some (progress_at ls fs (plain [] b))))
  where
    on : (x : Bool) → after_field (progress_at (before ++ ls) fs start) (unquoted []) b (Some (progress_at (before ++ ls) fs (plain [] b))) ≡ option_map (behind before) (after_field (progress_at ls fs start) (unquoted []) b (Some (progress_at ls fs (plain [] b))))
        → cond x (Some (progress_at (before ++ ls) fs (inside []))) (after_field (progress_at (before ++ ls) fs start) (unquoted []) b (Some (progress_at (before ++ ls) fs (plain [] b))))
        ≡ option_map (behind before) (cond x (Some (progress_at ls fs (inside []))) (after_field (progress_at ls fs start) (unquoted []) b (Some (progress_at ls fs (plain [] b)))))
    on true e = refl
    on false e = e
step_behind before ls fs (plain bytes last) b = on (b == double_quote) (after_field_behind before (progress_at ls fs (plain bytes last)) (unquoted (bytes ++ last ∷ [])) b (Some (progress_at ls fs (plain (bytes ++ last ∷ []) b))))
  where
    on : (x : Bool) → after_field (progress_at (before ++ ls) fs (plain bytes last)) (unquoted (bytes ++ last ∷ [])) b (Some (progress_at (before ++ ls) fs (plain (bytes ++ last ∷ []) b)))
        ≡ option_map (behind before) (after_field (progress_at ls fs (plain bytes last)) (unquoted (bytes ++ last ∷ [])) b (Some (progress_at ls fs (plain (bytes ++ last ∷ []) b))))
        → cond x None (after_field (progress_at (before ++ ls) fs (plain bytes last)) (unquoted (bytes ++ last ∷ [])) b (Some (progress_at (before ++ ls) fs (plain (bytes ++ last ∷ []) b))))
        ≡ option_map (behind before) (cond x None (after_field (progress_at ls fs (plain bytes last)) (unquoted (bytes ++ last ∷ [])) b (Some (progress_at ls fs (plain (bytes ++ last ∷ []) b)))))
    on true e = refl
    on false e = e
step_behind before ls fs (inside content) b = on (b == double_quote)
  where
    on : (x : Bool) → cond x (Some (progress_at (before ++ ls) fs (closed content))) (Some (progress_at (before ++ ls) fs (inside (content ++ b ∷ []))))
        ≡ option_map (behind before) (cond x (Some (progress_at ls fs (closed content))) (Some (progress_at ls fs (inside (content ++ b ∷ [])))))
    on true = refl
    on false = refl
step_behind before ls fs (closed content) b = on (b == double_quote) (after_field_behind before (progress_at ls fs (closed content)) (quoted content) b None)
  where
    on : (x : Bool) → after_field (progress_at (before ++ ls) fs (closed content)) (quoted content) b None ≡ option_map (behind before) (after_field (progress_at ls fs (closed content)) (quoted content) b None)
        → cond x (Some (progress_at (before ++ ls) fs (inside (content ++ double_quote ∷ [])))) (after_field (progress_at (before ++ ls) fs (closed content)) (quoted content) b None)
        ≡ option_map (behind before) (cond x (Some (progress_at ls fs (inside (content ++ double_quote ∷ [])))) (after_field (progress_at ls fs (closed content)) (quoted content) b None))
    on true e = refl
    on false e = e
step_behind before ls fs (returned f) b = on (b == line_feed)
  where
    on : (x : Bool) → cond x (Some (next_line (progress_at (before ++ ls) fs (returned f)) f crlf)) None
        ≡ option_map (behind before) (cond x (Some (next_line (progress_at ls fs (returned f)) f crlf)) None)
    on true = ap (λ lines. Some (progress_at lines [] start)) (append_assoc before ls (record { fields = fs ++ f ∷ []; end = crlf } ∷ []))
    on false = refl

run_behind : (before : List Line) (p : Progress) (bytes : List ℕ) → run (behind before p) bytes ≡ option_map (behind before) (run p bytes)
run_behind before p [] = refl
run_behind before p (b ∷ bytes) =
    ap (option_and_then (λ q. run q bytes)) (step_behind before p.lines p.fields p.mode b) ∙ on (λ q. run_behind before q bytes) (step p b)
  where
    on : ((q : Progress) → run (behind before q) bytes ≡ option_map (behind before) (run q bytes)) → (o : Option Progress)
        → option_and_then (λ q. run q bytes) (option_map (behind before) o) ≡ option_map (behind before) (option_and_then (λ q. run q bytes) o)
    on each None = refl
    on each (Some q) = each q

-- ---- lines

-- after lines the machine is at the start of a record
abbrev pub line_start : List Line → Progress
line_start lines = progress_at lines [] start

pub run_lines : (bytes : List ℕ) (records : List (List Field)) → (are : AreLines bytes records) → run initial bytes ≡ Some (line_start are.lines)
run_lines bytes records are = ap (run initial) are.printed ∙ lines_run [] are.lines are.valid

-- so it goes on as from the start
pub run_after : (front more : List ℕ) (records : List (List Field)) → (are : AreLines front records)
    → run initial (front ++ more) ≡ option_map (behind are.lines) (run initial more)
run_after front more records are =
    run_on initial (line_start are.lines) front more (run_lines front records are)
    ∙ (ap (λ ls. run (progress_at ls [] start) more) (sym (append-nil are.lines)) ∙ run_behind are.lines initial more)

-- where it comes to, more lines stand before
run_rest : (front more : List ℕ) (records : List (List Field)) → (are : AreLines front records) → (p : Progress) → run initial (front ++ more) ≡ Some p
    → (q : Progress) × (run initial more ≡ Some q) × (p ≡ behind are.lines q)
run_rest front more records are p e = on (run initial more) refl (sym (run_after front more records are) ∙ e)
  where
    on : (o : Option Progress) → run initial more ≡ o → option_map (behind are.lines) o ≡ Some p → (q : Progress) × (run initial more ≡ Some q) × (p ≡ behind are.lines q)
    on None is none = cc
    on (Some q) is some = (q, is, same_Some p (behind are.lines q) (sym some))

pub viable_after : (front more : List ℕ) (records : List (List Field)) → AreLines front records → IsViable more → IsViable (front ++ more)
viable_after front more records are v =
    let read = run-from_viable more v in
    viable-from_run (front ++ more) (behind are.lines read.0) (run_after front more records are ∙ ap (option_map (behind are.lines)) read.1)

pub viable_rest : (front more : List ℕ) (records : List (List Field)) → AreLines front records → IsViable (front ++ more) → IsViable more
viable_rest front more records are v =
    let read = run-from_viable (front ++ more) v in
    let rest = run_rest front more records are read.0 read.1 in
    viable-from_run more rest.0 rest.1

-- where it may end after lines, it may end without them
ends_without : (before ls : List Line) (fs : List Field) (m : Mode) (text : CsvText) → finish (progress_at (before ++ ls) fs m) ≡ Some text
    → (t : CsvText) × (finish (progress_at ls fs m) ≡ Some t)
ends_without before ls fs start text e = (_, refl)
ends_without before ls fs (plain bytes last) text e = (_, refl)
ends_without before ls fs (inside content) text e = cc
ends_without before ls fs (closed content) text e = (_, refl)
ends_without before ls fs (returned f) text e = cc

pub records_rest : (front more : List ℕ) (records all : List (List Field)) → AreLines front records → AreRecords (front ++ more) all
    → (others : List (List Field)) × AreRecords more others
records_rest front more records all are them =
    let read = records-run (front ++ more) all them in
    let rest = run_rest front more records are read.0 read.1 in
    let end = records-finish (front ++ more) all read.0 them read.1 in
    let q = rest.0 in
    let without = ends_without are.lines q.lines q.fields q.mode end.0 (ap finish (sym rest.2) ∙ end.1) in
    (records_of without.0, whole more q without.0 rest.1 without.1)
