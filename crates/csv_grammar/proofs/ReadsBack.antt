-- Reading the bytes of a tree gives the tree back.
use Rattle.std.proofs.Common.{◌≡◌, ℕ, ◌<◌, List, [], ◌∷◌, ◌++◌, length, Option, Some, None, refl, sym, ap, ◌∙◌, subst, append_assoc, append-nil, arith, ◌==◌, false, ne_eqb, inl, inr, ◌⊎◌}
use Rattle.std.specs.Prelude.{option_and_then, IsTrue, IfSome}
use Rattle.std.specs.List.{flat_map, AllByRecursion}
use Rattle.std.proofs.lemmas.Bool.{false≢true, cases_eq}
use Rattle.csv_grammar.specs.Bytes.{double_quote, comma, carriage_return, line_feed}
use Rattle.csv_grammar.specs.Records.{Field, unquoted, quoted, LineBreak, crlf, lf, Line, CsvText, is_plain, doubled, print_break, print_field, print_record, print_line, print_last, print_text, IsField, IsRecord, IsLast, IsText}
use Rattle.csv_grammar.proofs.ByteKinds.{Kind, a_quote, a_comma, a_return, a_feed, an_other, kind_of}
use Rattle.csv_grammar.proofs.Machine.{Mode, start, plain, inside, closed, Progress, initial, step, run, finish}
use Rattle.csv_grammar.proofs.Runs.{progress_at, run_on}

-- the mode stands after this field
pub data Stands : Mode → Field → Type 0 where
  at_start : Stands start (unquoted [])
  in_plain : (bytes : List ℕ) (last : ℕ) → Stands (plain bytes last) (unquoted (bytes ++ last ∷ []))
  at_quote : (content : List ℕ) → Stands (closed content) (quoted content)

-- ---- a field

-- a plain byte is none of the four
pub tests-from_plain : (b : ℕ) → IsTrue (is_plain b)
    → (b == double_quote ≡ false) × (b == comma ≡ false) × (b == carriage_return ≡ false) × (b == line_feed ≡ false)
tests-from_plain b h = on b (kind_of b) h
  where
    on : (b : ℕ) → Kind b → IsTrue (is_plain b)
        → (b == double_quote ≡ false) × (b == comma ≡ false) × (b == carriage_return ≡ false) × (b == line_feed ≡ false)
    on b a_quote h = absurd (false≢true h)
    on b a_comma h = absurd (false≢true h)
    on b a_return h = absurd (false≢true h)
    on b a_feed h = absurd (false≢true h)
    on b (an_other _ q c x n) h = (q, c, x, n)

-- more plain bytes of a field outside quotes
plain_run : (lines : List Line) (fields : List Field) (front : List ℕ) (last : ℕ) (bytes : List ℕ)
    → AllByRecursion (λ b. IsTrue (is_plain b)) bytes
    → (m : Mode) × (run (progress_at lines fields (plain front last)) bytes ≡ Some (progress_at lines fields m)) × Stands m (unquoted ((front ++ last ∷ []) ++ bytes))
plain_run ls fs front last [] valid =
    (plain front last, refl, subst (λ bytes. Stands (plain front last) (unquoted bytes)) (sym (append-nil (front ++ last ∷ []))) (in_plain front last))
plain_run ls fs front last (b ∷ bytes) valid =
    let tests = tests-from_plain b valid.0 in
    let rest = plain_run ls fs (front ++ last ∷ []) b bytes valid.1 in (
      rest.0,
      rw (tests.0, tests.1, tests.2, tests.3) rest.1,
      subst (λ w. Stands rest.0 (unquoted w)) (append_assoc (front ++ last ∷ []) (b ∷ []) bytes) rest.2,
    )

-- a content inside quotes
inside_run : (lines : List Line) (fields : List Field) (front bytes rest : List ℕ)
    → run (progress_at lines fields (inside front)) (doubled bytes ++ rest) ≡ run (progress_at lines fields (inside (front ++ bytes))) rest
inside_run ls fs front [] rest = rw (append-nil front) refl
inside_run ls fs front (b ∷ bytes) rest = on (cases_eq b double_quote) (inside_run ls fs (front ++ b ∷ []) bytes rest)
  where
    on : (b ≡ double_quote) ⊎ (b ≡ double_quote → ⊥)
        → run (progress_at ls fs (inside (front ++ b ∷ []))) (doubled bytes ++ rest) ≡ run (progress_at ls fs (inside ((front ++ b ∷ []) ++ bytes))) rest
        → run (progress_at ls fs (inside front)) (doubled (b ∷ bytes) ++ rest) ≡ run (progress_at ls fs (inside (front ++ b ∷ bytes))) rest
    on (inl same) ih = rw same ((rw same at ih) ∙ ap (λ w. run (progress_at ls fs (inside w)) rest) (append_assoc front (double_quote ∷ []) bytes))
    on (inr other) ih = let n = ne_eqb b double_quote other in rw n (rw n (ih ∙ ap (λ w. run (progress_at ls fs (inside w)) rest) (append_assoc front (b ∷ []) bytes)))

-- the bytes of a field lead to a mode that stands after it
field_run : (lines : List Line) (fields : List Field) (f : Field) → IsField f
    → (m : Mode) × (run (progress_at lines fields start) (print_field f) ≡ Some (progress_at lines fields m)) × Stands m f
field_run ls fs (unquoted []) valid = (start, refl, at_start)
field_run ls fs (unquoted (b ∷ bytes)) valid =
    let tests = tests-from_plain b valid.0 in
    let rest = plain_run ls fs [] b bytes valid.1 in
    (rest.0, rw (tests.0, tests.1, tests.2, tests.3) rest.1, rest.2)
field_run ls fs (quoted content) valid = (closed content, inside_run ls fs [] content (double_quote ∷ []), at_quote content)

-- ---- a record

-- the progress stands after a record of these fields, and before what ends it
pub record IsBehind (lines : List Line) (fields : List Field) (q : Progress) : Type 0 where
  pub before : List Field
  pub last : Field
  pub mode : Mode
  pub is : q ≡ progress_at lines before mode
  pub stands : Stands mode last
  pub whole : fields ≡ before ++ last ∷ []

-- a comma after a field
comma_step : (lines : List Line) (fields : List Field) (m : Mode) (f : Field) → Stands m f
    → step (progress_at lines fields m) comma ≡ Some (progress_at lines (fields ++ f ∷ []) start)
comma_step ls fs m f at_start = refl
comma_step ls fs m f (in_plain bytes last) = refl
comma_step ls fs m f (at_quote content) = refl

-- the bytes of a record, also after fields of it that were read
record_run : (lines : List Line) (before fields : List Field) → IsRecord fields
    → (q : Progress) × (run (progress_at lines before start) (print_record fields) ≡ Some q) × IsBehind lines (before ++ fields) q
record_run ls fs [] valid = absurd (omega (arith, valid.0))
record_run ls fs (f ∷ []) valid =
    let read = field_run ls fs f valid.1.0 in
    (progress_at ls fs read.0, read.1, record { before = fs; last = f; mode = read.0; is = refl; stands = read.2; whole = refl })
record_run ls fs (f ∷ g ∷ gs) valid =
    let read = field_run ls fs f valid.1.0 in
    let rest = record_run ls (fs ++ f ∷ []) (g ∷ gs) (omega arith, valid.1.1) in (
      rest.0,
      run_on (progress_at ls fs start) (progress_at ls fs read.0) (print_field f) (comma ∷ print_record (g ∷ gs)) read.1
          ∙ (ap (option_and_then (λ q. run q (print_record (g ∷ gs)))) (comma_step ls fs read.0 f read.2) ∙ rest.1),
      subst (λ w. IsBehind ls w rest.0) (append_assoc fs (f ∷ []) (g ∷ gs)) rest.2,
    )

-- ---- the end of a record

-- a line break after a record
break_run : (lines : List Line) (fields : List Field) (q : Progress) (end : LineBreak) → IsBehind lines fields q
    → run q (print_break end) ≡ Some (progress_at (lines ++ record { fields = fields; end = end } ∷ []) [] start)
break_run ls fs q end behind = rw (behind.is, behind.whole) (on behind.before behind.last behind.mode end behind.stands)
  where
    on : (before : List Field) (last : Field) (mode : Mode) (e : LineBreak) → Stands mode last
        → run (progress_at ls before mode) (print_break e) ≡ Some (progress_at (ls ++ record { fields = before ++ last ∷ []; end = e } ∷ []) [] start)
    on before last mode crlf at_start = refl
    on before last mode crlf (in_plain bytes b) = refl
    on before last mode crlf (at_quote content) = refl
    on before last mode lf at_start = refl
    on before last mode lf (in_plain bytes b) = refl
    on before last mode lf (at_quote content) = refl

-- the end of the text after a record that has bytes
last_run : (lines : List Line) (fields : List Field) (q : Progress) → IsBehind lines fields q → 0 < length (print_record fields)
    → finish q ≡ Some (record { lines = lines; last = Some fields })
last_run ls fs q behind long =
    rw (behind.is, behind.whole) (on behind.before behind.last behind.mode behind.stands (rw behind.whole at long))
  where
    on : (before : List Field) (last : Field) (mode : Mode) → Stands mode last → 0 < length (print_record (before ++ last ∷ []))
        → finish (progress_at ls before mode) ≡ Some (record { lines = ls; last = Some (before ++ last ∷ []) })
    on [] last mode at_start l = absurd (omega (arith, l))
    on (f ∷ gs) last mode at_start l = refl
    on before last mode (in_plain bytes b) l = refl
    on before last mode (at_quote content) l = refl

-- ---- a text

-- lines after lines
pub lines_run : (before lines : List Line) → AllByRecursion (λ line. IsRecord line.fields) lines
    → run (progress_at before [] start) (flat_map print_line lines) ≡ Some (progress_at (before ++ lines) [] start)
lines_run before [] valid = rw (append-nil before) refl
lines_run before (line ∷ lines) valid =
    let read = record_run before [] line.fields valid.0 in
    let this = run_on (progress_at before [] start) read.0 (print_record line.fields) (print_break line.end) read.1
    ∙ break_run before line.fields read.0 line.end read.2 in
    run_on (progress_at before [] start) (progress_at (before ++ line ∷ []) [] start) (print_line line) (flat_map print_line lines) this
    ∙ (lines_run (before ++ line ∷ []) lines valid.1 ∙ ap (λ w. Some (progress_at w [] start)) (append_assoc before (line ∷ []) lines))

-- the machine reads the bytes of a valid tree, and gives the tree
pub read_text : (text : CsvText) → IsText text → (p : Progress) × (run initial (print_text text) ≡ Some p) × (finish p ≡ Some text)
read_text text valid = on text.lines text.last valid.lines valid.last
  where
    on : (lines : List Line) (last : Option (List Field)) → AllByRecursion (λ line. IsRecord line.fields) lines → IfSome last IsLast
        → (p : Progress) × (run initial (flat_map print_line lines ++ print_last last) ≡ Some p) × (finish p ≡ Some (record { lines = lines; last = last }))
    on lines None each end = (
      progress_at lines [] start,
      run_on initial (progress_at lines [] start) (flat_map print_line lines) [] (lines_run [] lines each),
      refl,
    )
    on lines (Some fields) each end =
        let read = record_run lines [] fields end.0 in (
          read.0,
          run_on initial (progress_at lines [] start) (flat_map print_line lines) (print_record fields) (lines_run [] lines each) ∙ read.1,
          last_run lines fields read.0 read.2 end.1,
        )
