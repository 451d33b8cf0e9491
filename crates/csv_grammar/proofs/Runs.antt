-- Runs of the machine over a text: joined runs, and that what a run has read is the text.
use Rattle.std.proofs.Common.{◌≡◌, ℕ, ◌+◌, ◌<◌, List, [], ◌∷◌, ◌++◌, take, length, Bool, true, false, cond, ◌==◌, subst, Option, Some, None, refl, sym, ap, ◌∙◌, append_assoc, append-nil, arith, length-append}
use Rattle.std.specs.Prelude.{option_and_then, slice_index, IfSome, IsTrue, ⊤}
use Rattle.std.specs.List.{flat_map, AllByRecursion}
use Rattle.std.proofs.lemmas.Option.{same_Some, option_and_then_some}
use Rattle.std.proofs.lemmas.List.{take_more, flat_map_more}
use Rattle.std.proofs.SliceLists.{all_by_recursion_push}
use Rattle.csv_grammar.specs.Bytes.{double_quote, comma, carriage_return, line_feed}
use Rattle.csv_grammar.specs.Records.{Field, unquoted, quoted, LineBreak, print_break, crlf, lf, Line, CsvText, is_plain, doubled, print_field, print_record, print_line, print_text, IsField, IsRecord, IsText}
use Rattle.csv_grammar.proofs.ByteKinds.{Kind, a_quote, a_comma, a_return, a_feed, an_other, kind_of, plain_from_other}
use Rattle.csv_grammar.proofs.Machine.{Mode, start, plain, inside, closed, returned, Progress, initial, moved, next_field, next_line, step, run, finish, ended}

-- ---- joined runs

-- a run over joined texts is a run over the one and then the other
pub run-append : (p : Progress) (xs ys : List ℕ) → run p (xs ++ ys) ≡ option_and_then (λ q. run q ys) (run p xs)
run-append p [] ys = refl
run-append p (b ∷ xs) ys = on (λ q. run-append q xs ys) (step p b)
  where
    on : ((q : Progress) → run q (xs ++ ys) ≡ option_and_then (λ r. run r ys) (run q xs)) → (o : Option Progress)
        → option_and_then (λ q. run q (xs ++ ys)) o ≡ option_and_then (λ q. run q ys) (option_and_then (λ q. run q xs) o)
    on each None = refl
    on each (Some q) = each q

-- the same, where the first run is known
pub run_on : (p q : Progress) (xs ys : List ℕ) → run p xs ≡ Some q → run p (xs ++ ys) ≡ run q ys
run_on p q xs ys e = run-append p xs ys ∙ ap (option_and_then (λ r. run r ys)) e

-- where the first run has stopped, so has the whole
pub run_on_none : (p : Progress) (xs ys : List ℕ) → run p xs ≡ None → run p (xs ++ ys) ≡ None
run_on_none p xs ys e = run-append p xs ys ∙ ap (option_and_then (λ r. run r ys)) e

-- a run of one byte is a step
pub run_one : (p : Progress) (b : ℕ) → run p (b ∷ []) ≡ step p b
run_one p b = on (step p b)
  where
    on : (o : Option Progress) → option_and_then (λ q. run q []) o ≡ o
    on None = refl
    on (Some q) = refl

-- one byte more is one step more
pub run_more : (p q : Progress) (xs : List ℕ) (b : ℕ) → run p xs ≡ Some q → run p (xs ++ b ∷ []) ≡ step q b
run_more p q xs b e = run_on p q xs (b ∷ []) e ∙ run_one q b

-- the same, for a loop over the fronts of a text
pub run_take_more : (p q : Progress) (bytes : List ℕ) (n : ℕ) → n < length bytes → run p (take n bytes) ≡ Some q
    → run p (take (n + 1) bytes) ≡ step q (slice_index bytes n)
run_take_more p q bytes n less e = ap (run p) (take_more bytes n 0 less) ∙ run_more p q (take n bytes) (slice_index bytes n) e

-- a run over joined texts has run over the first
pub run_front : (p q : Progress) (xs ys : List ℕ) → run p (xs ++ ys) ≡ Some q → (r : Progress) × (run p xs ≡ Some r) × (run r ys ≡ Some q)
run_front p q xs ys e = on (run p xs) refl
  where
    on : (o : Option Progress) → run p xs ≡ o → (r : Progress) × (run p xs ≡ Some r) × (run r ys ≡ Some q)
    on None none = cc (run_on_none p xs ys none, e)
    on (Some r) some = (r, some, sym (run_on p r xs ys some) ∙ e)

-- ---- what a run has read

-- the bytes of a field and the comma after it
abbrev pub print_field_comma : Field → List ℕ
print_field_comma field = print_field field ++ comma ∷ []

-- the bytes of the fields read, each with its comma
abbrev pub printed_fields : List Field → List ℕ
printed_fields fields = flat_map print_field_comma fields

-- the bytes read after those
abbrev pub printed_mode : Mode → List ℕ
printed_mode start = []
printed_mode (plain bytes last) = bytes ++ last ∷ []
printed_mode (inside content) = double_quote ∷ doubled content
printed_mode (closed content) = print_field (quoted content)
printed_mode (returned field) = print_field field ++ carriage_return ∷ []

-- the bytes read so far
abbrev pub printed : Progress → List ℕ
printed p = flat_map print_line p.lines ++ (printed_fields p.fields ++ printed_mode p.mode)

-- what a mode keeps is of its form
abbrev pub IsReachedMode : Mode → Type 0
IsReachedMode start = ⊤
IsReachedMode (plain bytes last) = IsField (unquoted (bytes ++ last ∷ []))
IsReachedMode (inside content) = ⊤
IsReachedMode (closed content) = ⊤
IsReachedMode (returned field) = IsField field

-- what was read is of its form
pub record IsReached (p : Progress) : Type 0 where
  pub lines : AllByRecursion (λ line. IsRecord line.fields) p.lines
  pub fields : AllByRecursion IsField p.fields
  pub mode : IsReachedMode p.mode

-- q has read what p has, and then the byte
abbrev pub IsNext : Progress → ℕ → Progress → Type 0
IsNext p b q = IsReached q × (printed q ≡ printed p ++ b ∷ [])

-- the progress with these parts
abbrev pub progress_at : List Line → List Field → Mode → Progress
progress_at lines fields mode = record { lines = lines; fields = fields; mode = mode }

-- a list joined end to end, with one item more
pub flat_map_push : {X Y : Type 0} (f : X → List Y) (xs : List X) (x : X) → flat_map f (xs ++ x ∷ []) ≡ flat_map f xs ++ f x
flat_map_push f xs x = sym (flat_map_more f [] xs x)

-- a record's bytes: its fields with their commas, and the last field
pub print_record_push : (fields : List Field) (last : Field) → print_record (fields ++ last ∷ []) ≡ printed_fields fields ++ print_field last
print_record_push [] last = refl
print_record_push (field ∷ []) last = regroup (print_field field) (print_field last)
  where
    regroup : (a b : List ℕ) → a ++ comma ∷ b ≡ ((a ++ comma ∷ []) ++ []) ++ b
    regroup a b = simp (append_assoc, append-nil)
print_record_push (field ∷ next ∷ fields) last =
    ap (λ bytes. print_field field ++ comma ∷ bytes) (print_record_push (next ∷ fields) last)
    ∙ regroup (print_field field) (printed_fields (next ∷ fields)) (print_field last)
  where
    regroup : (a b c : List ℕ) → a ++ comma ∷ (b ++ c) ≡ ((a ++ comma ∷ []) ++ b) ++ c
    regroup a b c = simp append_assoc

-- fields and one field more are a record
pub record_push : (fields : List Field) (last : Field) → AllByRecursion IsField fields → IsField last → IsRecord (fields ++ last ∷ [])
record_push fields last all h = (rw (length-append fields (last ∷ [])) (omega arith), all_by_recursion_push IsField fields last all h)

-- the doubled content of joined contents
pub doubled-append : (xs ys : List ℕ) → doubled (xs ++ ys) ≡ doubled xs ++ doubled ys
doubled-append [] ys = refl
doubled-append (b ∷ xs) ys = on (b == double_quote) (doubled-append xs ys)
  where
    on : (t : Bool) → doubled (xs ++ ys) ≡ doubled xs ++ doubled ys
        → cond t (double_quote ∷ double_quote ∷ doubled (xs ++ ys)) (b ∷ doubled (xs ++ ys))
        ≡ cond t (double_quote ∷ double_quote ∷ doubled xs) (b ∷ doubled xs) ++ doubled ys
    on true e = ap (λ bytes. double_quote ∷ double_quote ∷ bytes) e
    on false e = ap (λ bytes. b ∷ bytes) e

-- ---- a step reads its byte

-- a step that keeps the lines and the fields: the new mode's bytes are the old mode's and the byte
to_mode : (lines : List Line) (fields : List Field) (m n : Mode) (b : ℕ) → IsReached (progress_at lines fields m) → IsReachedMode n
    → printed_mode n ≡ printed_mode m ++ b ∷ [] → IsNext (progress_at lines fields m) b (progress_at lines fields n)
to_mode lines fields m n b reached valid e = (
  record { lines = reached.lines; fields = reached.fields; mode = valid },
  rw e (regroup (flat_map print_line lines) (printed_fields fields) (printed_mode m)),
)
  where
    regroup : (l f w : List ℕ) → l ++ (f ++ (w ++ b ∷ [])) ≡ (l ++ (f ++ w)) ++ b ∷ []
    regroup l f w = simp append_assoc

-- after a field: a comma, CR or LF
module _ (lines : List Line) (fields : List Field) (m : Mode) (f : Field) where
  -- the comma
  at_comma : IsReached (progress_at lines fields m) → IsField f → printed_mode m ≡ print_field f
      → IsNext (progress_at lines fields m) comma (next_field (progress_at lines fields m) f)
  at_comma reached valid e = (
    record { lines = reached.lines; fields = all_by_recursion_push IsField fields f reached.fields valid; mode = tt },
    rw (flat_map_push print_field_comma fields f, e) (regroup (flat_map print_line lines) (printed_fields fields) (print_field f)),
  )
    where
      regroup : (l g w : List ℕ) → l ++ ((g ++ (w ++ comma ∷ [])) ++ []) ≡ (l ++ (g ++ w)) ++ comma ∷ []
      regroup l g w = simp (append_assoc, append-nil)

  -- the CR
  at_return : IsReached (progress_at lines fields m) → IsField f → printed_mode m ≡ print_field f
      → IsNext (progress_at lines fields m) carriage_return (moved (progress_at lines fields m) (returned f))
  at_return reached valid e = to_mode lines fields m (returned f) carriage_return reached valid (rw e refl)

  -- a line break's last byte, where the bytes before it were read
  at_break : (end : LineBreak) (cr : List ℕ) (b : ℕ) → IsReached (progress_at lines fields m) → IsField f
      → print_break end ≡ cr ++ b ∷ [] → printed_mode m ≡ print_field f ++ cr
      → IsNext (progress_at lines fields m) b (next_line (progress_at lines fields m) f end)
  at_break end cr b reached valid ends e = (
    record {
      lines = all_by_recursion_push (λ line. IsRecord line.fields) lines line reached.lines (record_push fields f reached.fields valid);
      fields = tt;
      mode = tt;
    },
    rw (flat_map_push print_line lines line, print_record_push fields f, ends, e)
        (regroup (flat_map print_line lines) (printed_fields fields) (print_field f)),
  )
    where
      line : Line
      line = record { fields = fields ++ f ∷ []; end = end }

      regroup : (l g w : List ℕ) → (l ++ ((g ++ w) ++ (cr ++ b ∷ []))) ++ [] ≡ (l ++ (g ++ (w ++ cr))) ++ b ∷ []
      regroup l g w = simp (append_assoc, append-nil)

  -- LF alone
  at_feed : IsReached (progress_at lines fields m) → IsField f → printed_mode m ≡ print_field f
      → IsNext (progress_at lines fields m) line_feed (next_line (progress_at lines fields m) f lf)
  at_feed reached valid e = at_break lf [] line_feed reached valid refl (e ∙ sym (append-nil (print_field f)))

-- each step reads its byte, by the mode and the kind of the byte
step_next : (lines : List Line) (fields : List Field) (m : Mode) (b : ℕ) → Kind b → IsReached (progress_at lines fields m)
    → IfSome (step (progress_at lines fields m) b) (IsNext (progress_at lines fields m) b)
step_next ls fs start b a_quote r = to_mode ls fs start (inside []) b r tt refl
step_next ls fs start b a_comma r = at_comma ls fs start (unquoted []) r tt refl
step_next ls fs start b a_return r = at_return ls fs start (unquoted []) r tt refl
step_next ls fs start b a_feed r = at_feed ls fs start (unquoted []) r tt refl
step_next ls fs start b (an_other _ q c x n) r = rw (q, c, x, n) (to_mode ls fs start (plain [] b) b r (plain_from_other b q c x n, tt) refl)
step_next ls fs (plain bytes last) b a_quote r = tt
step_next ls fs (plain bytes last) b a_comma r = at_comma ls fs (plain bytes last) (unquoted (bytes ++ last ∷ [])) r r.mode refl
step_next ls fs (plain bytes last) b a_return r = at_return ls fs (plain bytes last) (unquoted (bytes ++ last ∷ [])) r r.mode refl
step_next ls fs (plain bytes last) b a_feed r = at_feed ls fs (plain bytes last) (unquoted (bytes ++ last ∷ [])) r r.mode refl
step_next ls fs (plain bytes last) b (an_other _ q c x n) r =
    rw (q, c, x, n) (to_mode ls fs (plain bytes last) (plain (bytes ++ last ∷ []) b) b r
    (all_by_recursion_push (λ a. IsTrue (is_plain a)) (bytes ++ last ∷ []) b r.mode (plain_from_other b q c x n)) refl)
step_next ls fs (inside content) b a_quote r = to_mode ls fs (inside content) (closed content) b r tt refl
step_next ls fs (inside content) b a_comma r =
    to_mode ls fs (inside content) (inside (content ++ comma ∷ [])) b r tt (rw (doubled-append content (comma ∷ [])) refl)
step_next ls fs (inside content) b a_return r =
    to_mode ls fs (inside content) (inside (content ++ carriage_return ∷ [])) b r tt (rw (doubled-append content (carriage_return ∷ [])) refl)
step_next ls fs (inside content) b a_feed r =
    to_mode ls fs (inside content) (inside (content ++ line_feed ∷ [])) b r tt (rw (doubled-append content (line_feed ∷ [])) refl)
step_next ls fs (inside content) b (an_other _ q c x n) r =
    rw q (to_mode ls fs (inside content) (inside (content ++ b ∷ [])) b r tt (rw (doubled-append content (b ∷ []), q) refl))
step_next ls fs (closed content) b a_quote r =
    to_mode ls fs (closed content) (inside (content ++ double_quote ∷ [])) b r tt (rw (doubled-append content (double_quote ∷ [])) (regroup (doubled content)))
  where
    regroup : (w : List ℕ) → double_quote ∷ (w ++ double_quote ∷ double_quote ∷ []) ≡ double_quote ∷ (w ++ double_quote ∷ []) ++ double_quote ∷ []
    regroup w = simp append_assoc
step_next ls fs (closed content) b a_comma r = at_comma ls fs (closed content) (quoted content) r tt refl
step_next ls fs (closed content) b a_return r = at_return ls fs (closed content) (quoted content) r tt refl
step_next ls fs (closed content) b a_feed r = at_feed ls fs (closed content) (quoted content) r tt refl
step_next ls fs (closed content) b (an_other _ q c x n) r = rw (q, c, x, n) tt
step_next ls fs (returned f) b a_quote r = tt
step_next ls fs (returned f) b a_comma r = tt
step_next ls fs (returned f) b a_return r = tt
step_next ls fs (returned f) b a_feed r = at_break ls fs (returned f) f crlf (carriage_return ∷ []) line_feed r r.mode refl refl
step_next ls fs (returned f) b (an_other _ q c x n) r = rw n tt

-- each step reads its byte
pub step-printed : (p q : Progress) (b : ℕ) → step p b ≡ Some q → IsReached p → IsReached q × (printed q ≡ printed p ++ b ∷ [])
step-printed p q b e reached = subst (λ o. IfSome o (IsNext p b)) e (step_next p.lines p.fields p.mode b (kind_of b) reached)

-- a run reads its bytes
pub run-printed : (p q : Progress) (bytes : List ℕ) → run p bytes ≡ Some q → IsReached p → IsReached q × (printed q ≡ printed p ++ bytes)
run-printed p q [] e reached = let same = same_Some p q e in
    (subst IsReached same reached, ap printed (sym same) ∙ sym (append-nil (printed p)))
run-printed p q (b ∷ bytes) e reached = option_and_then_some (λ r. run r bytes) (step p b) q e (λ r one rest.
    let next = step-printed p r b one reached in
    let whole = run-printed r q bytes rest next.0 in
    (whole.0, whole.1 ∙ (ap (λ w. w ++ bytes) next.1 ∙ append_assoc (printed p) (b ∷ []) bytes)))

-- what a run from the start has read is the text
pub reached : (bytes : List ℕ) (p : Progress) → run initial bytes ≡ Some p → IsReached p × (bytes ≡ printed p)
reached bytes p e =
    let all = run-printed initial p bytes e (record { lines = tt; fields = tt; mode = tt }) in (all.0, sym all.1)

-- ---- the tree of a run that may end

-- a last record
at_end : (lines : List Line) (fields : List Field) (m : Mode) (f : Field) → IsReached (progress_at lines fields m) → IsField f
    → printed_mode m ≡ print_field f → 0 < length (printed_fields fields ++ print_field f)
    → IsText (ended (progress_at lines fields m) (fields ++ f ∷ [])) × (printed (progress_at lines fields m) ≡ print_text (ended (progress_at lines fields m) (fields ++ f ∷ [])))
at_end lines fields m f reached valid e long = (
  record { lines = reached.lines; last = (record_push fields f reached.fields valid, rw (print_record_push fields f) long) },
  ap (λ bytes. flat_map print_line lines ++ bytes) (ap (λ bytes. printed_fields fields ++ bytes) e ∙ sym (print_record_push fields f)),
)

-- the tree of a mode in which a text may end prints to what was read
finish_next : (lines : List Line) (fields : List Field) (m : Mode) → IsReached (progress_at lines fields m)
    → IfSome (finish (progress_at lines fields m)) (λ text. IsText text × (printed (progress_at lines fields m) ≡ print_text text))
finish_next ls [] start r = (record { lines = r.lines; last = tt }, refl)
finish_next ls (f ∷ fs) start r =
    at_end ls (f ∷ fs) start (unquoted []) r tt refl
    (rw (length-append (print_field_comma f ++ printed_fields fs) [], length-append (print_field_comma f) (printed_fields fs), length-append (print_field f) (comma ∷ [])) (omega arith))
finish_next ls fs (plain bytes last) r =
    at_end ls fs (plain bytes last) (unquoted (bytes ++ last ∷ [])) r r.mode refl
    (rw (length-append (printed_fields fs) (bytes ++ last ∷ []), length-append bytes (last ∷ [])) (omega arith))
finish_next ls fs (inside content) r = tt
finish_next ls fs (closed content) r =
    at_end ls fs (closed content) (quoted content) r tt refl
    (rw (length-append (printed_fields fs) (print_field (quoted content))) (omega arith))
finish_next ls fs (returned f) r = tt

-- the tree of a run that may end is valid, and prints to the text
pub written : (bytes : List ℕ) (p : Progress) (text : CsvText) → run initial bytes ≡ Some p → finish p ≡ Some text
    → IsText text × (bytes ≡ print_text text)
written bytes p text e end =
    let read = reached bytes p e in
    let all = subst (λ o. IfSome o (λ t. IsText t × (printed p ≡ print_text t))) end (finish_next p.lines p.fields p.mode read.0) in
    (all.0, read.1 ∙ all.1)
