-- The roles of the bytes that a run has read: they are those of each continuation's tree.
use Rattle.std.proofs.Common.{◌≡◌, ℕ, zero, suc, List, [], ◌∷◌, ◌++◌, length, take, map, if◌then◌else◌, ◌==◌, Some, refl, sym, ap, ◌∙◌, subst, append_assoc, append-nil, arith}
use Rattle.std.specs.Prelude.{IfSome, slice_get}
use Rattle.std.specs.List.{flat_map}
use Rattle.std.proofs.Math.Seq.{take-append_seam}
use Rattle.std.proofs.lemmas.List.{map-append, take-take, length-append}
use Rattle.std.proofs.lemmas.Option.{same_Some, option_and_then_some}
use Rattle.csv_grammar.specs.Bytes.{double_quote, comma, carriage_return, line_feed}
use Rattle.csv_grammar.specs.Records.{Field, unquoted, quoted, LineBreak, crlf, lf, Line, CsvText, doubled, print_field, print_text, IsText}
use Rattle.csv_grammar.specs.Structure.{Role, separator, record_end, inner, field_roles, break_roles, record_roles, line_roles, text_roles, AreRoles}
use Rattle.csv_grammar.proofs.ByteKinds.{Kind, a_quote, a_comma, a_return, a_feed, an_other, kind_of}
use Rattle.csv_grammar.proofs.Machine.{Mode, start, plain, inside, closed, returned, Progress, initial, next_field, next_line, step, run, finish}
use Rattle.csv_grammar.proofs.Runs.{progress_at, run_on, run_front, flat_map_push, doubled-append, printed_mode, written}
use Rattle.csv_grammar.proofs.ReadsBack.{read_text}
use Rattle.csv_grammar.proofs.Viable.{completion, completes}

-- ---- what a run has read

-- the roles of a field and the comma after it
abbrev field_comma_roles : Field → List Role
field_comma_roles field = field_roles field ++ separator ∷ []

-- none of the bytes is structural
abbrev inner_roles : List ℕ → List Role
inner_roles bytes = map (λ _. inner) bytes

-- the roles of the bytes read so far
abbrev pub read_roles : Progress → List Role
read_roles p = flat_map line_roles p.lines ++ (flat_map field_comma_roles p.fields ++ inner_roles (printed_mode p.mode))

-- the roles of a record's bytes: of its fields with their commas, and of the last field
record_roles_push : (fields : List Field) (last : Field)
    → record_roles (fields ++ last ∷ []) ≡ flat_map field_comma_roles fields ++ field_roles last
record_roles_push [] last = refl
record_roles_push (field ∷ []) last = regroup (field_roles field) (field_roles last)
  where
    regroup : (a b : List Role) → a ++ separator ∷ b ≡ ((a ++ separator ∷ []) ++ []) ++ b
    regroup a b = simp (append_assoc, append-nil)
record_roles_push (field ∷ next ∷ fields) last =
    ap (λ roles. field_roles field ++ separator ∷ roles) (record_roles_push (next ∷ fields) last)
    ∙ regroup (field_roles field) (flat_map field_comma_roles (next ∷ fields)) (field_roles last)
  where
    regroup : (a b c : List Role) → a ++ separator ∷ (b ++ c) ≡ ((a ++ separator ∷ []) ++ b) ++ c
    regroup a b c = simp append_assoc

-- ---- the role of a byte

-- outside double quotes a comma parts fields, and an LF ends a record
abbrev pub outside_role : ℕ → Role
outside_role b = if b == comma then separator else (if b == line_feed then record_end else inner)

abbrev pub role_in : Mode → ℕ → Role
role_in start b = outside_role b
role_in (plain bytes last) b = outside_role b
role_in (inside content) b = inner
role_in (closed content) b = outside_role b
role_in (returned field) b = outside_role b

-- q has read what p has, and then a byte of that role
abbrev Adds : Progress → Role → Progress → Type 0
Adds p role q = read_roles q ≡ read_roles p ++ role ∷ []

-- a step that keeps the lines and the fields
to_mode : (lines : List Line) (fields : List Field) (m n : Mode) (b : ℕ) → printed_mode n ≡ printed_mode m ++ b ∷ []
    → Adds (progress_at lines fields m) inner (progress_at lines fields n)
to_mode lines fields m n b e =
    rw (e, map-append (λ _. inner) (printed_mode m) (b ∷ []))
    (regroup (flat_map line_roles lines) (flat_map field_comma_roles fields) (inner_roles (printed_mode m)))
  where
    regroup : (l f w : List Role) → l ++ (f ++ (w ++ inner ∷ [])) ≡ (l ++ (f ++ w)) ++ inner ∷ []
    regroup l f w = simp append_assoc

-- the comma after a field
at_comma : (lines : List Line) (fields : List Field) (m : Mode) (f : Field) → printed_mode m ≡ print_field f
    → Adds (progress_at lines fields m) separator (next_field (progress_at lines fields m) f)
at_comma lines fields m f e =
    rw (flat_map_push field_comma_roles fields f, e) (regroup (flat_map line_roles lines) (flat_map field_comma_roles fields) (field_roles f))
  where
    regroup : (l g w : List Role) → l ++ ((g ++ (w ++ separator ∷ [])) ++ []) ≡ (l ++ (g ++ w)) ++ separator ∷ []
    regroup l g w = simp (append_assoc, append-nil)

-- the LF that ends a record, after its last field and perhaps a CR
at_break : (lines : List Line) (fields : List Field) (m : Mode) (f : Field) (end : LineBreak) (cr : List ℕ)
    → break_roles end ≡ inner_roles cr ++ record_end ∷ [] → printed_mode m ≡ print_field f ++ cr
    → Adds (progress_at lines fields m) record_end (next_line (progress_at lines fields m) f end)
at_break lines fields m f end cr ends e =
    rw (flat_map_push line_roles lines line, record_roles_push fields f, ends, e, map-append (λ _. inner) (print_field f) cr)
    (regroup (flat_map line_roles lines) (flat_map field_comma_roles fields) (field_roles f) (inner_roles cr))
  where
    line : Line
    line = record { fields = fields ++ f ∷ []; end = end }

    regroup : (l g w x : List Role) → (l ++ ((g ++ w) ++ (x ++ record_end ∷ []))) ++ [] ≡ (l ++ (g ++ (w ++ x))) ++ record_end ∷ []
    regroup l g w x = simp (append_assoc, append-nil)

-- each step adds its byte's role, by the mode and the kind of the byte
step_adds : (ls : List Line) (fs : List Field) (m : Mode) (b : ℕ) → Kind b
    → IfSome (step (progress_at ls fs m) b) (Adds (progress_at ls fs m) (role_in m b))
step_adds ls fs start b a_quote = to_mode ls fs start (inside []) b refl
step_adds ls fs start b a_comma = at_comma ls fs start (unquoted []) refl
step_adds ls fs start b a_return = to_mode ls fs start (returned (unquoted [])) b refl
step_adds ls fs start b a_feed = at_break ls fs start (unquoted []) lf [] refl refl
step_adds ls fs start b (an_other _ q c x n) = rw (q, c, x, n) (to_mode ls fs start (plain [] b) b refl)
step_adds ls fs (plain bytes last) b a_quote = tt
step_adds ls fs (plain bytes last) b a_comma = at_comma ls fs (plain bytes last) (unquoted (bytes ++ last ∷ [])) refl
step_adds ls fs (plain bytes last) b a_return = to_mode ls fs (plain bytes last) (returned (unquoted (bytes ++ last ∷ []))) b refl
step_adds ls fs (plain bytes last) b a_feed =
    at_break ls fs (plain bytes last) (unquoted (bytes ++ last ∷ [])) lf [] refl (sym (append-nil (bytes ++ last ∷ [])))
step_adds ls fs (plain bytes last) b (an_other _ q c x n) =
    rw (q, c, x, n) (to_mode ls fs (plain bytes last) (plain (bytes ++ last ∷ []) b) b refl)
step_adds ls fs (inside content) b a_quote = to_mode ls fs (inside content) (closed content) b refl
step_adds ls fs (inside content) b a_comma =
    to_mode ls fs (inside content) (inside (content ++ comma ∷ [])) b (rw (doubled-append content (comma ∷ [])) refl)
step_adds ls fs (inside content) b a_return =
    to_mode ls fs (inside content) (inside (content ++ carriage_return ∷ [])) b (rw (doubled-append content (carriage_return ∷ [])) refl)
step_adds ls fs (inside content) b a_feed =
    to_mode ls fs (inside content) (inside (content ++ line_feed ∷ [])) b (rw (doubled-append content (line_feed ∷ [])) refl)
step_adds ls fs (inside content) b (an_other _ q c x n) =
    rw q (to_mode ls fs (inside content) (inside (content ++ b ∷ [])) b (rw (doubled-append content (b ∷ []), q) refl))
step_adds ls fs (closed content) b a_quote =
    to_mode ls fs (closed content) (inside (content ++ double_quote ∷ [])) b (rw (doubled-append content (double_quote ∷ [])) (regroup (doubled content)))
  where
    regroup : (w : List ℕ) → double_quote ∷ (w ++ double_quote ∷ double_quote ∷ []) ≡ double_quote ∷ (w ++ double_quote ∷ []) ++ double_quote ∷ []
    regroup w = simp append_assoc
step_adds ls fs (closed content) b a_comma = at_comma ls fs (closed content) (quoted content) refl
step_adds ls fs (closed content) b a_return = to_mode ls fs (closed content) (returned (quoted content)) b refl
step_adds ls fs (closed content) b a_feed =
    at_break ls fs (closed content) (quoted content) lf [] refl (sym (append-nil (print_field (quoted content))))
step_adds ls fs (closed content) b (an_other _ q c x n) = rw (q, c, x, n) tt
step_adds ls fs (returned f) b a_quote = tt
step_adds ls fs (returned f) b a_comma = tt
step_adds ls fs (returned f) b a_return = tt
step_adds ls fs (returned f) b a_feed = at_break ls fs (returned f) f crlf (carriage_return ∷ []) refl refl
step_adds ls fs (returned f) b (an_other _ q c x n) = rw n tt

pub step-roles : (p q : Progress) (b : ℕ) → step p b ≡ Some q → read_roles q ≡ read_roles p ++ role_in p.mode b ∷ []
step-roles p q b e = subst (λ o. IfSome o (Adds p (role_in p.mode b))) e (step_adds p.lines p.fields p.mode b (kind_of b))

-- ---- runs

-- a comma, an LF or any byte, as the role has it
abbrev pub IsRoleOf : Role → ℕ → Type 0
IsRoleOf separator b = b ≡ comma
IsRoleOf record_end b = b ≡ line_feed
IsRoleOf inner b = Unit {0}

-- a role for each byte
abbrev pub Fit : List ℕ → List Role → Type 0
Fit [] [] = Unit {0}
Fit [] (r ∷ roles) = ⊥
Fit (b ∷ bytes) [] = ⊥
Fit (b ∷ bytes) (r ∷ roles) = IsRoleOf r b × Fit bytes roles

length-fit : (bytes : List ℕ) (roles : List Role) → Fit bytes roles → length roles ≡ length bytes
length-fit [] [] fit = refl
length-fit [] (r ∷ roles) fit = absurd fit
length-fit (b ∷ bytes) [] fit = absurd fit
length-fit (b ∷ bytes) (r ∷ roles) fit = ap suc (length-fit bytes roles fit.1)

pub separator_at : (bytes : List ℕ) (roles : List Role) (place : ℕ) → Fit bytes roles
    → slice_get roles place ≡ Some separator → slice_get bytes place ≡ Some comma
separator_at [] [] place fit e = cc
separator_at [] (r ∷ roles) place fit e = absurd fit
separator_at (b ∷ bytes) [] place fit e = absurd fit
separator_at (b ∷ bytes) (r ∷ roles) zero fit e = ap Some (subst (λ s. IsRoleOf s b) (same_Some r separator e) fit.0)
separator_at (b ∷ bytes) (r ∷ roles) (suc place) fit e = separator_at bytes roles place fit.1 e

pub record_end_at : (bytes : List ℕ) (roles : List Role) (place : ℕ) → Fit bytes roles
    → slice_get roles place ≡ Some record_end → slice_get bytes place ≡ Some line_feed
record_end_at [] [] place fit e = cc
record_end_at [] (r ∷ roles) place fit e = absurd fit
record_end_at (b ∷ bytes) [] place fit e = absurd fit
record_end_at (b ∷ bytes) (r ∷ roles) zero fit e = ap Some (subst (λ s. IsRoleOf s b) (same_Some r record_end e) fit.0)
record_end_at (b ∷ bytes) (r ∷ roles) (suc place) fit e = record_end_at bytes roles place fit.1 e

outside_role_of : (b : ℕ) → Kind b → IsRoleOf (outside_role b) b
outside_role_of b a_quote = tt
outside_role_of b a_comma = refl
outside_role_of b a_return = tt
outside_role_of b a_feed = refl
outside_role_of b (an_other _ q c x n) = rw (c, n) tt

role_in_of : (m : Mode) (b : ℕ) → IsRoleOf (role_in m b) b
role_in_of start b = outside_role_of b (kind_of b)
role_in_of (plain bytes last) b = outside_role_of b (kind_of b)
role_in_of (inside content) b = tt
role_in_of (closed content) b = outside_role_of b (kind_of b)
role_in_of (returned field) b = outside_role_of b (kind_of b)

-- what a run adds
pub record Added (p : Progress) (bytes : List ℕ) (q : Progress) : Type 0 where
  pub roles : List Role
  pub fit : Fit bytes roles
  pub adds : read_roles q ≡ read_roles p ++ roles

pub run-roles : (p q : Progress) (bytes : List ℕ) → run p bytes ≡ Some q → Added p bytes q
run-roles p q [] e = record {
  roles = [];
  fit = tt;
  adds = ap read_roles (sym (same_Some p q e)) ∙ sym (append-nil (read_roles p));
}
run-roles p q (b ∷ bytes) e = option_and_then_some (λ r. run r bytes) (step p b) q e (λ r one rest.
    let later = run-roles r q bytes rest in record {
      roles = role_in p.mode b ∷ later.roles;
      fit = (role_in_of p.mode b, later.fit);
      adds = later.adds ∙ (ap (λ front. front ++ later.roles) (step-roles p r b one) ∙ append_assoc (read_roles p) (role_in p.mode b ∷ []) later.roles);
    })

-- the roles of a text that was read from the start
pub read_fit : (bytes : List ℕ) (p : Progress) → run initial bytes ≡ Some p → Fit bytes (read_roles p)
read_fit bytes p e = let all = run-roles initial p bytes e in subst (Fit bytes) (sym all.adds) all.fit

-- the roles of a tree are those that were read
finish_roles : (ls : List Line) (fs : List Field) (m : Mode) → IfSome (finish (progress_at ls fs m)) (λ text. text_roles text ≡ read_roles (progress_at ls fs m))
finish_roles ls [] start = refl
finish_roles ls (f ∷ fs) start = ap (λ roles. flat_map line_roles ls ++ roles) (record_roles_push (f ∷ fs) (unquoted []))
finish_roles ls fs (plain bytes last) = ap (λ roles. flat_map line_roles ls ++ roles) (record_roles_push fs (unquoted (bytes ++ last ∷ [])))
finish_roles ls fs (inside content) = tt
finish_roles ls fs (closed content) = ap (λ roles. flat_map line_roles ls ++ roles) (record_roles_push fs (quoted content))
finish_roles ls fs (returned f) = tt

pub finish-roles : (p : Progress) (text : CsvText) → finish p ≡ Some text → text_roles text ≡ read_roles p
finish-roles p text e = subst (λ o. IfSome o (λ t. text_roles t ≡ read_roles p)) e (finish_roles p.lines p.fields p.mode)

-- ---- the roles of a text that has a continuation

-- the first roles of a tree that a run leads to are those that were read before
front_roles : (bytes more : List ℕ) (p q : Progress) (text : CsvText) → run initial bytes ≡ Some p → run p more ≡ Some q → finish q ≡ Some text
    → take (length bytes) (text_roles text) ≡ read_roles p
front_roles bytes more p q text e f end =
    let later = run-roles p q more f in
    ap (λ n. take n (text_roles text)) (sym (length-fit bytes (read_roles p) (read_fit bytes p e)))
    ∙ (ap (take (length (read_roles p))) (finish-roles q text end ∙ later.adds) ∙ take-append_seam (read_roles p) later.roles)

-- each continuation's tree has the roles that were read
pub roles_read : (bytes : List ℕ) (roles : List Role) → AreRoles bytes roles → (p : Progress) × (run initial bytes ≡ Some p) × (roles ≡ read_roles p)
roles_read bytes roles are =
    let whole = read_text are.tree are.valid in
    let front = run_front initial whole.0 bytes are.more (ap (run initial) are.printed ∙ whole.1) in
    (front.0, front.1, are.are ∙ front_roles bytes are.more front.0 whole.0 are.tree front.1 front.2 whole.2)

-- and what was read has a continuation
pub read_are : (bytes : List ℕ) (p : Progress) → run initial bytes ≡ Some p → AreRoles bytes (read_roles p)
read_are bytes p e =
    let c = completes p.lines p.fields p.mode in
    let all = written (bytes ++ completion p.mode) c.0 c.1 (run_on initial p bytes (completion p.mode) e ∙ c.2) c.3 in record {
      more = completion p.mode;
      tree = c.1;
      valid = all.0;
      printed = all.1;
      are = sym (front_roles bytes (completion p.mode) p c.0 c.1 e c.2 c.3);
    }

-- a front of the bytes has a front of the roles
pub front_are : (bytes more : List ℕ) (roles : List Role) → AreRoles (bytes ++ more) roles → AreRoles bytes (take (length bytes) roles)
front_are bytes more roles are = record {
  more = more ++ are.more;
  tree = are.tree;
  valid = are.valid;
  printed = sym (append_assoc bytes more are.more) ∙ are.printed;
  are = ap (take (length bytes)) are.are ∙ take-take (length bytes) (length (bytes ++ more)) (text_roles are.tree) (omega (arith, length-append bytes more));
}

-- a text in the grammar has its tree's
pub whole_are : (text : CsvText) → IsText text → AreRoles (print_text text) (text_roles text)
whole_are text valid =
    let read = read_text text valid in
    subst (AreRoles (print_text text)) (sym (finish-roles read.0 text read.2)) (read_are (print_text text) read.0 read.1)

-- each byte has one role
pub count_are : (bytes : List ℕ) (roles : List Role) → AreRoles bytes roles → length roles ≡ length bytes
count_are bytes roles are =
    let read = roles_read bytes roles are in
    ap length read.2 ∙ length-fit bytes (read_roles read.0) (read_fit bytes read.0 read.1)

-- and of its form
pub fit_are : (bytes : List ℕ) (roles : List Role) → AreRoles bytes roles → Fit bytes roles
fit_are bytes roles are = let read = roles_read bytes roles are in subst (Fit bytes) (sym read.2) (read_fit bytes read.0 read.1)

-- all continuations agree
pub roles_unique : (bytes : List ℕ) (roles others : List Role) → AreRoles bytes roles → AreRoles bytes others → roles ≡ others
roles_unique bytes roles others are also =
    let one = roles_read bytes roles are in
    let two = roles_read bytes others also in
    one.2 ∙ (ap read_roles (same_Some one.0 two.0 (sym one.1 ∙ two.1)) ∙ sym two.2)
