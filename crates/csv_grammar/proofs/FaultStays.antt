-- A fault of a text stays its fault whatever follows, but for a text that goes on.
use Rattle.std.proofs.Common.{◌≡◌, ◌≢◌, ℕ, ◌+◌, ◌-◌, ◌<◌, ◌≤◌, ◌⊎◌, inl, inr, Bool, true, false, List, [], ◌∷◌, ◌++◌, length, take, drop, ◌==◌, if◌then◌else◌, Some, IsUtf8, get_or, nat_eq, sym, subst, ap, ◌∙◌, append_assoc, arith, length-append, length-drop, eq-eqb, ne_eqb}
use Rattle.std.specs.Prelude.{slice_get}
use Rattle.std.specs.List.{starts_with}
use Rattle.std.proofs.lemmas.Bool.{cases_lt}
use Rattle.std.proofs.lemmas.List.{drop-append-le, get_or_append_left, length-take, take-append-drop, take_all, take_more}
use Rattle.std.proofs.lemmas.Option.{get_or_from_slice_get, slice_get_within}
use Rattle.std.proofs.lemmas.Str.{IsUtf8-append}
use Rattle.csv_grammar.specs.Bytes.{carriage_return, double_quote, line_feed, byte_order_mark}
use Rattle.csv_grammar.specs.Faults.{Cause, unfinished, bare_cr, stray_quote, after_quote, IsViable, cause_at, HasFault}
use Rattle.csv_grammar.specs.Files.{mark_len, text_of, IsMalformed}
use Rattle.csv_grammar.specs.Pieces.{AreLines}
use Rattle.csv_grammar.specs.Records.{Field}
use Rattle.csv_grammar.proofs.AfterLines.{fault_past_first}
use Rattle.csv_grammar.proofs.Following.{fault_at}
use Rattle.csv_grammar.proofs.Windows.{after_line, starts_same}

abbrev cause_of : Bool → ℕ → ℕ → Cause
cause_of at_end before here = if at_end then unfinished else (if before == carriage_return then bare_cr else (if here == double_quote then stray_quote else after_quote))

-- it is before the text's end
fault_inside : (bytes : List ℕ) (place : ℕ) (cause : Cause) → HasFault bytes place cause → cause ≢ unfinished → place < length bytes
fault_inside bytes place cause fault ends = on (cases_lt place (length bytes))
  where
    on : (place < length bytes) ⊎ (length bytes ≤ place) → place < length bytes
    on (inl lt) = lt
    on (inr le) =
        let e : place ≡ length bytes = omega (arith, fault.within) in
        absurd (ends (fault.why ∙ ap (λ t. cause_of t (get_or bytes (place - 1) 0) (get_or bytes place 0)) (eq-eqb place (length bytes) e)))

same_cause : (bytes more : List ℕ) (place : ℕ) → place < length bytes → cause_at bytes place ≡ cause_at (bytes ++ more) place
same_cause bytes more place less =
    let here : get_or (bytes ++ more) place 0 ≡ get_or bytes place 0 = get_or_append_left bytes more 0 place less in
    let before : get_or (bytes ++ more) (place - 1) 0 ≡ get_or bytes (place - 1) 0 = get_or_append_left bytes more 0 (place - 1) (omega arith) in
    let inside : (place == length bytes) ≡ false = ne_eqb place (length bytes) (λ e. absurd (omega arith)) in
    let within : (place == length (bytes ++ more)) ≡ false = ne_eqb place (length (bytes ++ more)) (λ e. absurd (omega (arith, length-append bytes more))) in
    ap (λ t. cause_of t (get_or bytes (place - 1) 0) (get_or bytes place 0)) (inside ∙ sym within)
    ∙ (ap (λ x. cause_of (place == length (bytes ++ more)) x (get_or bytes place 0)) (sym before)
    ∙ ap (λ y. cause_of (place == length (bytes ++ more)) (get_or (bytes ++ more) (place - 1) 0) y) (sym here))

pub fault_stays : (bytes more : List ℕ) (place : ℕ) (cause : Cause) → HasFault bytes place cause → cause ≢ unfinished → HasFault (bytes ++ more) place cause
fault_stays bytes more place cause fault ends =
    let less = fault_inside bytes place cause fault ends in
    let text = take place bytes in
    let b = get_or bytes place 0 in
    let rest = drop (place + 1) bytes ++ more in
    let one : take (place + 1) bytes ≡ text ++ b ∷ [] = take_more bytes place 0 less in
    let split : text ++ b ∷ rest ≡ bytes ++ more =
    sym (append_assoc text (b ∷ []) rest) ∙ (ap (λ w. w ++ rest) (sym one) ∙ (sym (append_assoc (take (place + 1) bytes) (drop (place + 1) bytes) more)
    ∙ ap (λ w. w ++ more) (take-append-drop (place + 1) bytes))) in
    let size : length text ≡ place = omega (arith, length-take place bytes, less) in
    let stuck : ¬ (IsViable (text ++ b ∷ [])) = λ v.
    let past = fault.longest (place + 1) (omega (arith, less)) (subst IsViable (sym one) v) in absurd (omega (arith, past)) in
    let at = fault_at text b rest fault.viable stuck in
    let there : HasFault (bytes ++ more) place (cause_at (bytes ++ more) place) =
    subst (λ n. HasFault (bytes ++ more) n (cause_at (bytes ++ more) n)) size (subst (λ w. HasFault w (length text) (cause_at w (length text))) split at) in
    subst (HasFault (bytes ++ more) place) (sym (fault.why ∙ same_cause bytes more place less)) there

-- the bytes end in LF, so that the mark is theirs
mark_stays : (bytes more : List ℕ) → slice_get bytes (length bytes - 1) ≡ Some line_feed → mark_len (bytes ++ more) ≡ mark_len bytes
mark_stays bytes more feed =
    let at = length bytes - 1 in
    let less = slice_get_within bytes at line_feed feed in
    let last : at + 1 ≡ length bytes = omega (arith, less) in
    let split : bytes ≡ take at bytes ++ line_feed ∷ [] =
    sym (take_all (length bytes) bytes (omega arith)) ∙ (ap (λ k. take k bytes) (sym last) ∙ (take_more bytes at 0 less ∙ ap (λ b. take at bytes ++ b ∷ []) (get_or_from_slice_get bytes at line_feed 0 feed))) in
    ap (λ t. if t then length byte_order_mark else 0)
    (subst (λ h. starts_with nat_eq (h ++ more) byte_order_mark ≡ starts_with nat_eq h byte_order_mark) (sym split) (starts_same (take at bytes) more))

malformed_within : (front more : List ℕ) (cause : Cause) (place : ℕ) → slice_get front (length front - 1) ≡ Some line_feed → cause ≢ unfinished → IsUtf8 more
    → IsMalformed front cause place → IsMalformed (front ++ more) cause place
malformed_within front more cause place feed ends utf8 bad =
    let mark = mark_stays front more feed in record {
      utf8 = IsUtf8-append front more bad.utf8 utf8;
      in_text = bad.in_text;
      fault = on mark (fault_stays (text_of front) more bad.in_text cause bad.fault ends);
      counted = bad.counted ∙ ap (λ k. k + bad.in_text) (sym mark);
    }
  where
    within : HasFault (text_of front) bad.in_text cause → mark_len front ≤ length front
    within fault = omega (arith, fault_past_first (text_of front) bad.in_text cause fault, fault.within, length-drop (mark_len front) front)

    on : mark_len (front ++ more) ≡ mark_len front → HasFault (text_of front ++ more) bad.in_text cause → HasFault (text_of (front ++ more)) bad.in_text cause
    on mark fault =
        subst (λ w. HasFault w bad.in_text cause) (sym (ap (λ k. drop k (front ++ more)) mark ∙ drop-append-le (mark_len front) front more (within bad.fault))) fault

pub malformed_before : (front line more : List ℕ) (other : List Field) (cause : Cause) (place : ℕ) → slice_get front (length front - 1) ≡ Some line_feed
    → AreLines (text_of line) (other ∷ []) → cause ≢ unfinished → IsMalformed front cause place → IsUtf8 (line ++ more) → IsMalformed (front ++ more) cause place
malformed_before front line more other cause place feed top ends bad utf8 = malformed_within front more cause place feed ends (after_line line more other top utf8) bad
