-- UTF-8 in pieces.
use Rattle.std.proofs.Common.{◌≡◌, ℕ, zero, suc, ◌+◌, ◌-◌, ◌<◌, ◌≤◌, ◌⊎◌, inl, inr, Bool, true, false, List, ◌++◌, length, take, Some, IsUtf8, get_or, if◌then◌else◌, refl, sym, subst, ap, ◌∙◌, arith, length-append}
use Rattle.std.specs.Prelude.{slice_get}
use Rattle.std.specs.Str.{is_utf8, IsValidUpTo}
use Rattle.std.specs.Str.Lossy.{valid_len_up_to, utf8_valid_len}
use Rattle.std.proofs.Math.Seq.{take-append_seam}
use Rattle.std.proofs.lemmas.Bool.{cases_lt}
use Rattle.std.proofs.lemmas.List.{drop_at, take-append-le, take_all, get_or_append_left}
use Rattle.std.proofs.lemmas.Option.{get_or_from_slice_get, slice_get_within}
use Rattle.std.proofs.lemmas.Str.{IsUtf8-append, IsUtf8-drop, IsUtf8-nil, IsUtf8-take, IsUtf8-from_is_utf8, is_utf8-from_IsUtf8, IsCharBoundary-after_ascii, IsCharBoundary-from_take, utf8_valid_len-IsValidUpTo}
use Rattle.csv_grammar.specs.Bytes.{line_feed}
use Rattle.csv_grammar.specs.Files.{not_utf8, IsFileFault}
use Rattle.csv_grammar.proofs.AfterLines.{front_past}

pub valid_after : (front more : List ℕ) (n : ℕ) → IsUtf8 front → IsValidUpTo more n → IsValidUpTo (front ++ more) (length front + n)
valid_after front more n utf8 v = record {
  short = omega (arith, v.short, length-append front more);
  front = subst IsUtf8 (sym (front_past front more n)) (IsUtf8-append front (take n more) utf8 v.front);
  longest = λ m past u.
      let k = m - length front in
      let is : length front + k ≡ m = omega arith in
      let whole : IsUtf8 (front ++ take k more) = subst IsUtf8 (ap (λ x. take x (front ++ more)) (sym is) ∙ front_past front more k) u in
      let first : take (length front) (front ++ take k more) ≡ front = take-append_seam front (take k more) in
      let cut = IsCharBoundary-from_take (front ++ take k more) (length front) whole (omega (arith, length-append front (take k more))) (subst IsUtf8 (sym first) utf8) in
      v.longest k (omega arith) (subst IsUtf8 (drop_at front (take k more) (length front) refl) (IsUtf8-drop (front ++ take k more) (length front) whole cut));
}

valid_within : (front more : List ℕ) (n : ℕ) → slice_get front (length front - 1) ≡ Some line_feed → IsValidUpTo front n → IsValidUpTo (front ++ more) n
valid_within front more n feed v = record {
  short = omega (arith, v.short, length-append front more);
  front = subst IsUtf8 (sym (take-append-le n front more (omega (arith, v.short)))) v.front;
  longest = λ m past u. on m past u (cases_lt (length front) m);
}
  where
    on : (m : ℕ) → n < m → IsUtf8 (take m (front ++ more)) → (length front < m) ⊎ (m ≤ length front) → ⊥
    on m past u (inr le) = v.longest m past (subst IsUtf8 (take-append-le m front more le) u)
    on m past u (inl lt) =
        let k = m - length front in
        let is : length front + k ≡ m = omega arith in
        let at = length front - 1 in
        let less : at < length front = slice_get_within front at line_feed feed in
        let whole : IsUtf8 (front ++ take k more) = subst IsUtf8 (ap (λ x. take x (front ++ more)) (sym is) ∙ front_past front more k) u in
        let byte : get_or (front ++ take k more) at 0 ≡ line_feed = get_or_append_left front (take k more) 0 at less ∙ get_or_from_slice_get front at line_feed 0 feed in
        let cut = IsCharBoundary-after_ascii (front ++ take k more) at whole (omega (arith, less, length-append front (take k more))) (omega (arith, byte)) in
        let e : at + 1 ≡ length front = omega (arith, less) in
        let front_is : IsUtf8 front = subst IsUtf8 (ap (λ x. take x (front ++ take k more)) e ∙ take-append_seam front (take k more)) (IsUtf8-take (front ++ take k more) (at + 1) whole cut) in
        v.longest (length front) v.short (subst IsUtf8 (sym (take_all (length front) front (omega arith))) front_is)

-- ---- where bytes stop being UTF-8

-- the longest front, up to some length
record IsLongest (bytes : List ℕ) (most n : ℕ) : Type 0 where
  within : n ≤ most
  front : IsUtf8 (take n bytes)
  longest : (m : ℕ) → n < m → m ≤ most → ¬ (IsUtf8 (take m bytes))

longer : (bytes : List ℕ) (most n : ℕ) → IsLongest bytes most n → (b : Bool) → is_utf8 (take (suc most) bytes) ≡ b
    → IsLongest bytes (suc most) (if b then suc most else n)
longer bytes most n less true e = record { within = omega arith; front = IsUtf8-from_is_utf8 _ e; longest = λ m past le u. absurd (omega arith) }
longer bytes most n less false e = record {
  within = omega (arith, less.within);
  front = less.front;
  longest = λ m past le u. on m past le u (cases_lt most m);
}
  where
    not_both : false ≡ true → ⊥
    not_both f = cc

    on : (m : ℕ) → n < m → m ≤ suc most → IsUtf8 (take m bytes) → (most < m) ⊎ (m ≤ most) → ⊥
    on m past le u (inl lt) =
        let same : m ≡ suc most = omega arith in
        not_both (sym e ∙ is_utf8-from_IsUtf8 _ (subst (λ k. IsUtf8 (take k bytes)) same u))
    on m past le u (inr few) = less.longest m past few u

longest_is : (bytes : List ℕ) (most : ℕ) → IsLongest bytes most (valid_len_up_to bytes most)
longest_is bytes zero = record { within = omega arith; front = IsUtf8-nil; longest = λ m past le u. absurd (omega arith) }
longest_is bytes (suc most) = longer bytes most (valid_len_up_to bytes most) (longest_is bytes most) (is_utf8 (take (suc most) bytes)) refl

pub valid_up_to : (bytes : List ℕ) (n : ℕ) → IsFileFault bytes (not_utf8 n) → IsValidUpTo bytes n
unfolding utf8_valid_len
valid_up_to bytes n bad =
    let l : IsLongest bytes (length bytes) n = subst (IsLongest bytes (length bytes)) (sym bad.1) (longest_is bytes (length bytes)) in
    let whole : (m : ℕ) → length bytes ≤ m → ¬ (IsUtf8 (take m bytes)) = λ m le u. bad.0 (subst IsUtf8 (take_all m bytes le) u) in record {
      short = on l (cases_lt n (length bytes));
      front = l.front;
      longest = λ m past u. after l whole m past u (cases_lt (length bytes) m);
    }
  where
    on : IsLongest bytes (length bytes) n → (n < length bytes) ⊎ (length bytes ≤ n) → n < length bytes
    on l (inl lt) = lt
    on l (inr le) = absurd (bad.0 (subst IsUtf8 (take_all n bytes le) l.front))

    after : IsLongest bytes (length bytes) n → ((m : ℕ) → length bytes ≤ m → ¬ (IsUtf8 (take m bytes))) → (m : ℕ) → n < m → IsUtf8 (take m bytes)
        → (length bytes < m) ⊎ (m ≤ length bytes) → ⊥
    after l whole m past u (inl lt) = whole m (omega arith) u
    after l whole m past u (inr le) = l.longest m past le u

pub not_utf8_at : (bytes : List ℕ) (n : ℕ) → IsValidUpTo bytes n → IsFileFault bytes (not_utf8 n)
not_utf8_at bytes n v = (λ u. v.longest (length bytes) v.short (subst IsUtf8 (sym (take_all (length bytes) bytes (omega arith))) u), sym (utf8_valid_len-IsValidUpTo bytes n v))

pub bytes_within : (front more : List ℕ) (n : ℕ) → slice_get front (length front - 1) ≡ Some line_feed → IsFileFault front (not_utf8 n)
    → IsFileFault (front ++ more) (not_utf8 n)
bytes_within front more n feed bad = not_utf8_at (front ++ more) n (valid_within front more n feed (valid_up_to front n bad))
