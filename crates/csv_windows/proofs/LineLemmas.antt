-- The last line feed of a window that follows an even number of double quotes.
use Rattle.std.proofs.Common.{◌≡◌, ◌≢◌, ℕ, ◌+◌, ◌-◌, ◌%◌, ◌<◌, ◌≤◌, ◌⊎◌, inl, inr, ◌==◌, Bool, true, false, List, length, take, Some, get_or, sym, ap, ◌∙◌, subst, arith}
use Rattle.std.specs.Prelude.{slice_get}
use Rattle.std.specs.List.{count_by}
use Rattle.std.proofs.lemmas.Bool.{cases_lt}
use Rattle.std.proofs.lemmas.List.{take_all}
use Rattle.std.proofs.lemmas.List.Sums.{count_by_more_no, count_by_more_yes}
use Rattle.std.proofs.lemmas.Option.{get_or_from_slice_get, slice_get-get_or}
use Rattle.csv_grammar.specs.Bytes.{double_quote, line_feed}
use Rattle.csv_windows.specs.Breaks.{IsBreak, IsLastBreak}

-- no break is past `end`, and that number of double quotes is before it
pub record CountsTo (bytes : List ℕ) (end quotes : ℕ) : Type 0 where
  pub within : end ≤ length bytes
  pub count : quotes ≡ count_by (λ b. b == double_quote) (take end bytes)
  pub last : (m : ℕ) → m ≤ length bytes → IsBreak bytes m → m ≤ end

pub counts_start : (bytes : List ℕ) (quotes : ℕ) → quotes ≡ count_by (λ b. b == double_quote) bytes → CountsTo bytes (length bytes) quotes
counts_start bytes quotes is = record {
  within = omega arith;
  count = is ∙ ap (count_by (λ b. b == double_quote)) (sym (take_all (length bytes) bytes (omega arith)));
  last = λ m le is. le;
}

-- one byte less, which ends no line
before_end : (bytes : List ℕ) (end quotes : ℕ) → CountsTo bytes end quotes → 0 < end → ¬ (IsBreak bytes end) → (m : ℕ) → m ≤ length bytes → IsBreak bytes m → m ≤ end - 1
before_end bytes end quotes to some none m le is = on (cases_lt m end)
  where
    on : (m < end) ⊎ (end ≤ m) → m ≤ end - 1
    on (inl lt) = omega arith
    on (inr ge) = let same : m ≡ end = omega (arith, to.last m le is) in absurd (none (subst (IsBreak bytes) same is))

pub counts_yes : (bytes : List ℕ) (end quotes : ℕ) → CountsTo bytes end quotes → 0 < end → get_or bytes (end - 1) 0 ≡ double_quote
    → (0 < quotes) × CountsTo bytes (end - 1) (quotes - 1)
counts_yes bytes end quotes to some is =
    let last : end - 1 + 1 ≡ end = omega arith in
    let more = count_by_more_yes (λ b. b == double_quote) bytes (end - 1) 0 (omega (arith, to.within)) (ap (λ b. b == double_quote) is) in
    let count : quotes ≡ count_by (λ b. b == double_quote) (take (end - 1) bytes) + 1 = to.count ∙ (ap (λ n. count_by (λ b. b == double_quote) (take n bytes)) (sym last) ∙ more) in (
      omega (arith, count),
      record { within = omega (arith, to.within); count = omega (arith, count); last = before_end bytes end quotes to some none },
    )
  where
    none : ¬ (IsBreak bytes end)
    none b = let feed = get_or_from_slice_get bytes (end - 1) line_feed 0 b.1 in absurd (omega (arith, feed, is))

pub counts_no : (bytes : List ℕ) (end quotes : ℕ) → CountsTo bytes end quotes → 0 < end → (get_or bytes (end - 1) 0 == double_quote) ≡ false → ¬ (IsBreak bytes end)
    → CountsTo bytes (end - 1) quotes
counts_no bytes end quotes to some is none =
    let last : end - 1 + 1 ≡ end = omega arith in
    let less = count_by_more_no (λ b. b == double_quote) bytes (end - 1) 0 (omega (arith, to.within)) is in record {
      within = omega (arith, to.within);
      count = to.count ∙ (ap (λ n. count_by (λ b. b == double_quote) (take n bytes)) (sym last) ∙ less);
      last = before_end bytes end quotes to some none;
    }

pub break_at : (bytes : List ℕ) (end quotes : ℕ) → CountsTo bytes end quotes → 0 < end → get_or bytes (end - 1) 0 ≡ line_feed → quotes % 2 ≡ 0 → IsBreak bytes end
break_at bytes end quotes to some is even =
    (some, slice_get-get_or bytes (end - 1) 0 (omega (arith, to.within)) ∙ ap Some is, ap (λ n. n % 2) (sym to.count) ∙ even)

pub no_break : (bytes : List ℕ) (end quotes : ℕ) → CountsTo bytes end quotes → ((get_or bytes (end - 1) 0 ≡ line_feed) × (quotes % 2 ≡ 0) → ⊥) → ¬ (IsBreak bytes end)
no_break bytes end quotes to none b = none (get_or_from_slice_get bytes (end - 1) line_feed 0 b.1, ap (λ n. n % 2) to.count ∙ b.2)

pub last_break : (bytes : List ℕ) (end quotes : ℕ) → CountsTo bytes end quotes → IsBreak bytes end → IsLastBreak bytes end
last_break bytes end quotes to is = record { within = to.within; is = inr is; last = to.last }

pub none_left : (bytes : List ℕ) (end quotes : ℕ) → CountsTo bytes end quotes → end ≡ 0 → IsLastBreak bytes 0
none_left bytes end quotes to none = record { within = omega arith; is = inl (omega arith); last = λ m le is. omega (arith, to.last m le is, none) }
