-- What the words of a step say of the block after a text, byte for byte: the masks of the block, and the carry after it.
use Rattle.std.proofs.Common.{◌≡◌, ℕ, zero, suc, ◌+◌, ◌-◌, ◌/◌, ◌%◌, ◌^◌, ◌<◌, ◌≤◌, true, not, ◌&&◌, ◌||◌, if◌then◌else◌, ◌==◌, List, [], ◌∷◌, ◌++◌, length, take, Some, refl, sym, ap, ap₂, ◌∙◌, subst, arith, append_assoc, append-nil, le_refl, bit_and, bit_or, bit_xor}
use Rattle.std.specs.Prelude.{slice_get, slice_index, count_by}
use Rattle.std.specs.Int.{bit_at}
use Rattle.std.proofs.lemmas.List.{take_more, take_all, length_push, get_or_push}
use Rattle.std.proofs.lemmas.List.Sums.{sum_by-append}
use Rattle.std.proofs.lemmas.Nat.{or_lt, xor_lt}
use Rattle.std.proofs.lemmas.Nat.Bits.{bit_at-lt, bit_at_xor, shr_and_one}
use Rattle.std.proofs.lemmas.Option.{slice_get-get_or}
use Rattle.csv_grammar.specs.Bytes.{double_quote, comma, carriage_return, line_feed}
use Rattle.csv_grammar.specs.Faults.{IsViable}
use Rattle.csv_grammar.specs.Following.{kind_of_last, TextCarry, carry_of, may_follow, may_follow_outside}
use Rattle.csv_grammar.specs.Laws.{OneStructure, WhatFollows}
use Rattle.lane_class.specs.Classes.{AreClasses}
use Rattle.lane_class.specs.declared.Classes.{Classes}
use Rattle.quote_parity.specs.Words.{ones_below}
use Rattle.quote_parity.specs.Kinds.{kind_of_tests, last_kind}
use Rattle.quote_parity.specs.Carry.{AreMasks}
use Rattle.quote_parity.proofs.WordLemmas.{ones_below-none, ones_below-more}
use Rattle.quote_parity.proofs.BitLemmas.{bit, bit-and, bit-or, bit-not, bit_number, before, bit_at-up, up_fits, bit-low, ones_below-xor, same_test}
use Rattle.quote_parity.proofs.StepWords.{outside_word, ends_word, starts_word, quotes_word, returns_word, wrong_word, step_masks, carry_with, step_carry, AreWords, mask_fits}
use Rattle.quote_parity.proofs.KindLemmas.{byte_kinds, is_fault, faults}
use Rattle.quote_parity.proofs.MaskLemmas.{masks_from_bits}

-- ---- a block after a text

-- one byte more to count
count_push : (xs : List ℕ) (b : ℕ)
    → count_by (λ x. x == double_quote) xs + (if b == double_quote then 1 else 0) ≡ count_by (λ x. x == double_quote) (xs ++ b ∷ [])
count_push xs b = omega (arith, sum_by-append (λ x. if x == double_quote then 1 else 0) xs (b ∷ []))

-- the words of a step are those of the block after the text
pub record Given (c : Classes) (n o s k t : ℕ) (text block : List ℕ) : Type 0 where
  pub words : AreWords c n o s k t
  pub classes : AreClasses c block
  pub carry : carry_with o (last_kind s k t) ≡ carry_of text
  pub some : 0 < length block
  pub most : length block ≤ 64

module _ {c : Classes} {n o s k t : ℕ} {text block : List ℕ} (g : Given c n o s k t text block) where
  -- the carry before byte i, and that byte
  abbrev carry_at : ℕ → TextCarry
  carry_at i = carry_of (text ++ take i block)

  abbrev byte_at : ℕ → ℕ
  byte_at i = slice_index block i

  abbrev outside : ℕ
  outside = outside_word c n (length block)

  abbrev ends : ℕ
  ends = ends_word c

  abbrev starts : ℕ
  starts = starts_word c s

  abbrev quotes : ℕ
  quotes = quotes_word c k

  abbrev returns : ℕ
  returns = returns_word c t

  abbrev wrong : ℕ
  wrong = wrong_word c s k t

  -- ---- the classes, as tests

  quote_bit_at : (i : ℕ) → i < length block → bit c.quote i ≡ (byte_at i == double_quote)
  quote_bit_at i h = same_test (bit_at c.quote i) (byte_at i) double_quote (g.classes.quote i h)

  comma_bit_at : (i : ℕ) → i < length block → bit c.comma i ≡ (byte_at i == comma)
  comma_bit_at i h = same_test (bit_at c.comma i) (byte_at i) comma (g.classes.comma i h)

  cr_bit_at : (i : ℕ) → i < length block → bit c.cr i ≡ (byte_at i == carriage_return)
  cr_bit_at i h = same_test (bit_at c.cr i) (byte_at i) carriage_return (g.classes.cr i h)

  lf_bit_at : (i : ℕ) → i < length block → bit c.lf i ≡ (byte_at i == line_feed)
  lf_bit_at i h = same_test (bit_at c.lf i) (byte_at i) line_feed (g.classes.lf i h)

  ends_bit : (i : ℕ) → i < length block → bit ends i ≡ ((byte_at i == comma) || (byte_at i == line_feed))
  ends_bit i h = bit-or c.comma c.lf i ∙ ap₂ (λ a b. a || b) (comma_bit_at i h) (lf_bit_at i h)

  -- ---- the parity

  -- the double quotes of a front are counted by the bits below its end
  quotes_below : (i : ℕ) → i ≤ length block → ones_below c.quote i ≡ count_by (λ b. b == double_quote) (take i block)
  quotes_below zero h = ones_below-none c.quote
  quotes_below (suc i) h =
      let next : suc i ≡ i + 1 = omega arith in
      ap (ones_below c.quote) next ∙ (ones_below-more c.quote i
      ∙ (ap₂ (λ a b. a + b) (quotes_below i (omega arith)) (bit_number (bit_at c.quote i) (bit_at-lt c.quote i) ∙ ap (λ b. if b then 1 else 0) (quote_bit_at i (omega arith)))
      ∙ (count_push (take i block) (byte_at i)
      ∙ ap (count_by (λ b. b == double_quote)) (sym (take_more block i 0 (omega arith)) ∙ ap (λ j. take j block) (sym next)))))

  parity_is : (i : ℕ) → i ≤ length block → (carry_at i).parity ≡ (ones_below c.quote i + o) % 2
  parity_is i h =
      omega (arith, quotes_below i h, ap (λ (v : TextCarry). v.parity) g.carry, sum_by-append (λ b. if b == double_quote then 1 else 0) text (take i block))

  -- before a byte
  inside_bit : (i : ℕ) → i < length block → bit_at (bit_xor n c.quote) i ≡ (carry_at i).parity
  inside_bit i h =
      let short = g.most in
      omega (
        arith,
        bit_at_xor n c.quote i,
        g.words.quoted i (omega arith),
        ones_below-xor c.quote o i g.words.bits.parity,
        ones_below-more c.quote i,
        bit_at-lt c.quote i,
        parity_is i (omega arith),
      )

  outside_bit : (i : ℕ) → i < length block → bit outside i ≡ (not ((carry_at i).parity == 1) && true)
  outside_bit i h =
      let short = g.most in
      bit-and (2 ^ 64 - 1 - bit_xor n c.quote) ((2 ^ 64 - 1) / 2 ^ (64 - length block)) i
      ∙ ap₂ (λ a b. a && b)
      (bit-not (bit_xor n c.quote) i (xor_lt 64 n c.quote g.words.parities g.words.quote) (omega arith) ∙ ap (λ p. not (p == 1)) (inside_bit i h))
      (bit-low (length block) i short h)

  -- ---- the last byte

  -- the kind of the last byte follows from the bits before
  last_is : (i : ℕ) → i ≤ length block → (carry_at i).last ≡ kind_of_tests (before ends s i == 1) (before c.quote k i == 1) (before c.cr t i == 1)
  last_is zero h = ap (λ w. (carry_of w).last) (append-nil text) ∙ sym (ap (λ (v : TextCarry). v.last) g.carry)
  last_is (suc i) h =
      let within : i < length block = omega arith in
      let next : suc i ≡ i + 1 = omega arith in
      let front : text ++ take (suc i) block ≡ (text ++ take i block) ++ byte_at i ∷ []
      = ap (λ j. text ++ take j block) next ∙ (ap (λ w. text ++ w) (take_more block i 0 within) ∙ sym (append_assoc text (take i block) (byte_at i ∷ []))) in
      ap (λ w. (carry_of w).last) front
      ∙ (ap kind_of_last (last_of (text ++ take i block) (byte_at i))
      ∙ (byte_kinds (byte_at i) ∙ rw (ends_bit i within, quote_bit_at i within, cr_bit_at i within) refl))
    where
      last_of : (w : List ℕ) (b : ℕ) → slice_get (w ++ b ∷ []) (length (w ++ b ∷ []) - 1) ≡ Some b
      last_of w b = slice_get-get_or (w ++ b ∷ []) (length (w ++ b ∷ []) - 1) 0 (omega (arith, length_push w b))
          ∙ ap Some (get_or_push w b 0 (length (w ++ b ∷ []) - 1) (omega (arith, length_push w b)))

  -- ---- the masks

  sep_bit : (i : ℕ) → i < length block → bit (bit_and outside c.comma) i ≡ ((not ((carry_at i).parity == 1) && true) && (byte_at i == comma))
  sep_bit i h = bit-and outside c.comma i ∙ ap₂ (λ a b. a && b) (outside_bit i h) (comma_bit_at i h)

  eol_bit : (i : ℕ) → i < length block → bit (bit_and outside c.lf) i ≡ ((not ((carry_at i).parity == 1) && true) && (byte_at i == line_feed))
  eol_bit i h = bit-and outside c.lf i ∙ ap₂ (λ a b. a && b) (outside_bit i h) (lf_bit_at i h)

  fault_bit : (i : ℕ) → i < length block → bit (bit_and outside wrong) i ≡ not (may_follow (carry_at i) (byte_at i))
  fault_bit i h =
      bit-and outside wrong i
      ∙ (ap₂ (λ a b. a && b) (outside_bit i h) wrong_bit
      ∙ (faults ((carry_at i).parity == 1) (before ends s i == 1) (before c.quote k i == 1) (before c.cr t i == 1) (byte_at i)
      ∙ ap (λ kind. not (if (carry_at i).parity == 1 then true else may_follow_outside kind (byte_at i))) (sym (last_is i (omega arith)))))
    where
      short : i < 64
      short = let most = g.most in omega arith

      start_bit : bit starts i ≡ (before ends s i == 1)
      start_bit = ap (λ b. b == 1) (bit_at-up ends s i g.words.bits.ends short)

      quote_bit : bit quotes i ≡ (before c.quote k i == 1)
      quote_bit = ap (λ b. b == 1) (bit_at-up c.quote k i g.words.bits.quotes short)

      return_bit : bit returns i ≡ (before c.cr t i == 1)
      return_bit = ap (λ b. b == 1) (bit_at-up c.cr t i g.words.bits.returns short)

      ends_fits : ends < 2 ^ 64
      ends_fits = or_lt 64 c.comma c.lf g.words.comma g.words.lf

      any_fits : bit_or (bit_or c.quote ends) c.cr < 2 ^ 64
      any_fits = or_lt 64 (bit_or c.quote ends) c.cr (or_lt 64 c.quote ends g.words.quote ends_fits) g.words.cr

      bare : bit (bit_and returns (2 ^ 64 - 1 - c.lf)) i ≡ ((before c.cr t i == 1) && not (byte_at i == line_feed))
      bare = bit-and returns (2 ^ 64 - 1 - c.lf) i ∙ ap₂ (λ a b. a && b) return_bit (bit-not c.lf i g.words.lf short ∙ ap not (lf_bit_at i h))

      stray : bit (bit_and c.quote (2 ^ 64 - 1 - bit_or quotes starts)) i ≡ ((byte_at i == double_quote) && not ((before c.quote k i == 1) || (before ends s i == 1)))
      stray = bit-and c.quote (2 ^ 64 - 1 - bit_or quotes starts) i
          ∙ ap₂ (λ a b. a && b) (quote_bit_at i h)
          (bit-not (bit_or quotes starts) i (or_lt 64 quotes starts (up_fits c.quote k g.words.bits.quotes) (up_fits ends s g.words.bits.ends)) short
          ∙ ap not (bit-or quotes starts i ∙ ap₂ (λ a b. a || b) quote_bit start_bit))

      trailing : bit (bit_and quotes (2 ^ 64 - 1 - bit_or (bit_or c.quote ends) c.cr)) i
          ≡ ((before c.quote k i == 1) && not (((byte_at i == double_quote) || ((byte_at i == comma) || (byte_at i == line_feed))) || (byte_at i == carriage_return)))
      trailing = bit-and quotes (2 ^ 64 - 1 - bit_or (bit_or c.quote ends) c.cr) i
          ∙ ap₂ (λ a b. a && b) quote_bit
          (bit-not (bit_or (bit_or c.quote ends) c.cr) i any_fits short
          ∙ ap not (bit-or (bit_or c.quote ends) c.cr i ∙ ap₂ (λ a b. a || b) (bit-or c.quote ends i ∙ ap₂ (λ a b. a || b) (quote_bit_at i h) (ends_bit i h)) (cr_bit_at i h)))

      wrong_bit : bit wrong i ≡ is_fault true (before ends s i == 1) (before c.quote k i == 1) (before c.cr t i == 1) (byte_at i)
      wrong_bit =
          bit-or (bit_or (bit_and returns (2 ^ 64 - 1 - c.lf)) (bit_and c.quote (2 ^ 64 - 1 - bit_or quotes starts))) (bit_and quotes (2 ^ 64 - 1 - bit_or (bit_or c.quote ends) c.cr)) i
          ∙ ap₂ (λ a b. a || b)
          (bit-or (bit_and returns (2 ^ 64 - 1 - c.lf)) (bit_and c.quote (2 ^ 64 - 1 - bit_or quotes starts)) i ∙ ap₂ (λ a b. a || b) bare stray)
          trailing

  -- ---- the carry after the block

  behind_block : carry_at (length block) ≡ carry_of (text ++ block)
  behind_block = ap (λ w. carry_of (text ++ w)) (take_all (length block) block (le_refl (length block)))

  -- the top bits of the block are the carry after it
  carry_behind : step_carry c n (length block) ≡ carry_of (text ++ block)
  carry_behind = ap₂ carry_with parity last ∙ behind_block
    where
      top : ℕ
      top = length block - 1

      whole : suc top ≡ length block
      whole = let some = g.some in omega arith

      parity : bit_and (n / 2 ^ top) 1 ≡ (carry_at (length block)).parity
      parity =
          let some = g.some in
          let most = g.most in
          let one : top + 1 ≡ length block = omega arith in
          shr_and_one n top
          ∙ omega (arith, g.words.quoted top (omega arith), ones_below-xor c.quote o top g.words.bits.parity, ap (ones_below c.quote) one, parity_is (length block) (le_refl (length block)))

      last : last_kind (bit_and (ends / 2 ^ top) 1) (bit_and (c.quote / 2 ^ top) 1) (bit_and (c.cr / 2 ^ top) 1) ≡ (carry_at (length block)).last
      last =
          rw (shr_and_one ends top, shr_and_one c.quote top, shr_and_one c.cr top)
          (sym (last_is (suc top) (omega (arith, whole))) ∙ ap (λ i. (carry_at i).last) whole)

-- ---- a block of `len` bytes

module _ {c : Classes} {n o s k t len : ℕ} (words : AreWords c n o s k t) (some : 0 < len) (most : len ≤ 64) (text block : List ℕ)
    (carry : carry_with o (last_kind s k t) ≡ carry_of text) (long : length block ≡ len) (classes : AreClasses c block) where
  given : Given c n o s k t text block
  given = record { words = words; classes = classes; carry = carry; some = omega (arith, long); most = omega (arith, long) }

  pub carry_after : step_carry c n len ≡ carry_of (text ++ block)
  carry_after = subst (λ j. step_carry c n j ≡ carry_of (text ++ block)) long (carry_behind given)

  pub masks_after : OneStructure → WhatFollows → IsViable text → AreMasks (step_masks c n s k t len) text block
  masks_after structure follows viable =
      subst (λ j. AreMasks (step_masks c n s k t j) text block) long
      (masks_from_bits structure follows (step_masks c n s k t (length block)) text block
      (record {
        sep = sep_bit given;
        eol = eol_bit given;
        fault = fault_bit given;
        within = mask_fits c n (length block) _ (omega (arith, long));
      })
      viable)
