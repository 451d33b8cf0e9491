-- The next block of a text: its classes, its masks and its roles.
use Rattle.std.proofs.Common.{◌≡◌, ◌≢◌, ℕ, zero, suc, ◌+◌, ◌-◌, ◌*◌, ◌^◌, ◌<◌, ◌≤◌, min, List, [], ◌∷◌, ◌++◌, length, length-append, length-drop, take, drop, replicate, Bool, Some, refl, sym, ap, ◌∙◌, subst, arith, w64}
use Rattle.std.specs.Prelude.{slice_get, slice_index, ◌↔◌}
use Rattle.std.specs.Int.{bit_at, trailing_zeros}
use Rattle.std.proofs.Math.Nat.{pow-le-pow_right}
use Rattle.std.proofs.Math.Seq.{take-add}
use Rattle.std.proofs.lemmas.List.{take_all, take-append-drop, length-take, get_or-take}
use Rattle.std.proofs.Math.ListN.{get_or-append}
use Rattle.std.proofs.lemmas.Bool.{ne_eqb}
use Rattle.std.proofs.lemmas.Nat.Bits.{bit_at_above, bit_at-trailing_zeros}
use Rattle.csv_grammar.specs.Faults.{IsViable, cause_at, HasFault}
use Rattle.csv_grammar.specs.Structure.{Role, separator, record_end, inner, AreRoles}
use Rattle.csv_grammar.specs.Following.{TextCarry, carry_of}
use Rattle.csv_grammar.specs.Laws.{OneStructure}
use Rattle.lane_class.specs.Classes.{block_from, Marks, AreClasses}
use Rattle.lane_class.specs.declared.Classes.{Classes}
use Rattle.quote_parity.specs.Words.{IsLowest}
use Rattle.quote_parity.specs.Carry.{AreMasks}
use Rattle.quote_parity.specs.declared.carry.Masks.{Masks}
use Rattle.csv_index.specs.Widths.{mask_role, mask_roles}
use Rattle.csv_index.specs.declared.widths.Widths.{Widths}
use Rattle.csv_index.specs.Reading.{HasReadText, HasFaultFrom}

-- ---- a block of the text

-- the classes of 64 bytes are those of the bytes that the text has there
pub classes_of : (classes : Classes) (text : List ℕ) (at n : ℕ) → n ≤ 64 → at + n ≤ length text → AreClasses classes (block_from text at)
    → AreClasses classes (take n (drop at text))
classes_of classes text at n most within are = record {
  quote = on classes.quote 34 are.quote;
  comma = on classes.comma 44 are.comma;
  cr = on classes.cr 13 are.cr;
  lf = on classes.lf 10 are.lf;
}
  where
    on : (word byte : ℕ) → Marks word (block_from text at) byte → Marks word (take n (drop at text)) byte
    on word byte marks i h =
        let long : length (drop at text) ≡ length text - at = length-drop at text in
        let less : i < n = omega (arith, length-take n (drop at text)) in
        let whole : length (drop at text ++ replicate 64 0) ≡ length (drop at text) + 64 = length-append (drop at text) (replicate 64 0) in
        let inside : i < length (block_from text at) = omega (arith, length-take 64 (drop at text ++ replicate 64 0)) in
        let same : slice_index (block_from text at) i ≡ slice_index (take n (drop at text)) i =
        get_or-take 64 (drop at text ++ replicate 64 0) i 0 (omega arith)
        ∙ get_or-append (drop at text) (replicate 64 0) 0 i (omega arith)
        ∙ sym (get_or-take n (drop at text) i 0 less) in
        subst (λ b. (bit_at word i ≡ 1) ↔ (b ≡ byte)) same (marks i inside)

-- ---- the roles of a block

not_both : Some separator ≡ Some record_end → ⊥
not_both e = cc

not_end : Some inner ≡ Some record_end → ⊥
not_end e = cc

not_separator : Some inner ≡ Some separator → ⊥
not_separator e = cc

-- a set bit is within the word
bit_within : (word n k : ℕ) → word < 2 ^ n → bit_at word k ≡ 1 → k < n
bit_within word n k h set = within_or n k (λ past. not_one (bit_at_above word n k h past) set)
  where
    not_one : bit_at word k ≡ 0 → bit_at word k ≡ 1 → ⊥
    not_one z o = omega arith

    within_or : (a c : ℕ) → (a ≤ c → ⊥) → c < a
    within_or a c never = grind arith

-- roles that are marked so are those of the masks
marked_roles : (sep eol i : ℕ) (roles : List Role)
    → ((k : ℕ) → k < length roles → (bit_at sep (i + k) ≡ 1) ↔ (slice_get roles k ≡ Some separator))
    → ((k : ℕ) → k < length roles → (bit_at eol (i + k) ≡ 1) ↔ (slice_get roles k ≡ Some record_end))
    → roles ≡ mask_roles sep eol i (length roles)
unfolding mask_roles
marked_roles sep eol i [] s e = none sep eol i
  where
    none : (v w j : ℕ) → [] ≡ mask_roles v w j 0
    none v w j = refl
marked_roles sep eol i (role ∷ roles) s e =
    let here : i + 0 ≡ i = omega arith in
    ap (λ r. r ∷ roles) (first role (subst (λ k. (bit_at sep k ≡ 1) ↔ (Some role ≡ Some separator)) here (s 0 (omega arith)))
    (subst (λ k. (bit_at eol k ≡ 1) ↔ (Some role ≡ Some record_end)) here (e 0 (omega arith))))
    ∙ ap (λ rs. mask_role sep eol i ∷ rs) (marked_roles sep eol (i + 1) roles (λ k h. next sep separator k (s (suc k) (omega arith))) (λ k h. next eol record_end k (e (suc k) (omega arith))))
  where
    next : (word : ℕ) (r : Role) (k : ℕ) → (bit_at word (i + suc k) ≡ 1) ↔ (slice_get roles k ≡ Some r) → (bit_at word (i + 1 + k) ≡ 1) ↔ (slice_get roles k ≡ Some r)
    next word r k h = let same : i + suc k ≡ i + 1 + k = omega arith in subst (λ j. (bit_at word j ≡ 1) ↔ (slice_get roles k ≡ Some r)) same h

    first : (r : Role) → (bit_at sep i ≡ 1) ↔ (Some r ≡ Some separator) → (bit_at eol i ≡ 1) ↔ (Some r ≡ Some record_end) → r ≡ mask_role sep eol i
    first separator hs he = rw (ne_eqb (bit_at eol i) 1 (λ set. not_both (he.0 set)), hs.1 refl) refl
    first record_end hs he = rw (he.1 refl) refl
    first inner hs he = rw (ne_eqb (bit_at eol i) 1 (λ set. not_end (he.0 set)), ne_eqb (bit_at sep i) 1 (λ set. not_separator (hs.0 set))) refl

-- what the masks say of a block after a front
pub record BlockRoles (t b : List ℕ) (roles : List Role) (sep eol : ℕ) : Type 0 where
  pub next : List Role
  pub are : AreRoles (t ++ b) next
  pub is : next ≡ roles ++ mask_roles sep eol 0 (length b)

pub block_roles : (laws : OneStructure) (t b : List ℕ) (roles : List Role) (masks : Masks) → AreRoles t roles → AreMasks masks t b → IsViable (t ++ b)
    → masks.sep < 2 ^ length b → BlockRoles t b roles masks.sep masks.eol
block_roles laws t b roles masks are m viable within =
    let some = laws.some (t ++ b) viable in
    let next : List Role = some.0 in
    let front : roles ≡ take (length t) next = laws.one t roles (take (length t) next) are (laws.front t b next some.1) in
    let there : AreRoles (t ++ take (length b) b) next = subst (λ x. AreRoles (t ++ x) next) (sym (take_all (length b) b (omega arith))) some.1 in
    let s = m.sep (length b) next (omega arith) there in
    let e = m.eol (length b) next (omega arith) there in
    let size : length (drop (length t) next) ≡ length b = omega (arith, length-drop (length t) next, laws.count (t ++ b) next some.1, length-append t b) in
    let zero_based : (k : ℕ) → 0 + k ≡ k = λ k. omega arith in
    let block : drop (length t) next ≡ mask_roles masks.sep masks.eol 0 (length (drop (length t) next)) =
    marked_roles masks.sep masks.eol 0 (drop (length t) next)
    (λ k h. subst (λ j. (bit_at masks.sep j ≡ 1) ↔ (slice_get (drop (length t) next) k ≡ Some separator)) (sym (zero_based k)) (s k h))
    (λ k h. subst (λ j. (bit_at masks.eol j ≡ 1) ↔ (slice_get (drop (length t) next) k ≡ Some record_end)) (sym (zero_based k)) (e k h)) in record {
      next = next;
      are = some.1;
      is = sym (take-append-drop (length t) next) ∙ ap (λ l. l ++ drop (length t) next) (sym front) ∙ ap (λ l. roles ++ l) (block ∙ ap (mask_roles masks.sep masks.eol 0) size);
    }

-- the next block of the text
pub next_block : List ℕ → ℕ → ℕ → List ℕ
next_block text n len = take len (drop (64 * n) text)

take_none : (n : ℕ) → take {A = ℕ} n [] ≡ []
take_none zero = refl
take_none (suc n) = refl

take_cut : (xs : List ℕ) (len k : ℕ) → len ≡ min (length xs) k → take len xs ≡ take k xs
take_cut [] len k e = take_none len ∙ sym (take_none k)
take_cut (x ∷ xs) len zero e = let none : len ≡ 0 = omega arith in ap (λ n. take n (x ∷ xs)) none
take_cut (x ∷ xs) zero (suc k) e = absurd (omega arith)
take_cut (x ∷ xs) (suc len) (suc k) e = ap (λ l. x ∷ l) (take_cut xs len k (omega arith))

module _ (text : List ℕ) (n len : ℕ) (more : 64 * n < length text) (is : len ≡ min (length text - 64 * n) 64) where
  pub length-next_block : length (next_block text n len) ≡ len
  unfolding next_block
  length-next_block = length-take len (drop (64 * n) text) ∙ omega (arith, length-drop (64 * n) text)

  pub length-front : length (take (64 * n) text) ≡ 64 * n
  length-front = length-take (64 * n) text ∙ omega arith

  -- the front with the next block is the next front
  pub next_front : take (64 * n) text ++ next_block text n len ≡ take (64 * (n + 1)) text
  unfolding next_block
  next_front =
      let sum : 64 * n + 64 ≡ 64 * (n + 1) = omega arith in
      ap (λ l. take (64 * n) text ++ l) (take_cut (drop (64 * n) text) len 64 (omega (arith, length-drop (64 * n) text)))
      ∙ sym (take-add (64 * n) 64 text) ∙ ap (λ k. take k text) sum

  -- and with all that follows it is the text
  pub whole_text : (take (64 * n) text ++ next_block text n len) ++ drop (64 * (n + 1)) text ≡ text
  whole_text = ap (λ l. l ++ drop (64 * (n + 1)) text) next_front ∙ take-append-drop (64 * (n + 1)) text

-- the masks of the next block
pub record StepsTo (text : List ℕ) (n len : ℕ) (masks : Masks) (behind : TextCarry) : Type 0 where
  pub more : 64 * n < length text
  pub len_is : len ≡ min (length text - 64 * n) 64
  pub carried : behind ≡ carry_of (take (64 * n) text ++ next_block text n len)
  pub masks_are : AreMasks masks (take (64 * n) text) (next_block text n len)
  pub sep : masks.sep < 2 ^ len
  pub eol : masks.eol < 2 ^ len
  pub fault : masks.fault < 2 ^ len

-- what `step` ensures, at the next block
pub steps_to : (text rest : List ℕ) (n len : ℕ) (classes : Classes) (masks : Masks) (carry behind : TextCarry) (blocks : List ℕ) (widths : Widths) (was : Bool)
    → HasReadText text n carry blocks widths was → rest ≡ drop (64 * n) text → 0 < len → len ≡ min (length rest) 64 → AreClasses classes (block_from rest 0)
    → ((t b : List ℕ) → carry ≡ carry_of t → length b ≡ len → AreClasses classes b → behind ≡ carry_of (t ++ b))
    → ((t b : List ℕ) → carry ≡ carry_of t → length b ≡ len → AreClasses classes b → IsViable t → AreMasks masks t b)
    → (masks.sep < 2 ^ len) × (masks.eol < 2 ^ len) × (masks.fault < 2 ^ len) → StepsTo text n len masks behind
unfolding next_block
steps_to text rest n len classes masks carry behind blocks widths was read is some len_is are carried masked within =
    let size : length rest ≡ length text - 64 * n = ap length is ∙ length-drop (64 * n) text in
    let more : 64 * n < length text = omega arith in
    let cut : len ≡ min (length text - 64 * n) 64 = omega arith in
    let b : AreClasses classes (take len (drop (64 * n) text)) = classes_of classes text (64 * n) len (omega arith) (omega arith) (subst (λ r. AreClasses classes (block_from r 0)) is are) in record {
      more = more;
      len_is = cut;
      carried = carried (take (64 * n) text) (take len (drop (64 * n) text)) read.carried (length-next_block text n len more cut) b;
      masks_are = masked (take (64 * n) text) (take len (drop (64 * n) text)) read.carried (length-next_block text n len more cut) b read.viable;
      sep = within.0;
      eol = within.1;
      fault = within.2;
    }

pub less_wide : (a k : ℕ) → k ≤ 64 → a < 2 ^ k → a < 2 ^ 64
less_wide a k most h =
    let two : 0 < 2 = omega arith in
    let wide : 2 ^ k ≤ 2 ^ 64 = pow-le-pow_right two most in
    omega arith

-- the lowest bit of a word is within it
pub lowest_within : (word len : ℕ) → len ≤ 64 → word < 2 ^ len → word ≢ 0 → trailing_zeros w64 word < len
lowest_within word len most within some =
    let low = bit_at-trailing_zeros w64 word (omega arith) (less_wide word len most within) in
    bit_within word len (trailing_zeros w64 word) within low.1

-- the lowest bit of the fault word is the text's fault
pub read_fault : (text : List ℕ) (n len left : ℕ) (masks : Masks) (behind : TextCarry) → StepsTo text n len masks behind → masks.fault ≢ 0
    → left ≡ length text - 64 * n - trailing_zeros w64 masks.fault
    → HasFaultFrom text left
read_fault text n len left masks behind s some is =
    let small : masks.fault < 2 ^ 64 = less_wide masks.fault len (omega (arith, s.len_is)) s.fault in
    let low = bit_at-trailing_zeros w64 masks.fault (omega arith) small in
    let lowest : IsLowest masks.fault (trailing_zeros w64 masks.fault) = record { set = low.1; none = low.2 } in
    let inside : trailing_zeros w64 masks.fault < len = lowest_within masks.fault len (omega (arith, s.len_is)) s.fault some in
    let front : length (take (64 * n) text) + trailing_zeros w64 masks.fault ≡ length text - left =
    omega (arith, length-front text n len s.more s.len_is, s.more, s.len_is, inside, is) in
    let whole = whole_text text n len s.more s.len_is in (
      omega (arith, s.more, s.len_is, inside),
      omega arith,
      subst (λ p. HasFault text p (cause_at text p)) front
          (subst (λ t. HasFault t (length (take (64 * n) text) + trailing_zeros w64 masks.fault) (cause_at t (length (take (64 * n) text) + trailing_zeros w64 masks.fault))) whole
          (s.masks_are.place (trailing_zeros w64 masks.fault) (drop (64 * (n + 1)) text) lowest)),
    )
