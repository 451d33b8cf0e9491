-- Masks whose bits say, byte for byte, what may follow and which role it has, are the masks of the block after the text.
use Rattle.std.proofs.Common.{◌≡◌, ◌↔◌, ℕ, zero, suc, ◌+◌, ◌^◌, ◌<◌, ◌≤◌, Bool, true, false, not, ◌&&◌, if◌then◌else◌, ◌==◌, List, [], ◌∷◌, ◌++◌, length, take, drop, Some, refl, sym, ap, ◌∙◌, subst, arith, append_assoc, append-nil, le_refl, length-append, length-drop, inl, inr, ◌⊎◌, eq-eqb, ne_eqb}
use Rattle.std.specs.Prelude.{slice_get, slice_index, IsTrue}
use Rattle.std.specs.Int.{bit_at}
use Rattle.std.proofs.lemmas.Bool.{cases_eq, cases_lt, eqb-true}
use Rattle.std.proofs.lemmas.List.{take_more, take_all, take-take, take-append-drop, length-take-le}
use Rattle.std.proofs.lemmas.Nat.Bits.{bit_at_above, bit_at-zero}
use Rattle.csv_grammar.specs.Bytes.{comma, line_feed}
use Rattle.csv_grammar.specs.Faults.{IsViable, cause_at, HasFault}
use Rattle.csv_grammar.specs.Structure.{Role, separator, record_end, inner, AreRoles}
use Rattle.csv_grammar.specs.Following.{carry_of, may_follow, following_role}
use Rattle.csv_grammar.specs.Laws.{OneStructure, WhatFollows}
use Rattle.csv_grammar.proofs.ListLaws.{slice_get-drop, slice_get-take}
use Rattle.quote_parity.specs.Words.{NoneBelow, IsLowest}
use Rattle.quote_parity.specs.Carry.{MarksRole, AreMasks}
use Rattle.quote_parity.specs.declared.carry.Masks.{Masks}
use Rattle.quote_parity.proofs.BitLemmas.{bit}

-- ---- parts of lists

slice_get-push : {X : Type 0} (xs : List X) (x : X) → slice_get (xs ++ x ∷ []) (length xs) ≡ Some x
slice_get-push [] x = refl
slice_get-push (y ∷ xs) x = slice_get-push xs x

-- ---- tests and bits

set_bit : (word i : ℕ) → (bit_at word i ≡ 1) ↔ (bit word i ≡ true)
set_bit word i = (λ e. eq-eqb (bit_at word i) 1 e, eqb-true (bit_at word i) 1)

sep_role : (p c l : Bool)
    → (((not p && true) && c) ≡ true) ↔ (Some (if p then inner else (if c then separator else (if l then record_end else inner))) ≡ Some separator)
sep_role true c l = (λ e. cc, λ e. cc)
sep_role false true l = (λ e. refl, λ e. refl)
sep_role false false true = (λ e. cc, λ e. cc)
sep_role false false false = (λ e. cc, λ e. cc)

eol_role : (p : Bool) (x : ℕ)
    → (((not p && true) && (x == line_feed)) ≡ true)
    ↔ (Some (if p then inner else (if x == comma then separator else (if x == line_feed then record_end else inner))) ≡ Some record_end)
eol_role p x =
    elim (cases_eq x line_feed) [
      | inl is ↦ rw is (feed p)
      | inr other ↦ rw (ne_eqb x line_feed other) (none p (x == comma))
    ]
  where
    feed : (q : Bool) → (((not q && true) && true) ≡ true) ↔ (Some (if q then inner else record_end) ≡ Some record_end)
    feed true = (λ e. cc, λ e. cc)
    feed false = (λ e. refl, λ e. refl)

    none : (q c : Bool) → (((not q && true) && false) ≡ true) ↔ (Some (if q then inner else (if c then separator else inner)) ≡ Some record_end)
    none true c = (λ e. cc, λ e. cc)
    none false true = (λ e. cc, λ e. cc)
    none false false = (λ e. cc, λ e. cc)

-- ---- masks

-- what the bits say of the block after the text
pub record BitsSay (masks : Masks) (text block : List ℕ) : Type 0 where
  pub sep : (i : ℕ) → i < length block
      → bit masks.sep i ≡ ((not ((carry_of (text ++ take i block)).parity == 1) && true) && (slice_index block i == comma))
  pub eol : (i : ℕ) → i < length block
      → bit masks.eol i ≡ ((not ((carry_of (text ++ take i block)).parity == 1) && true) && (slice_index block i == line_feed))
  pub fault : (i : ℕ) → i < length block → bit masks.fault i ≡ not (may_follow (carry_of (text ++ take i block)) (slice_index block i))
  pub within : masks.fault < 2 ^ length block

module _ (structure : OneStructure) (follows : WhatFollows) (masks : Masks) (text block : List ℕ) (say : BitsSay masks text block) where
  abbrev front : ℕ → List ℕ
  front n = text ++ take n block

  abbrev byte_at : ℕ → ℕ
  byte_at n = slice_index block n

  front-more : (n : ℕ) → n < length block → front (n + 1) ≡ front n ++ byte_at n ∷ []
  front-more n h = ap (λ w. text ++ w) (take_more block n 0 h) ∙ sym (append_assoc text (take n block) (byte_at n ∷ []))

  length-front : (n : ℕ) → n ≤ length block → length (front n) ≡ length text + n
  length-front n h = length-append text (take n block) ∙ ap (λ m. length text + m) (length-take-le n block h)

  -- ---- faults

  -- a byte whose bit is not set may follow
  may_where_none : (n : ℕ) → n < length block → bit_at masks.fault n ≡ 0 → IsTrue (may_follow (carry_of (front n)) (byte_at n))
  may_where_none n h none = turned (may_follow (carry_of (front n)) (byte_at n)) (sym (ap (λ m. m == 1) none) ∙ say.fault n h)
    where
      turned : (b : Bool) → false ≡ not b → b ≡ true
      turned true e = refl
      turned false e = cc

  -- and one whose bit is set may not
  none_where_set : (n : ℕ) → n < length block → bit_at masks.fault n ≡ 1 → ¬ (IsTrue (may_follow (carry_of (front n)) (byte_at n)))
  none_where_set n h set may = turned (may_follow (carry_of (front n)) (byte_at n)) (sym (ap (λ m. m == 1) set) ∙ say.fault n h) may
    where
      turned : (b : Bool) → true ≡ not b → b ≡ true → ⊥
      turned true e is = cc
      turned false e is = cc

  module _ (viable : IsViable text) where
    -- the text with a front of the block is viable as far as no bit is set
    viable_at : (n : ℕ) → n ≤ length block → NoneBelow masks.fault n → IsViable (front n)
    viable_at zero h none = subst IsViable (sym (append-nil text)) viable
    viable_at (suc n) h none =
        let within : n < length block = omega arith in
        let next : n + 1 ≡ suc n = omega arith in
        subst (λ m. IsViable (front m)) next
        (subst IsViable (sym (front-more n within))
        ((follows.byte (front n) (byte_at n) (viable_at n (omega arith) (λ i below. none i (omega arith)))).0 (may_where_none n within (none n (omega arith)))))

    place_at : (n : ℕ) (more : List ℕ) → IsLowest masks.fault n
        → HasFault ((text ++ block) ++ more) (length text + n) (cause_at ((text ++ block) ++ more) (length text + n))
    place_at n more low =
        subst (λ w. HasFault w (length text + n) (cause_at w (length text + n))) whole
        (subst (λ p. HasFault cut p (cause_at cut p)) (length-front n (omega (arith, within)))
        (follows.fault (front n) (byte_at n) (drop (n + 1) block ++ more) v (λ w. none_where_set n within low.set ((follows.byte (front n) (byte_at n) v).1 w))))
      where
        inside : (n < length block) ⊎ (length block ≤ n) → n < length block
        inside (inl less) = less
        inside (inr past) = absurd (omega (arith, bit_at_above masks.fault (length block) n say.within past, low.set))

        within : n < length block
        within = inside (cases_lt n (length block))

        v : IsViable (front n)
        v = viable_at n (omega (arith, within)) low.none

        cut : List ℕ
        cut = front n ++ byte_at n ∷ (drop (n + 1) block ++ more)

        whole : cut ≡ (text ++ block) ++ more
        whole = regroup (take n block) (drop (n + 1) block) ∙ ap (λ w. (text ++ w) ++ more) parts
          where
            parts : (take n block ++ byte_at n ∷ []) ++ drop (n + 1) block ≡ block
            parts = ap (λ w. w ++ drop (n + 1) block) (sym (take_more block n 0 within)) ∙ take-append-drop (n + 1) block

            regroup : (w v : List ℕ) → (text ++ w) ++ byte_at n ∷ (v ++ more) ≡ (text ++ ((w ++ byte_at n ∷ []) ++ v)) ++ more
            regroup w v = simp append_assoc

    viable_behind : masks.fault ≡ 0 → IsViable (text ++ block)
    viable_behind none =
        subst (λ w. IsViable (text ++ w)) (take_all (length block) block (le_refl (length block)))
        (viable_at (length block) (le_refl (length block)) (λ i h. ap (λ w. bit_at w i) none ∙ bit_at-zero i))

  -- ---- roles

  module _ (n : ℕ) (roles : List Role) (within : n ≤ length block) (are : AreRoles (front n) roles) where
    -- a front has a front of the roles
    abbrev roles_at : ℕ → List Role
    roles_at i = take (length (front i)) roles

    front_are : (i : ℕ) → i ≤ n → AreRoles (front i) (roles_at i)
    front_are i h = structure.front (front i) (drop i (take n block)) roles (subst (λ w. AreRoles w roles) split are)
      where
        split : front n ≡ front i ++ drop i (take n block)
        split =
            ap (λ w. text ++ w) (sym (take-append-drop i (take n block)) ∙ ap (λ w. w ++ drop i (take n block)) (take-take i n block h))
            ∙ sym (append_assoc text (take i block) (drop i (take n block)))

    -- the role of a byte depends on what stands before it
    role_at : (i : ℕ) → i < n → slice_get roles (length text + i) ≡ Some (following_role (carry_of (front i)) (byte_at i))
    role_at i h =
        sym (slice_get-take (length (front (i + 1))) roles (length text + i) (omega (arith, length-front (i + 1) (omega arith))))
        ∙ (ap (λ rs. slice_get rs (length text + i)) same
        ∙ (ap (slice_get (roles_at i ++ role ∷ [])) (sym (structure.count (front i) (roles_at i) (front_are i (omega arith)) ∙ length-front i (omega arith)))
        ∙ slice_get-push (roles_at i) role))
      where
        role : Role
        role = following_role (carry_of (front i)) (byte_at i)

        more : front (i + 1) ≡ front i ++ byte_at i ∷ []
        more = front-more i (omega arith)

        next : AreRoles (front i ++ byte_at i ∷ []) (roles_at (i + 1))
        next = subst (λ w. AreRoles w (roles_at (i + 1))) more (front_are (i + 1) (omega arith))

        same : roles_at (i + 1) ≡ roles_at i ++ role ∷ []
        same = structure.one (front i ++ byte_at i ∷ []) (roles_at (i + 1)) (roles_at i ++ role ∷ []) next
            (follows.role (front i) (roles_at i) (byte_at i) (front_are i (omega arith)) (structure.viable (front i ++ byte_at i ∷ []) (roles_at (i + 1)) next))

    count : length (drop (length text) roles) ≡ n
    count = omega (arith, length-drop (length text) roles, structure.count (front n) roles are, length-front n within)

    role_behind : (i : ℕ) → i < n → slice_get (drop (length text) roles) i ≡ Some (following_role (carry_of (front i)) (byte_at i))
    role_behind i h = slice_get-drop (length text) roles i ∙ role_at i h

    sep_marks : MarksRole masks.sep (drop (length text) roles) separator
    sep_marks i h = (
      λ e. role_behind i inside ∙ test.0 (sym (say.sep i (omega (arith, inside))) ∙ (set_bit masks.sep i).0 e),
      λ e. (set_bit masks.sep i).1 (say.sep i (omega (arith, inside)) ∙ test.1 (sym (role_behind i inside) ∙ e)),
    )
      where
        inside : i < n
        inside = omega (arith, count)

        test : (((not ((carry_of (front i)).parity == 1) && true) && (byte_at i == comma)) ≡ true)
            ↔ (Some (following_role (carry_of (front i)) (byte_at i)) ≡ Some separator)
        test = sep_role ((carry_of (front i)).parity == 1) (byte_at i == comma) (byte_at i == line_feed)

    eol_marks : MarksRole masks.eol (drop (length text) roles) record_end
    eol_marks i h = (
      λ e. role_behind i inside ∙ test.0 (sym (say.eol i (omega (arith, inside))) ∙ (set_bit masks.eol i).0 e),
      λ e. (set_bit masks.eol i).1 (say.eol i (omega (arith, inside)) ∙ test.1 (sym (role_behind i inside) ∙ e)),
    )
      where
        inside : i < n
        inside = omega (arith, count)

        test : (((not ((carry_of (front i)).parity == 1) && true) && (byte_at i == line_feed)) ≡ true)
            ↔ (Some (following_role (carry_of (front i)) (byte_at i)) ≡ Some record_end)
        test = eol_role ((carry_of (front i)).parity == 1) (byte_at i)

pub masks_from_bits : OneStructure → WhatFollows → (masks : Masks) (text block : List ℕ) → BitsSay masks text block → IsViable text → AreMasks masks text block
masks_from_bits structure follows masks text block say viable = record {
  place = place_at structure follows masks text block say viable;
  viable = viable_behind structure follows masks text block say viable;
  sep = sep_marks structure follows masks text block say;
  eol = eol_marks structure follows masks text block say;
}
