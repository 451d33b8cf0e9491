-- Each stream has a cut.
use Rattle.std.proofs.Common.{◌<◌, ◌≤◌, ◌⊎◌, ℕ, zero, suc, true, false, List, [], ◌∷◌, length, take, refl, sym, subst, arith, inl, inr, ◌+◌}
use Rattle.std.proofs.lemmas.Bool.{cases_Bool, cases_lt}
use Rattle.std.proofs.lemmas.List.{take_all}
use Rattle.httparse.specs.Grammar.{RequestHead, print_request}
use Rattle.httparse.proofs.GrammarLemmas.{request_unique, request_pieces, request_from_pieces, request_head, request_tree}
use Rattle.http_heads.specs.declared.head.TheConstants.{MAX_HEAD, MAX_FIELDS}
use Rattle.http_heads.specs.Head.{HeadOf, head_of, IsSmall, BeginsWith, HasNoHead}
use Rattle.http_heads.specs.Checks.{closes}
use Rattle.http_heads.specs.Laws.{HasCut, OneCut}
use Rattle.http_heads.proofs.HeadLemmas.{begins_shorter, nothing_first}
use Rattle.http_heads.proofs.CutLemmas.{cut_unique, cut_before, cut_last}
use Rattle.http_heads.proofs.HeadFinds.{head_told}

-- a head is small, or it is not
small_or_not : (h : RequestHead) → IsSmall h ⊎ ¬ (IsSmall h)
small_or_not h = elim (cases_lt MAX_HEAD (length (print_request h))) [
  | inl long ↦ inr (λ small. let b : length (print_request h) ≤ MAX_HEAD = small.bytes in omega (arith, b, long))
  | inr short ↦ elim (cases_lt MAX_FIELDS (length h.fields)) [
    | inl many ↦ inr (λ small. let f : length h.fields ≤ MAX_FIELDS = small.fields in omega (arith, f, many))
    | inr few ↦ inl (record { bytes = short; fields = few })
  ]
]

-- some bytes begin with a head, or they do not
begins_or_not : (s : List ℕ) → ((h : HeadOf) × (rest : List ℕ) × BeginsWith s h rest) ⊎ HasNoHead s
begins_or_not s = elim (head_told s) [
  | inl x ↦ let h = request_head x.0 in let reads = request_from_pieces s x.0 x.1 x.2 in
      elim (small_or_not h) [
        | inl small ↦ inl (head_of h, x.1, record { tree = h; reads = reads; small = small; parts = refl })
        | inr large ↦ inr (λ k rest b.
            let same = request_unique s b.tree h rest x.1 b.reads reads in
            let P : RequestHead → Type 0 = λ z. IsSmall z in large (subst P same.0 b.small))
      ]
  | inr none ↦ inr (λ k rest b. none (request_tree b.tree, rest, request_pieces s b.tree rest b.reads))
]

cut_within : (n : ℕ) (s : List ℕ) → length s < n → HasCut s
cut_within zero s less = absurd (omega arith)
cut_within (suc n) s less = elim (begins_or_not s) [
  | inl x ↦ elim (cases_Bool (closes x.0)) [
    | inl holds ↦ (x.0 ∷ [], [], true, cut_last s x.0 x.1 x.2 holds)
    | inr breaks ↦
        let shorter : length x.1 < length s = begins_shorter x.2 in
        let t = cut_within n x.1 (omega (arith, shorter, less)) in
        (x.0 ∷ t.0, t.1, t.2, cut_before s x.0 x.1 t.0 t.1 t.2 x.2 breaks t.3)
  ]
  | inr none ↦ ([], take MAX_HEAD s, false, (refl, refl, none))
]

pub one_for_all : OneCut
one_for_all = record { empty = (sym (take_all MAX_HEAD [] (omega arith)), refl, nothing_first); some = λ s. cut_within (length s + 1) s (omega arith); one = cut_unique }
