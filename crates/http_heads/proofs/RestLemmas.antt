-- The rest of a stream, and the pieces that can't end a head after it.
use Rattle.std.proofs.Common.{◌≡◌, ◌+◌, ◌≤◌, inl, inr, ℕ, Bool, true, false, ◌==◌, List, [], ◌∷◌, ◌++◌, length, take, drop, refl, sym, ap, ◌∙◌, subst, arith, MatchBool, length-append, length-take, append_assoc}
use Rattle.std.specs.List.{list_any, flat_map}
use Rattle.std.proofs.lemmas.Bool.{false≢true, cases_lt, or_right}
use Rattle.std.proofs.lemmas.List.{take-append-le, drop-append-le, take_all}
use Rattle.std.proofs.Math.Seq.{drop-append_seam}
use Rattle.httparse.specs.Grammar.{LineEnd, crlf, lf, print_end, RequestHead, print_request, print_field}
use Rattle.http_heads.specs.declared.head.TheConstants.{MAX_HEAD}
use Rattle.http_heads.specs.Checks.{closes}
use Rattle.http_heads.specs.Cut.{IsCut}
use Rattle.http_heads.specs.Head.{HeadOf, HasNoHead, IsRest}
use Rattle.http_heads.specs.Splitter.{Splits}
use Rattle.http_heads.proofs.HeadLemmas.{nothing_first, first_none, front_within, long_enough}

-- what is kept is a rest
pub rest_kept : (left : List ℕ) → HasNoHead left → IsRest (take MAX_HEAD left)
rest_kept left none = record { short = omega (arith, length-take MAX_HEAD left); none = first_none MAX_HEAD left none }

pub rest_empty : IsRest []
rest_empty = record { short = omega arith; none = nothing_first }

-- what a cut leaves is a rest
kept_behind : (b : Bool) (more : List ℕ) (heads : List HeadOf) (rest : List ℕ) (closed : Bool) → (IsCut more heads rest closed → IsRest rest)
    → MatchBool b ((heads ≡ []) × (rest ≡ []) × (closed ≡ true)) (IsCut more heads rest closed) → IsRest rest
kept_behind true more heads rest closed on cut = let P : List ℕ → Type 0 = λ x. IsRest x in subst P (sym cut.1) rest_empty
kept_behind false more heads rest closed on cut = on cut

pub cut_kept : (s : List ℕ) (heads : List HeadOf) (rest : List ℕ) (closed : Bool) → IsCut s heads rest closed → IsRest rest
cut_kept s [] rest closed cut = let P : List ℕ → Type 0 = λ x. IsRest x in subst P (sym cut.0) (rest_kept s cut.2)
cut_kept s (h ∷ heads) rest closed cut = kept_behind (closes h) cut.0 heads rest closed (cut_kept cut.0 heads rest closed) cut.2

-- a piece that makes no head
pub splits_none : (rest piece kept : List ℕ) → HasNoHead (rest ++ piece) → kept ≡ take MAX_HEAD (rest ++ piece) → Splits rest piece [] kept
splits_none rest piece kept none same = record { left = rest ++ piece; begins = refl; none = none; kept_is = same }

-- after as many bytes as a head may have
pub full_adds : (rest piece : List ℕ) → IsRest rest → length rest ≡ MAX_HEAD → (rest ≡ take MAX_HEAD (rest ++ piece)) × HasNoHead (rest ++ piece)
full_adds rest piece is full =
    let long : MAX_HEAD ≤ length rest = omega (arith, full) in
    let same : take MAX_HEAD rest ≡ rest = take_all MAX_HEAD rest (omega (arith, full)) in
    (sym same ∙ sym (take-append-le MAX_HEAD rest piece long), long_enough rest piece long is.none)

-- ---- a head ends in a line feed

end_last : (e : LineEnd) → (front : List ℕ) × (print_end e ≡ front ++ 10 ∷ [])
end_last crlf = (13 ∷ [], refl)
end_last lf = ([], refl)

last_of_join : (a b : List ℕ) → (front : List ℕ) × (b ≡ front ++ 10 ∷ []) → (front : List ℕ) × (a ++ b ≡ front ++ 10 ∷ [])
last_of_join a b x = (a ++ x.0, ap (λ t. a ++ t) x.1 ∙ sym (append_assoc a x.0 (10 ∷ [])))

head_last : (h : RequestHead) → (front : List ℕ) × (print_request h ≡ front ++ 10 ∷ [])
unfolding print_request
head_last h = last_of_join _ _ (last_of_join (flat_map print_field h.fields) (print_end h.last) (end_last h.last))

-- the byte after a front that is as long as another front stands in what is after that
behind_front : (rest piece front more : List ℕ) (b : ℕ) → rest ++ piece ≡ (front ++ b ∷ []) ++ more → length rest ≤ length front
    → piece ≡ drop (length rest) front ++ b ∷ more
behind_front rest piece front more b e short =
    sym (drop-append_seam rest piece) ∙ ap (drop (length rest)) (e ∙ append_assoc front (b ∷ []) more)
    ∙ drop-append-le (length rest) front (b ∷ more) short

has_byte : (b : ℕ) (xs ys : List ℕ) → list_any (λ y. y == b) (xs ++ b ∷ ys) ≡ true
has_byte b [] ys = grind arith
has_byte b (x ∷ xs) ys = or_right (x == b) _ (has_byte b xs ys)

-- a piece without a line feed makes no head
pub none_ends : (rest piece : List ℕ) → HasNoHead rest → list_any (λ y. y == 10) piece ≡ false → HasNoHead (rest ++ piece)
none_ends rest piece none without head more b = elim (cases_lt (length rest) (length (print_request b.tree))) [
  | inr within ↦ none head _ (record {
    tree = b.tree;
    reads = (b.reads.0, front_within rest piece (print_request b.tree) more within b.reads.1);
    small = b.small;
    parts = b.parts;
  })
  | inl past ↦
      let last = head_last b.tree in
      let size : length (print_request b.tree) ≡ length last.0 + 1 = ap length last.1 ∙ length-append last.0 (10 ∷ []) in
      let short : length rest ≤ length last.0 = omega (arith, past, size) in
      let split = behind_front rest piece last.0 more 10 (b.reads.1 ∙ ap (λ t. t ++ more) last.1) short in
      false≢true (sym without ∙ ap (list_any (λ y. y == 10)) split ∙ has_byte 10 (drop (length rest) last.0) more)
]
