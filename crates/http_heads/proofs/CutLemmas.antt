-- The cut of a stream: it is one, and what follows a stream is cut as what follows its rest.
use Rattle.std.proofs.Common.{◌≡◌, ◌<◌, ◌≤◌, ◌⊎◌, inl, inr, ℕ, Bool, true, false, List, [], ◌∷◌, ◌++◌, length, take, refl, sym, ap, ap₂, ◌∙◌, subst, arith, MatchBool, length-take, append_assoc, append-nil}
use Rattle.std.proofs.lemmas.Bool.{false≢true, cases_lt}
use Rattle.std.proofs.lemmas.List.{take-append-le, take_all}
use Rattle.http_heads.proofs.CaseLaws.{MatchBool-from_false, MatchBool_elim_two}
use Rattle.http_heads.specs.declared.checks.Checks.{Checks}
use Rattle.http_heads.specs.declared.head.TheConstants.{MAX_HEAD}
use Rattle.http_heads.specs.Head.{HeadOf, BeginsWith, HasNoHead}
use Rattle.http_heads.specs.Checks.{checks_of, closes}
use Rattle.http_heads.specs.Cut.{IsCut}
use Rattle.http_heads.specs.Laws.{CutsJoin}
use Rattle.http_heads.proofs.HeadLemmas.{begins-append, begins_unique, long_enough, short_front}

-- the two cases of a test
by_bool : {P Q R : Type 0} (b : Bool) → (b ≡ true → P → R) → (b ≡ false → Q → R) → MatchBool b P Q → R
by_bool true on off m = on refl m
by_bool false on off m = off refl m

-- one case of a test that is known

pub if_true : (P Q : Type 0) (b : Bool) → b ≡ true → P → MatchBool b P Q
if_true P Q b e p = let F : Bool → Type 0 = λ x. MatchBool x P Q in subst F (sym e) p

-- a stream is cut in one way
pub cut_unique : (s : List ℕ) (heads others : List HeadOf) (rest left : List ℕ) (closed shut : Bool)
    → IsCut s heads rest closed → IsCut s others left shut → (heads ≡ others) × (rest ≡ left) × (closed ≡ shut)
cut_unique s [] [] rest left closed shut a b = (refl, a.0 ∙ sym b.0, a.1 ∙ sym b.1)
cut_unique s [] (k ∷ ks) rest left closed shut a b = absurd (a.2 k b.0 b.1)
cut_unique s (h ∷ hs) [] rest left closed shut a b = absurd (b.2 h a.0 a.1)
cut_unique s (h ∷ hs) (k ∷ ks) rest left closed shut a b =
    let same = begins_unique a.1 b.1 in
    let P : HeadOf → Type 0 = λ x. MatchBool (closes x)
    ((ks ≡ []) × (left ≡ []) × (shut ≡ true)) (IsCut b.0 ks left shut) in
    let Q : List ℕ → Type 0 = λ x. IsCut x hs rest closed in
    let tails : (hs ≡ ks) × (rest ≡ left) × (closed ≡ shut) = MatchBool_elim_two (closes h)
    (λ x y. (x.0 ∙ sym y.0, x.1 ∙ sym y.1, x.2 ∙ sym y.2))
    (λ x y. cut_unique b.0 hs ks rest left closed shut (subst Q same.1 x) y)
    a.2 (subst P (sym same.0) b.2) in
    (ap₂ (λ (x : HeadOf) (xs : List HeadOf). x ∷ xs) same.0 tails.0, tails.1, tails.2)

-- one more head in front, after which the connection stays open
pub cut_before : (s : List ℕ) (h : HeadOf) (more : List ℕ) (heads : List HeadOf) (rest : List ℕ) (closed : Bool)
    → BeginsWith s h more → closes h ≡ false → IsCut more heads rest closed → IsCut s (h ∷ heads) rest closed
cut_before s h more heads rest closed b stays cut = (more, b, MatchBool-from_false _ _ (closes h) stays cut)

-- a head after which it closes
pub cut_last : (s : List ℕ) (h : HeadOf) (more : List ℕ) → BeginsWith s h more → closes h ≡ true → IsCut s (h ∷ []) [] true
cut_last s h more b shuts = (more, b, if_true _ _ (closes h) shuts (refl, refl, refl))

-- where nothing begins with a head, the cut has none
cut_nothing : (s : List ℕ) (heads : List HeadOf) (rest : List ℕ) (closed : Bool)
    → HasNoHead s → IsCut s heads rest closed → (heads ≡ []) × (rest ≡ take MAX_HEAD s) × (closed ≡ false)
cut_nothing s heads rest closed none a = cut_unique s heads [] rest (take MAX_HEAD s) closed false a (refl, refl, none)

take_front : (n : ℕ) (left p : List ℕ) → n ≤ length left → take n (left ++ p) ≡ take n (take n left ++ p)
take_front n left p long =
    let all : n ≤ length (take n left) = omega (arith, length-take n left, long) in
    take-append-le n left p long ∙ sym (take_all n (take n left) (omega (arith, length-take n left)))
    ∙ sym (take-append-le n (take n left) p all)

-- the first bytes of what has no head at its front, as many as a head may have, serve as all of it
cut_rest : (left p : List ℕ) (hs : List HeadOf) (rest : List ℕ) (c : Bool)
    → HasNoHead left → IsCut (take MAX_HEAD left ++ p) hs rest c → IsCut (left ++ p) hs rest c
cut_rest left p hs rest c none a = by_length (cases_lt (length left) MAX_HEAD) where
  by_length : (length left < MAX_HEAD) ⊎ (MAX_HEAD ≤ length left) → IsCut (left ++ p) hs rest c
  by_length (inl short) =
      let within : length left ≤ MAX_HEAD = omega (arith, short) in
      let P : List ℕ → Type 0 = λ x. IsCut (x ++ p) hs rest c in
      subst P (take_all MAX_HEAD left within) a
  by_length (inr long) =
      let done = cut_nothing (take MAX_HEAD left ++ p) hs rest c (short_front left p long none) a in
      let P : List HeadOf → Type 0 = λ x. IsCut (left ++ p) x rest c in
      let same : rest ≡ take MAX_HEAD (left ++ p) = done.1 ∙ sym (take_front MAX_HEAD left p long) in
      let cut : IsCut (left ++ p) [] rest c = (same, done.2, long_enough left p long none) in
      subst P (sym done.0) cut

-- what follows a stream that stays open is cut as what follows its rest
pub cut_joins : (s p : List ℕ) (heads others : List HeadOf) (rest left : List ℕ) (closed : Bool)
    → IsCut s heads rest false → IsCut (rest ++ p) others left closed → IsCut (s ++ p) (heads ++ others) left closed
cut_joins s p [] others rest left closed a b =
    let P : List ℕ → Type 0 = λ x. IsCut (x ++ p) others left closed in
    cut_rest s p others left closed a.2 (subst P a.0 b)
cut_joins s p (h ∷ heads) others rest left closed a b = by_bool (closes h)
    (λ e x. absurd (false≢true x.2))
    (λ e x. cut_before (s ++ p) h (a.0 ++ p) (heads ++ others) left closed (begins-append p a.1) e
    (cut_joins a.0 p heads others rest left closed x b))
    a.2

-- further bytes change nothing after a head that closes
closed-append : (s p : List ℕ) (heads : List HeadOf) (rest : List ℕ) → IsCut s heads rest true → IsCut (s ++ p) heads rest true
closed-append s p [] rest a = absurd (false≢true (sym a.1))
closed-append s p (h ∷ hs) rest a = by_bool (closes h)
    (λ e x. (a.0 ++ p, begins-append p a.1, if_true _ _ (closes h) e x))
    (λ e x. cut_before (s ++ p) h (a.0 ++ p) hs rest true (begins-append p a.1) e (closed-append a.0 p hs rest x))
    a.2

pub all_join : CutsJoin
all_join = record { follows = cut_joins; closed = closed-append }

-- ---- the heads of a piece, one after another

-- These heads stand before what is left of a stream, and none of them closes: what is cut off there is cut off after them.
abbrev pub StandBefore : List ℕ → List HeadOf → List ℕ → Type 0
StandBefore s heads left = (others : List HeadOf) (rest : List ℕ) (closed : Bool) → IsCut left others rest closed → IsCut s (heads ++ others) rest closed

-- what the checks of a head tell
told_of : (seen h : HeadOf) (checks : Checks) → seen ≡ h → checks ≡ checks_of seen → closes h ≡ checks.closes
told_of seen h checks view told = sym (ap closes view) ∙ sym (ap (λ (x : Checks). x.closes) told)

pub before_first : (s : List ℕ) → StandBefore s [] s
before_first s = λ others rest closed cut. cut

-- one more head, which was checked, and after which the connection stays open
pub before_more : (s : List ℕ) (heads after : List HeadOf) (left : List ℕ) (seen h : HeadOf) (more : List ℕ) (checks : Checks)
    → StandBefore s heads left → BeginsWith left h more → seen ≡ h → checks ≡ checks_of seen → checks.closes ≡ false → after ≡ heads ++ seen ∷ []
    → StandBefore s after more
before_more s heads after left seen h more checks before b view told stays pushed = λ others rest closed cut.
    let P : List HeadOf → Type 0 = λ x. IsCut s x rest closed in
    let open_behind : closes h ≡ false = told_of seen h checks view told ∙ stays in
    let same : after ++ others ≡ heads ++ h ∷ others =
    ap (λ hs. hs ++ others) (pushed ∙ ap (λ x. heads ++ x ∷ []) view) ∙ append_assoc heads (h ∷ []) others in
    subst P (sym same) (before (h ∷ others) rest closed (cut_before left h more others rest closed b open_behind cut))

-- the first that closes
pub before_closing : (s : List ℕ) (heads after : List HeadOf) (left : List ℕ) (seen h : HeadOf) (more rest : List ℕ) (checks : Checks)
    → StandBefore s heads left → BeginsWith left h more → seen ≡ h → checks ≡ checks_of seen → checks.closes ≡ true → after ≡ heads ++ seen ∷ []
    → rest ≡ [] → IsCut s after rest checks.closes
before_closing s heads after left seen h more rest checks before b view told shuts pushed none =
    let P : List HeadOf → Type 0 = λ x. IsCut s x rest checks.closes in
    let Q : List ℕ → Type 0 = λ x. IsCut s (heads ++ h ∷ []) x checks.closes in
    let R : Bool → Type 0 = λ x. IsCut s (heads ++ h ∷ []) [] x in
    let shut_behind : closes h ≡ true = told_of seen h checks view told ∙ shuts in
    subst P (sym (pushed ∙ ap (λ x. heads ++ x ∷ []) view))
    (subst Q (sym none) (subst R (sym shuts) (before (h ∷ []) [] true (cut_last left h more b shut_behind))))

-- no head is left
pub before_rest : (s : List ℕ) (heads : List HeadOf) (left : List ℕ) → StandBefore s heads left → HasNoHead left → IsCut s heads (take MAX_HEAD left) false
before_rest s heads left before none =
    let P : List HeadOf → Type 0 = λ x. IsCut s x (take MAX_HEAD left) false in
    subst P (append-nil heads) (before [] (take MAX_HEAD left) false (refl, refl, none))
