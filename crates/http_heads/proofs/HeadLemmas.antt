-- Heads at the front of some bytes: there is one list of them, and the bytes after as many as a head may have change nothing.
use Rattle.std.proofs.Common.{◌≡◌, ◌+◌, ◌-◌, ◌<◌, ◌≤◌, ℕ, List, [], ◌∷◌, ◌++◌, length, take, drop, refl, sym, ap, ◌∙◌, subst, arith, length-append, length-take, length-drop}
use Rattle.std.proofs.lemmas.List.{take-append-le, take-append-drop, take_at, take_all}
use Rattle.httparse.specs.Grammar.{RequestHead, IsRequestHead, print_request}
use Rattle.httparse.proofs.GrammarLemmas.{request_unique, ReadsRequest-append}
use Rattle.http_heads.specs.declared.head.TheConstants.{MAX_HEAD}
use Rattle.http_heads.specs.Head.{HeadOf, head_of, BeginsWith, BeginsWithAll, HasNoHead}

-- further bytes stand after the head and its rest
pub begins-append : {s : List ℕ} {h : HeadOf} {r : List ℕ} (p : List ℕ) → BeginsWith s h r → BeginsWith (s ++ p) h (r ++ p)
begins-append {s} {h} {r} p b =
    record { tree = b.tree; reads = ReadsRequest-append s b.tree r p b.reads; small = b.small; parts = b.parts }

-- some bytes begin with one head
pub begins_unique : {s : List ℕ} {h k : HeadOf} {r q : List ℕ} → BeginsWith s h r → BeginsWith s k q → (h ≡ k) × (r ≡ q)
begins_unique {s} {h} {k} {r} {q} a b =
    let same = request_unique s a.tree b.tree r q a.reads b.reads in
    (a.parts ∙ ap head_of same.0 ∙ sym b.parts, same.1)

-- a head has bytes
pub printed_positive : (h : RequestHead) → IsRequestHead h → 0 < length (print_request h)
unfolding print_request
printed_positive h x = let some : 0 < length h.method = x.method.0 in grind (arith, length-append, some)

-- what follows a head is shorter
pub begins_shorter : {s : List ℕ} {h : HeadOf} {r : List ℕ} → BeginsWith s h r → length r < length s
begins_shorter {s} {h} {r} b =
    let some : 0 < length (print_request b.tree) = printed_positive b.tree b.reads.0 in
    let all : length s ≡ length (print_request b.tree) + length r = ap length b.reads.1 ∙ length-append (print_request b.tree) r in
    omega (arith, some, all)

-- nothing begins with a head
pub nothing_first : HasNoHead []
nothing_first h rest b = let less : length rest < 0 = begins_shorter b in absurd (omega (arith, less))

pub front_within : (a b p r : List ℕ) → length p ≤ length a → a ++ b ≡ p ++ r → a ≡ p ++ drop (length p) a
front_within a b p r short e =
    let same : take (length p) a ≡ p = sym (take-append-le (length p) a b short) ∙ ap (take (length p)) e ∙ take_at p r (length p) refl in
    sym (take-append-drop (length p) a) ∙ ap (λ x. x ++ drop (length p) a) same

-- where as many bytes as a head may have begin with none, no further bytes make one
pub long_enough : (left p : List ℕ) → MAX_HEAD ≤ length left → HasNoHead left → HasNoHead (left ++ p)
long_enough left p long none h rest b =
    let small : length (print_request b.tree) ≤ MAX_HEAD = b.small.bytes in
    let within : length (print_request b.tree) ≤ length left = omega (arith, small, long) in
    none h _ (record {
      tree = b.tree;
      reads = (b.reads.0, front_within left p (print_request b.tree) rest within b.reads.1);
      small = b.small;
      parts = b.parts;
    })

pub first_none : (n : ℕ) (left : List ℕ) → HasNoHead left → HasNoHead (take n left)
first_none n left none h rest b =
    let P : List ℕ → Type 0 = λ x. BeginsWith x h (rest ++ drop n left) in
    none h _ (subst P (take-append-drop n left) (begins-append (drop n left) b))

-- nor do they after the first of them alone
pub short_front : (left p : List ℕ) → MAX_HEAD ≤ length left → HasNoHead left → HasNoHead (take MAX_HEAD left ++ p)
short_front left p long none =
    let all : MAX_HEAD ≤ length (take MAX_HEAD left) = omega (arith, length-take MAX_HEAD left, long) in
    long_enough (take MAX_HEAD left) p all (first_none MAX_HEAD left none)

-- one more head
pub all-snoc : (s : List ℕ) (heads : List HeadOf) (r : List ℕ) (h : HeadOf) (q : List ℕ)
    → BeginsWithAll s heads r → BeginsWith r h q → BeginsWithAll s (heads ++ h ∷ []) q
all-snoc s [] r h q a b = let P : List ℕ → Type 0 = λ x. BeginsWith x h q in (q, subst P a b, refl)
all-snoc s (k ∷ heads) r h q a b = (a.0, a.1, all-snoc a.0 heads r h q a.2 b)

-- how many bytes a head at a place has
pub head_places : (at len : ℕ) (bytes : List ℕ) (h : HeadOf) → at ≤ length bytes → len ≤ length (drop at bytes)
    → BeginsWith (drop at bytes) h (drop len (drop at bytes)) → (0 < len) × (at + len ≤ length bytes)
head_places at len bytes h inside short b =
    let shorter : length (drop len (drop at bytes)) < length (drop at bytes) = begins_shorter b in (
      omega (arith, shorter, length-drop len (drop at bytes)),
      omega (arith, short, inside, length-drop at bytes),
    )

pub whole_rest : (at : ℕ) (bytes : List ℕ) → take (length bytes - at) (drop at bytes) ≡ drop at bytes
whole_rest at bytes = take_all _ _ (omega (arith, length-drop at bytes))
