-- The replies of a stream, from the laws of its cut and of the replies to heads.
use Rattle.std.proofs.Common.{◌≡◌, ◌<◌, ℕ, Bool, true, false, List, [], ◌∷◌, ◌++◌, length, take, arith, refl, sym, ap, ap₂, ◌∙◌, subst, append_assoc, append-nil}
use Rattle.std.specs.List.{AllZip, concat}
use Rattle.std.proofs.lemmas.Bool.{false≢true}
use Rattle.std.proofs.lemmas.List.Folds.{concat-append}
use Rattle.http_heads.specs.declared.head.TheConstants.{MAX_HEAD}
use Rattle.http_heads.specs.Head.{HeadOf}
use Rattle.http_heads.specs.Checks.{closes}
use Rattle.http_heads.specs.Cut.{IsCut}
use Rattle.http_heads.specs.Laws.{OneCut, CutsJoin, HopelessRests}
use Rattle.http_heads.proofs.ListLaws.{AllZip-append}
use Rattle.http_heads.proofs.CaseLaws.{MatchBool_elim}
use Rattle.odata_http.specs.Replies.{last_reply, IsCertain, AreReplies, AreFirstReplies}
use Rattle.odata_http.specs.Reply.{rest_reply}
use Rattle.odata_http.specs.Laws.{HopelessEnds, OneReply, OneReading, Joins}

zip_one : (R : HeadOf → List ℕ → Type 0) → OneReply R → (heads : List HeadOf) (ys vs : List (List ℕ))
    → AllZip R heads ys → AllZip R heads vs → ys ≡ vs
zip_one R one [] [] [] p q = refl
zip_one R one [] [] (v ∷ vs) p q = absurd q
zip_one R one [] (y ∷ ys) vs p q = absurd p
zip_one R one (h ∷ heads) [] vs p q = absurd p
zip_one R one (h ∷ heads) (y ∷ ys) [] p q = absurd q
zip_one R one (h ∷ heads) (y ∷ ys) (v ∷ vs) p q =
    ap₂ (λ (r : List ℕ) (rs : List (List ℕ)). r ∷ rs) (one h y v p.0 q.0) (zip_one R one heads ys vs p.1 q.1)

-- ---- the laws

certain_one : (R : HeadOf → List ℕ → Type 0) → OneCut → OneReply R → (s c d r q : List ℕ) (a b : Bool)
    → IsCertain R s c r a → IsCertain R s d q b → (c ≡ d) × (r ≡ q) × (a ≡ b)
certain_one R cuts one s c d r q a b x y =
    let same = cuts.one s x.heads y.heads r q a b x.cut y.cut in
    let P : List HeadOf → Type 0 = λ hs. AllZip R hs x.replies in
    let replies = zip_one R one y.heads x.replies y.replies (subst P same.0 x.each) y.each in
    (x.certain_is ∙ ap concat replies ∙ sym y.certain_is, same.1, same.2)

pub one_list : (R : HeadOf → List ℕ → Type 0) → OneCut → OneReply R → OneReading R
one_list R cuts one = record {
  certain = certain_one R cuts one;
  replies = λ s c d a b x y.
      let same = certain_one R cuts one s x.certain y.certain x.rest y.rest a b x.is y.is in
      (x.all_is ∙ ap₂ (λ (u v : List ℕ). u ++ last_reply v) same.0 same.1 ∙ sym y.all_is, same.2);
}

certain_join : (R : HeadOf → List ℕ → Type 0) → CutsJoin → (s p c d r q : List ℕ) (b : Bool)
    → IsCertain R s c r false → IsCertain R (r ++ p) d q b → IsCertain R (s ++ p) (c ++ d) q b
certain_join R cuts s p c d r q b x y = record {
  heads = x.heads ++ y.heads;
  replies = x.replies ++ y.replies;
  cut = cuts.follows s p x.heads y.heads r q b x.cut y.cut;
  each = AllZip-append R x.heads x.replies y.heads y.replies x.each y.each;
  certain_is = ap₂ (λ (u v : List ℕ). u ++ v) x.certain_is y.certain_is ∙ sym (concat-append x.replies y.replies);
}

certain_shut : (R : HeadOf → List ℕ → Type 0) → CutsJoin → (s p c r : List ℕ) → IsCertain R s c r true → IsCertain R (s ++ p) c r true
certain_shut R cuts s p c r x = record {
  heads = x.heads;
  replies = x.replies;
  cut = cuts.closed s p x.heads r x.cut;
  each = x.each;
  certain_is = x.certain_is;
}

pub all_join : (R : HeadOf → List ℕ → Type 0) → CutsJoin → Joins R
all_join R cuts = record {
  certain = certain_join R cuts;
  replies = λ s p c d r b x y. record {
    certain = c ++ y.certain;
    rest = y.rest;
    is = certain_join R cuts s p c y.certain r y.rest b x y.is;
    all_is = ap (λ u. c ++ u) y.all_is ∙ sym (append_assoc c y.certain (last_reply y.rest));
  };
  certain_closed = certain_shut R cuts;
  replies_closed = λ s p c x. record {
    certain = x.certain;
    rest = x.rest;
    is = certain_shut R cuts s p x.certain x.rest x.is;
    all_is = x.all_is;
  };
}

-- a rest that is not empty is answered
pub last_some : (r : List ℕ) → 0 < length r → last_reply r ≡ rest_reply
last_some [] some = absurd (omega (arith, some))
last_some (b ∷ r) some = refl

pub hopeless_end : (R : HeadOf → List ℕ → Type 0) → HopelessRests → HopelessEnds R
hopeless_end R rests s p c r x never = record {
  certain = c;
  rest = take MAX_HEAD (r ++ p);
  is = record {
    heads = x.heads;
    replies = x.replies;
    cut = rests.cut s p x.heads r x.cut never;
    each = x.each;
    certain_is = x.certain_is;
  };
  all_is = ap (λ u. c ++ u) (sym (last_some (take MAX_HEAD (r ++ p)) (rests.some _ (rests.kept r p never))));
}

-- ---- parts of the replies

-- nothing is kept after a head that closes
pub cut_shut : (s : List ℕ) (heads : List HeadOf) (rest : List ℕ) → IsCut s heads rest true → rest ≡ []
cut_shut s [] rest a = absurd (false≢true (sym a.1))
cut_shut s (h ∷ hs) rest a = MatchBool_elim (closes h) (λ x. x.1) (λ x. cut_shut a.0 hs rest x) a.2

-- after a reply that closes there is none
pub closed_replies : {R : HeadOf → List ℕ → Type 0} {s c r : List ℕ} → IsCertain R s c r true → AreReplies R s c true
closed_replies {R} {s} {c} {r} x = record {
  certain = c;
  rest = r;
  is = x;
  all_is = sym (append-nil c) ∙ ap (λ rest. c ++ last_reply rest) (sym (cut_shut s x.heads r x.cut));
}

-- the end of the stream after what is certain
pub ended_replies : {R : HeadOf → List ℕ → Type 0} {s c r : List ℕ} → IsCertain R s c r false → AreReplies R s (c ++ last_reply r) false
ended_replies {R} {s} {c} {r} x = record { certain = c; rest = r; is = x; all_is = refl }

-- the replies that are certain are some of the first
pub first_certain : {R : HeadOf → List ℕ → Type 0} {s c r : List ℕ} {b : Bool} → IsCertain R s c r b → AreFirstReplies R s c
first_certain {R} {s} {c} {r} {b} x = record {
  answered = x.heads;
  others = [];
  rest = r;
  closed = b;
  cut = let P : List HeadOf → Type 0 = λ hs. IsCut s hs r b in subst P (sym (append-nil x.heads)) x.cut;
  replies = x.replies;
  each = x.each;
  some_is = x.certain_is;
}

-- what is certain, and then some of the first of what follows
pub first_joins : {R : HeadOf → List ℕ → Type 0} {s c r w : List ℕ} (p : List ℕ) → CutsJoin → IsCertain R s c r false → AreFirstReplies R (r ++ p) w
    → AreFirstReplies R (s ++ p) (c ++ w)
first_joins {R} {s} {c} {r} {w} p cuts x y = record {
  answered = x.heads ++ y.answered;
  others = y.others;
  rest = y.rest;
  closed = y.closed;
  cut =
      let P : List HeadOf → Type 0 = λ hs. IsCut (s ++ p) hs y.rest y.closed in
      subst P (sym (append_assoc x.heads y.answered y.others))
      (cuts.follows s p x.heads (y.answered ++ y.others) r y.rest y.closed x.cut y.cut);
  replies = x.replies ++ y.replies;
  each = AllZip-append R x.heads x.replies y.answered y.replies x.each y.each;
  some_is = ap₂ (λ (u v : List ℕ). u ++ v) x.certain_is y.some_is ∙ sym (concat-append x.replies y.replies);
}

-- nothing was read
pub certain_nothing : (R : HeadOf → List ℕ → Type 0) → OneCut → IsCertain R [] [] [] false
certain_nothing R cuts = record { heads = []; replies = []; cut = cuts.empty; each = tt; certain_is = refl }
