-- Heads with tables of their own, from the laws of cuts: a stream has one, and what follows a stream is cut as what follows its rest.
use Rattle.std.proofs.Common.{◌≡◌, ℕ, Bool, true, false, List, [], ◌∷◌, ◌++◌, refl, sym, ap, ap₂, subst, ◌∙◌, append_assoc, append-nil}
use Rattle.std.proofs.lemmas.List.{map-append}
use Rattle.std.proofs.lemmas.Grind.{flat_map-append}
use Rattle.table_store.specs.Catalog.{CatalogOf}
use Rattle.http_heads.specs.Head.{HeadOf}
use Rattle.http_heads.specs.Cut.{IsCut}
use Rattle.http_heads.specs.Laws.{OneCut, CutsJoin}
use Rattle.odata_hub.specs.Streams.{Came, bytes_of, Asked, asked, heads_of, AreAskedBehind, IsCutUnder}
use Rattle.odata_hub.specs.Laws.{CameUnder, HaveCatalog, JoinsStreams, OneListOfHeads}

heads_of-asked : (c : CatalogOf) (hs : List HeadOf) → heads_of (asked c hs) ≡ hs
heads_of-asked c [] = refl
heads_of-asked c (h ∷ hs) = ap (λ (t : List HeadOf). h ∷ t) (heads_of-asked c hs)

heads_of-append : (xs ys : List Asked) → heads_of (xs ++ ys) ≡ heads_of xs ++ heads_of ys
heads_of-append xs ys = map-append (λ (a : Asked). a.head) xs ys

pub bytes_of-append : (s t : List Came) → bytes_of (s ++ t) ≡ bytes_of s ++ bytes_of t
bytes_of-append s t = flat_map-append (λ (p : Came). p.bytes) s t

pub bytes_of-more : (s : List Came) (p : Came) → bytes_of (s ++ p ∷ []) ≡ bytes_of s ++ p.bytes
bytes_of-more s p = bytes_of-append s (p ∷ []) ∙ ap (λ (b : List ℕ). bytes_of s ++ b) (append-nil p.bytes)

-- the heads of a piece, and those after it
pub heads_of-behind : (c : CatalogOf) (hs : List HeadOf) (later all : List Asked) → all ≡ asked c hs ++ later → heads_of all ≡ hs ++ heads_of later
heads_of-behind c hs later all e =
    ap heads_of e ∙ heads_of-append (asked c hs) later ∙ ap (λ (x : List HeadOf). x ++ heads_of later) (heads_of-asked c hs)

-- one more piece
behind_more : (before : List ℕ) (cut : List HeadOf) (s : List Came) (all : List Asked) (p : Came) (more : List HeadOf) (left : List ℕ) (closed : Bool)
    → AreAskedBehind before cut s all → IsCut ((before ++ bytes_of s) ++ p.bytes) ((cut ++ heads_of all) ++ more) left closed
    → AreAskedBehind before cut (s ++ p ∷ []) (all ++ asked p.catalog more)
behind_more before cut [] all p more left closed x k =
    let B : List ℕ → Type 0 = λ b. IsCut (b ++ p.bytes) ((cut ++ heads_of all) ++ more) left closed in
    let H : List Asked → Type 0 = λ a. IsCut (before ++ p.bytes) ((cut ++ heads_of a) ++ more) left closed in
    let C : List HeadOf → Type 0 = λ c. IsCut (before ++ p.bytes) (c ++ more) left closed in (
      more,
      [],
      ap (λ (a : List Asked). a ++ asked p.catalog more) x ∙ sym (append-nil (asked p.catalog more)),
      record { rest = left; closed = closed; whole = subst C (append-nil cut) (subst H x (subst B (append-nil before) k)) },
      refl,
    )
behind_more before cut (q ∷ s) all p more left closed x k =
    let B : List ℕ → Type 0 = λ b. IsCut (b ++ p.bytes) ((cut ++ heads_of all) ++ more) left closed in
    let C : List HeadOf → Type 0 = λ c. IsCut (((before ++ q.bytes) ++ bytes_of s) ++ p.bytes) (c ++ more) left closed in
    let heads : cut ++ heads_of all ≡ (cut ++ x.0) ++ heads_of x.1 =
    ap (λ (t : List HeadOf). cut ++ t) (heads_of-behind q.catalog x.0 x.1 all x.2) ∙ sym (append_assoc cut x.0 (heads_of x.1)) in (
      x.0,
      x.1 ++ asked p.catalog more,
      ap (λ (a : List Asked). a ++ asked p.catalog more) x.2 ∙ append_assoc (asked q.catalog x.0) x.1 (asked p.catalog more),
      x.3,
      behind_more (before ++ q.bytes) (cut ++ x.0) s x.1 p more left closed x.4
          (subst C heads (subst B (sym (append_assoc before q.bytes (bytes_of s))) k)),
    )

cut_follows : CutsJoin → (s : List Came) (heads : List Asked) (rest : List ℕ) (p : Came) (more : List HeadOf) (left : List ℕ) (closed : Bool)
    → IsCutUnder s heads rest false → IsCut (rest ++ p.bytes) more left closed
    → IsCutUnder (s ++ p ∷ []) (heads ++ asked p.catalog more) left closed
cut_follows joins s heads rest p more left closed x k =
    let all = joins.follows (bytes_of s) p.bytes (heads_of heads) more rest left closed x.cut k in
    let B : List ℕ → Type 0 = λ b. IsCut b (heads_of heads ++ more) left closed in
    let H : List HeadOf → Type 0 = λ hs. IsCut (bytes_of (s ++ p ∷ [])) hs left closed in
    let heads_are : heads_of heads ++ more ≡ heads_of (heads ++ asked p.catalog more) =
    sym (heads_of-append heads (asked p.catalog more) ∙ ap (λ (t : List HeadOf). heads_of heads ++ t) (heads_of-asked p.catalog more)) in
    record {
      cut = subst H heads_are (subst B (sym (bytes_of-more s p)) all);
      asked = behind_more [] [] s heads p more left closed x.asked all;
    }

cut_closed : CutsJoin → (s : List Came) (heads : List Asked) (rest : List ℕ) (p : Came) → IsCutUnder s heads rest true
    → IsCutUnder (s ++ p ∷ []) heads rest true
cut_closed joins s heads rest p x =
    let all = joins.closed (bytes_of s) p.bytes (heads_of heads) rest x.cut in
    let B : List ℕ → Type 0 = λ b. IsCut b (heads_of heads) rest true in
    let H : List HeadOf → Type 0 = λ hs. IsCut (bytes_of s ++ p.bytes) hs rest true in
    let A : List Asked → Type 0 = λ hs. AreAskedBehind [] [] (s ++ p ∷ []) hs in
    record {
      cut = subst B (sym (bytes_of-more s p)) all;
      asked = subst A (append-nil heads) (behind_more [] [] s heads p [] rest true x.asked (subst H (sym (append-nil (heads_of heads))) all));
    }

pub joins_under : CutsJoin → JoinsStreams
joins_under joins = record { follows = cut_follows joins; closed = cut_closed joins }

-- nothing came yet
pub cut_nothing : OneCut → IsCutUnder [] [] [] false
cut_nothing cuts = record { cut = cuts.empty; asked = refl }

-- ---- a stream has one list of heads

cancel : (c xs ys : List HeadOf) → c ++ xs ≡ c ++ ys → xs ≡ ys
cancel [] xs ys e = e
cancel (h ∷ c) xs ys e = cancel c xs ys (cc e)

pub behind_one : OneCut → (before : List ℕ) (cut : List HeadOf) (s : List Came) (all others : List Asked)
    → AreAskedBehind before cut s all → AreAskedBehind before cut s others → all ≡ others
behind_one cuts before cut [] all others x y = x ∙ sym y
behind_one cuts before cut (p ∷ s) all others x y =
    let same = cuts.one (before ++ p.bytes) (cut ++ x.0) (cut ++ y.0) x.3.rest y.3.rest x.3.closed y.3.closed x.3.whole y.3.whole in
    let heads : x.0 ≡ y.0 = cancel cut x.0 y.0 same.0 in
    let P : List HeadOf → Type 0 = λ hs. AreAskedBehind (before ++ p.bytes) (cut ++ hs) s x.1 in
    let later : x.1 ≡ y.1 = behind_one cuts (before ++ p.bytes) (cut ++ y.0) s x.1 y.1 (subst P heads x.4) y.4 in
    x.2 ∙ ap₂ (λ (hs : List HeadOf) (l : List Asked). asked p.catalog hs ++ l) heads later ∙ sym y.2

pub one_under : OneCut → OneListOfHeads
one_under cuts s heads others rest left closed shut x y =
    let same = cuts.one (bytes_of s) (heads_of heads) (heads_of others) rest left closed shut x.cut y.cut in
    (behind_one cuts [] [] s heads others x.asked y.asked, same.1, same.2)

-- ---- under which tables heads came

have-append : (c : CatalogOf) (xs ys : List Asked) → HaveCatalog c xs → HaveCatalog c ys → HaveCatalog c (xs ++ ys)
have-append c [] ys x y = y
have-append c (a ∷ xs) ys x y = (x.0, have-append c xs ys x.1 y)

have-asked : (c d : CatalogOf) (hs : List HeadOf) → d ≡ c → HaveCatalog c (asked d hs)
have-asked c d [] e = tt
have-asked c d (h ∷ hs) e = (e, have-asked c d hs e)

pub have_behind : (c : CatalogOf) (before : List ℕ) (cut : List HeadOf) (s : List Came) (all : List Asked) → CameUnder c s
    → AreAskedBehind before cut s all → HaveCatalog c all
have_behind c before cut [] all u x = let P : List Asked → Type 0 = HaveCatalog c in subst P (sym x) tt
have_behind c before cut (p ∷ s) all u x =
    let P : List Asked → Type 0 = HaveCatalog c in
    let later : HaveCatalog c x.1 = have_behind c (before ++ p.bytes) (cut ++ x.0) s x.1 u.1 x.4 in
    subst P (sym x.2) (have-append c (asked p.catalog x.0) x.1 (have-asked c p.catalog x.0 u.0) later)

-- the heads of the pieces before, and of those after
pub record Halves (before : List ℕ) (cut : List HeadOf) (s t : List Came) (all : List Asked) : Type 0 where
  pub early : List Asked
  pub late : List Asked
  pub all_are : all ≡ early ++ late
  pub first : AreAskedBehind before cut s early
  pub second : AreAskedBehind (before ++ bytes_of s) (cut ++ heads_of early) t late

pub behind_halves : (before : List ℕ) (cut : List HeadOf) (s t : List Came) (all : List Asked) → AreAskedBehind before cut (s ++ t) all
    → Halves before cut s t all
behind_halves before cut [] t all x =
    let B : List ℕ → Type 0 = λ b. AreAskedBehind b cut t all in
    let C : List HeadOf → Type 0 = λ c. AreAskedBehind (before ++ []) c t all in
    record {
      early = [];
      late = all;
      all_are = refl;
      first = refl;
      second = subst C (sym (append-nil cut)) (subst B (sym (append-nil before)) x);
    }
behind_halves before cut (p ∷ s) t all x =
    let h = behind_halves (before ++ p.bytes) (cut ++ x.0) s t x.1 x.4 in
    let B : List ℕ → Type 0 = λ b. AreAskedBehind b ((cut ++ x.0) ++ heads_of h.early) t h.late in
    let C : List HeadOf → Type 0 = λ c. AreAskedBehind (before ++ (p.bytes ++ bytes_of s)) c t h.late in
    let heads : (cut ++ x.0) ++ heads_of h.early ≡ cut ++ heads_of (asked p.catalog x.0 ++ h.early) =
    append_assoc cut x.0 (heads_of h.early)
    ∙ ap (λ (z : List HeadOf). cut ++ z) (sym (heads_of-behind p.catalog x.0 h.early (asked p.catalog x.0 ++ h.early) refl)) in
    record {
      early = asked p.catalog x.0 ++ h.early;
      late = h.late;
      all_are = x.2 ∙ ap (λ (l : List Asked). asked p.catalog x.0 ++ l) h.all_are ∙ sym (append_assoc (asked p.catalog x.0) h.early h.late);
      first = (x.0, h.early, refl, x.3, h.first);
      second = subst C heads (subst B (append_assoc before p.bytes (bytes_of s)) h.second);
    }
