-- The replies of a stream whose pieces came under the same tables are those of its bytes.
use Rattle.std.proofs.Common.{◌≡◌, ℕ, Bool, true, false, List, [], ◌∷◌, ◌++◌, refl, sym, ap, subst, ◌∙◌, append_assoc, append-nil}
use Rattle.std.specs.Prelude.{if◌then◌else◌}
use Rattle.std.specs.List.{AllZip, concat}
use Rattle.table_store.specs.Catalog.{CatalogOf}
use Rattle.http_heads.specs.Head.{HeadOf}
use Rattle.http_heads.specs.Cut.{IsCut}
use Rattle.http_heads.specs.Laws.{OneCut, CutsJoin}
use Rattle.odata_http.specs.Replies.{IsCertain, last_reply}
use Rattle.odata_http.specs.Reply.{IsReply}
use Rattle.odata_hub.specs.Streams.{Came, Asked, asked, heads_of, bytes_of, AreAskedBehind}
use Rattle.odata_hub.specs.Replies.{AreHubReplies, IsReplyTo}
use Rattle.odata_hub.specs.Laws.{AreRepliesUnder, CameUnder, HaveCatalog, SameReplies}
use Rattle.odata_hub.proofs.StreamLemmas.{have_behind, heads_of-behind}

-- ---- each stream has heads, with their tables

-- what one more piece brings
record Next (before : List ℕ) (cut : List HeadOf) (piece : List ℕ) : Type 0 where
  more : List HeadOf
  left : List ℕ
  shut : Bool
  is : IsCut (before ++ piece) (cut ++ more) left shut

next_of : OneCut → CutsJoin → (before : List ℕ) (cut : List HeadOf) (rest : List ℕ) (closed : Bool) (piece : List ℕ) → IsCut before cut rest closed
    → Next before cut piece
next_of cuts joins before cut rest true piece k =
    let H : List HeadOf → Type 0 = λ hs. IsCut (before ++ piece) hs rest true in
    record { more = []; left = rest; shut = true; is = subst H (sym (append-nil cut)) (joins.closed before piece cut rest k) }
next_of cuts joins before cut rest false piece k =
    let c = cuts.some (rest ++ piece) in
    record { more = c.0; left = c.1; shut = c.2; is = joins.follows before piece cut c.0 rest c.1 c.2 k c.3 }

record Under (before : List ℕ) (cut : List HeadOf) (s : List Came) : Type 0 where
  heads : List Asked
  rest : List ℕ
  closed : Bool
  whole : IsCut (before ++ bytes_of s) (cut ++ heads_of heads) rest closed
  behind : AreAskedBehind before cut s heads

under : OneCut → CutsJoin → (before : List ℕ) (cut : List HeadOf) (rest : List ℕ) (closed : Bool) (s : List Came) → IsCut before cut rest closed
    → Under before cut s
under cuts joins before cut rest closed [] k =
    let B : List ℕ → Type 0 = λ b. IsCut b cut rest closed in
    let H : List HeadOf → Type 0 = λ hs. IsCut (before ++ []) hs rest closed in
    record {
      heads = [];
      rest = rest;
      closed = closed;
      whole = subst H (sym (append-nil cut)) (subst B (sym (append-nil before)) k);
      behind = refl;
    }
under cuts joins before cut rest closed (p ∷ s) k =
    let n = next_of cuts joins before cut rest closed p.bytes k in
    let later = under cuts joins (before ++ p.bytes) (cut ++ n.more) n.left n.shut s n.is in
    let B : List ℕ → Type 0 = λ b. IsCut b ((cut ++ n.more) ++ heads_of later.heads) later.rest later.closed in
    let H : List HeadOf → Type 0 = λ hs. IsCut (before ++ (p.bytes ++ bytes_of s)) hs later.rest later.closed in
    let heads : (cut ++ n.more) ++ heads_of later.heads ≡ cut ++ heads_of (asked p.catalog n.more ++ later.heads) =
    append_assoc cut n.more (heads_of later.heads)
    ∙ ap (λ (z : List HeadOf). cut ++ z) (sym (heads_of-behind p.catalog n.more later.heads (asked p.catalog n.more ++ later.heads) refl)) in
    record {
      heads = asked p.catalog n.more ++ later.heads;
      rest = later.rest;
      closed = later.closed;
      whole = subst H heads (subst B (append_assoc before p.bytes (bytes_of s)) later.whole);
      behind = (n.more, later.heads, refl, record { rest = n.left; closed = n.shut; whole = n.is }, later.behind);
    }

-- ---- replies from one catalog

zip_under : (catalog : CatalogOf) (heads : List Asked) (each : List (List ℕ)) → HaveCatalog catalog heads → AllZip IsReplyTo heads each
    → AllZip (IsReply catalog) (heads_of heads) each
zip_under catalog [] [] h z = tt
zip_under catalog [] (x ∷ each) h z = absurd z
zip_under catalog (a ∷ heads) [] h z = absurd z
zip_under catalog (a ∷ heads) (x ∷ each) h z =
    let P : CatalogOf → Type 0 = λ k. IsReply k a.head x in (subst P h.0 z.0, zip_under catalog heads each h.1 z.1)

zip_each : (catalog : CatalogOf) (heads : List Asked) (each : List (List ℕ)) → HaveCatalog catalog heads
    → AllZip (IsReply catalog) (heads_of heads) each → AllZip IsReplyTo heads each
zip_each catalog [] [] h z = tt
zip_each catalog [] (x ∷ each) h z = absurd z
zip_each catalog (a ∷ heads) [] h z = absurd z
zip_each catalog (a ∷ heads) (x ∷ each) h z =
    let P : CatalogOf → Type 0 = λ k. IsReply k a.head x in (subst P (sym h.0) z.0, zip_each catalog heads each h.1 z.1)

certain_under : (catalog : CatalogOf) (s : List Came) (ended : Bool) (all : List ℕ) → CameUnder catalog s → (r : AreHubReplies s ended all)
    → IsCertain (IsReply catalog) (bytes_of s) (concat r.each) r.rest r.closed
certain_under catalog s ended all u r = record {
  heads = heads_of r.heads;
  replies = r.each;
  cut = r.cut.cut;
  each = zip_under catalog r.heads r.each (have_behind catalog [] [] s r.heads u r.cut.asked) r.are;
  certain_is = refl;
}

replies_under : (catalog : CatalogOf) (s : List Came) (ended : Bool) (all : List ℕ) → CameUnder catalog s → AreHubReplies s ended all
    → AreRepliesUnder catalog (bytes_of s) ended all
replies_under catalog s true all u r = (
  r.closed,
  record { certain = concat r.each; rest = r.rest; is = certain_under catalog s true all u r; all_is = r.replies_are },
)
replies_under catalog s false all u r =
    let P : List ℕ → Type 0 = λ l. IsCertain (IsReply catalog) (bytes_of s) l r.rest r.closed in
    (r.rest, r.closed, subst P (sym (r.replies_are ∙ append-nil (concat r.each))) (certain_under catalog s false all u r))

replies_of : OneCut → CutsJoin → (catalog : CatalogOf) (s : List Came) (ended : Bool) (certain rest : List ℕ) (closed : Bool) → CameUnder catalog s
    → IsCertain (IsReply catalog) (bytes_of s) certain rest closed → AreHubReplies s ended (certain ++ (if ended then last_reply rest else []))
replies_of cuts joins catalog s ended certain rest closed u x =
    let e = under cuts joins [] [] [] false s cuts.empty in
    let same = cuts.one (bytes_of s) (heads_of e.heads) x.heads e.rest rest e.closed closed e.whole x.cut in
    let R : List ℕ → Type 0 = λ l. IsCut (bytes_of s) (heads_of e.heads) l e.closed in
    let Z : List HeadOf → Type 0 = λ hs. AllZip (IsReply catalog) hs x.replies in
    let have = have_behind catalog [] [] s e.heads u e.behind in
    record {
      heads = e.heads;
      rest = rest;
      closed = e.closed;
      cut = record { cut = subst R same.1 e.whole; asked = e.behind };
      each = x.replies;
      are = zip_each catalog e.heads x.replies have (subst Z (sym same.0) x.each);
      replies_are = ap (λ (l : List ℕ). l ++ (if ended then last_reply rest else [])) x.certain_is;
    }

replies_each : OneCut → CutsJoin → (catalog : CatalogOf) (s : List Came) (ended : Bool) (all : List ℕ) → CameUnder catalog s
    → AreRepliesUnder catalog (bytes_of s) ended all → AreHubReplies s ended all
replies_each cuts joins catalog s true all u x =
    subst (AreHubReplies s true) (sym x.1.all_is) (replies_of cuts joins catalog s true x.1.certain x.1.rest x.0 u x.1.is)
replies_each cuts joins catalog s false all u x =
    subst (AreHubReplies s false) (append-nil all) (replies_of cuts joins catalog s false all x.0 x.1 u x.2)

pub same_replies : OneCut → CutsJoin → SameReplies
same_replies cuts joins = record { under = replies_under; each = replies_each cuts joins }
