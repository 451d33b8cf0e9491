-- A connection whose rest can begin no head any more has the replies of every longer stream.
use Rattle.std.proofs.Common.{◌≡◌, ◌<◌, ℕ, Bool, true, false, List, [], ◌∷◌, ◌++◌, length, take, refl, sym, ap, subst, ◌∙◌, inl, inr, arith, append_assoc, append-nil}
use Rattle.std.specs.Prelude.{MatchBool, if◌then◌else◌}
use Rattle.std.specs.List.{AllZip, concat}
use Rattle.std.proofs.lemmas.Bool.{cases_Bool, false≢true}
use Rattle.http_heads.specs.declared.head.TheConstants.{MAX_HEAD}
use Rattle.http_heads.specs.Hopeless.{IsHopeless, TellsHopeless}
use Rattle.http_heads.specs.Laws.{OneCut, CutsJoin, HopelessRests}
use Rattle.odata_http.specs.Reply.{rest_reply}
use Rattle.odata_http.specs.Replies.{last_reply}
use Rattle.odata_hub.specs.declared.connection.Connection.{Connection}
use Rattle.odata_hub.specs.Streams.{Came, Asked, IsCutUnder, bytes_of, heads_of}
use Rattle.odata_hub.specs.Replies.{IsReplyTo, AreHubReplies}
use Rattle.odata_hub.specs.Connections.{ConnOf, fresh, Call, Piece, End, Turn, Take, Answer, IsAfter, Step, Own, Run, stream_of, taken_of, input_ended}
use Rattle.odata_hub.specs.Stands.{ConnStandsFor}
use Rattle.odata_hub.specs.Laws.{EndsAlike}
use Rattle.odata_hub.proofs.StreamLemmas.{joins_under, one_under}
use Rattle.odata_hub.proofs.ConnLemmas.{IsLeft, Keeps}
use Rattle.odata_hub.proofs.RunLemmas.{Keeps-own}
use Rattle.odata_hub.proofs.OverLemmas.{none_left}
use Rattle.odata_hub.proofs.CallLemmas.{adds_call}

-- what the connection reports is true of the rest of the one that it stands for
pub told_by_rest : (connection : Connection) (told : Bool) → TellsHopeless connection.splitter told → (c : ConnOf) → ConnStandsFor connection c
    → TellsHopeless c.rest told
told_by_rest connection told t c s =
    let P : List ℕ → Type 0 = λ r. TellsHopeless r told in subst P (sym (ap (λ (x : ConnOf). x.rest) s.is)) t

-- ---- a longer stream

-- what follows a hopeless rest brings no head, and leaves one
record GoesOn (stream : List Came) (heads : List Asked) : Type 0 where
  left : List ℕ
  never : IsHopeless left
  cut : IsCutUnder stream heads left false

goes_on : CutsJoin → HopelessRests → (more s : List Came) (heads : List Asked) (rest : List ℕ) → IsCutUnder s heads rest false → IsHopeless rest
    → GoesOn (s ++ more) heads
goes_on joins rests [] s heads rest cut never =
    let P : List Came → Type 0 = λ x. IsCutUnder x heads rest false in
    record { left = rest; never = never; cut = subst P (sym (append-nil s)) cut }
goes_on joins rests (p ∷ more) s heads rest cut never =
    let left : List ℕ = take MAX_HEAD (rest ++ p.bytes) in
    let one = (joins_under joins).follows s heads rest p [] left false cut (refl, refl, never p.bytes) in
    let H : List Asked → Type 0 = λ hs. IsCutUnder (s ++ p ∷ []) hs left false in
    let G : List Came → Type 0 = λ x. GoesOn x heads in
    subst G (append_assoc s (p ∷ []) more)
    (goes_on joins rests more (s ++ p ∷ []) heads left (subst H (append-nil heads) one) (rests.kept rest p.bytes never))

last_some : (r : List ℕ) → 0 < length r → last_reply r ≡ rest_reply
last_some [] some = absurd (omega (arith, some))
last_some (b ∷ r) some = refl

-- streams with the same heads, and both with a rest, have the same replies at their ends
ended_over : OneCut → (s t : List Came) (heads : List Asked) (rest left : List ℕ) → IsCutUnder s heads rest false → IsCutUnder t heads left false
    → 0 < length rest → 0 < length left → (all : List ℕ) → AreHubReplies s true all → AreHubReplies t true all
ended_over cuts s t heads rest left cut other some more all r =
    let same = one_under cuts s r.heads heads r.rest rest r.closed false r.cut cut in
    let A : List Asked → Type 0 = λ hs. AllZip IsReplyTo hs r.each in
    record {
      heads = heads;
      rest = left;
      closed = false;
      cut = other;
      each = r.each;
      are = subst A same.0 r.are;
      replies_are = r.replies_are
          ∙ ap (λ (x : List ℕ). concat r.each ++ x) (ap last_reply same.1 ∙ last_some rest some ∙ sym (last_some left more));
    }

certain_over : OneCut → (s t : List Came) (heads : List Asked) (rest left : List ℕ) → IsCutUnder s heads rest false → IsCutUnder t heads left false
    → 0 < length left → (certain : List ℕ) → AreHubReplies s false certain → AreHubReplies t true (certain ++ rest_reply)
certain_over cuts s t heads rest left cut other more certain r =
    let same = one_under cuts s r.heads heads r.rest rest r.closed false r.cut cut in
    let A : List Asked → Type 0 = λ hs. AllZip IsReplyTo hs r.each in
    record {
      heads = heads;
      rest = left;
      closed = false;
      cut = other;
      each = r.each;
      are = subst A same.0 r.are;
      replies_are = ap (λ (x : List ℕ). x ++ rest_reply) (r.replies_are ∙ append-nil (concat r.each))
          ∙ ap (λ (x : List ℕ). concat r.each ++ x) (sym (last_some left more));
    }

-- ---- the rest of a connection

-- one for which memory ran out has none
first_of : (P Q : Type 0) (b : Bool) → b ≡ true → MatchBool b P Q → P
first_of P Q true e m = m
first_of P Q false e m = absurd (false≢true e)

stuck_rest : (c d : ConnOf) (call : Call) → c.failed ≡ true → IsAfter c call d → d.rest ≡ c.rest
stuck_rest c d (Piece catalog bytes) e h = ap (λ (x : ConnOf). x.rest) (first_of _ _ c.failed e h)
stuck_rest c d End e h =
    ap (λ (x : ConnOf). x.rest) (h ∙ ap (λ (b : Bool). if b then c else (if c.ended then c else record c { ended = true })) e)
stuck_rest c d Turn e h = ap (λ (x : ConnOf). x.rest) (first_of _ _ c.failed e h)
stuck_rest c d (Take room) e h = ap (λ (x : ConnOf). x.rest) h

abbrev IsBare : ConnOf → Type 0
IsBare c = c.failed ≡ true → c.rest ≡ []

bare_step : (c d : ConnOf) (call : Call) (answer : Answer) → Step c call answer d → IsBare c → IsBare d
bare_step c d call answer (inr h) bare = λ _. h.2.rest
bare_step c d call answer (inl h) bare = elim (cases_Bool c.failed) [
  | inl failed ↦ λ _. stuck_rest c d call failed h.1 ∙ bare failed
  | inr going ↦ λ e. absurd (false≢true (sym (adds_call c d call answer going h.0 h.1).1.going ∙ e))
]

bare_run : (c d : ConnOf) (os : List Own) → Run c os d → IsBare c → IsBare d
bare_run c d [] r bare = let P : ConnOf → Type 0 = IsBare in subst P (sym r) bare
bare_run c d (o ∷ os) r bare = bare_run r.0 d os r.2 (bare_step c r.0 o.call o.answer r.1 bare)

-- a hopeless rest is no empty one
not_empty : HopelessRests → (rest : List ℕ) → IsHopeless rest → rest ≡ [] → ⊥
not_empty rests rest never e =
    let some : 0 < length rest = rests.some rest never in
    let none : length rest ≡ 0 = ap length e in omega (arith, some, none)

left_is : HopelessRests → (c : ConnOf) (ended : Bool) (left behind : List ℕ) → IsHopeless c.rest → (ended ≡ false → c.rest ≡ left)
    → (ended ≡ true → IsLeft c.rest left behind) → c.rest ≡ left
left_is rests c false left behind never open_is ended_is = open_is refl
left_is rests c true left behind never open_is ended_is = elim (ended_is refl) [
  | inl x ↦ x.0
  | inr x ↦ absurd (not_empty rests c.rest never x.0)
]

-- the stream stands open, and this is its rest
record IsOpenAt (stream : List Came) (rest : List ℕ) : Type 0 where
  heads : List Asked
  cut : IsCutUnder stream heads rest false

open_by : HopelessRests → (s : List Came) (heads : List Asked) (rest : List ℕ) (shut : Bool) → IsCutUnder s heads rest shut → IsHopeless rest
    → IsOpenAt s rest
open_by rests s heads rest false cut never = record { heads = heads; cut = cut }
open_by rests s heads rest true cut never = absurd (not_empty rests rest never (none_left (bytes_of s) (heads_of heads) rest cut.cut))

open_at : OneCut → CutsJoin → HopelessRests → (c : ConnOf) (os : List Own) → Run fresh os c → IsHopeless c.rest → IsOpenAt (stream_of os) c.rest
open_at cuts joins rests c os r never =
    let k : Keeps c (stream_of os) (input_ended os) (taken_of os) = Keeps-own cuts joins c os r in
    let going : c.failed ≡ false = elim (cases_Bool c.failed) [
      | inl failed ↦ absurd (not_empty rests c.rest never (bare_run fresh c os r (λ bad. refl) failed))
      | inr going ↦ going
    ] in
    let same : c.rest ≡ k.left = left_is rests c (input_ended os) k.left k.behind never (k.rest going) (k.rests going) in
    let P : List ℕ → Type 0 = λ x. IsCutUnder (stream_of os) (k.answered ++ k.others) x k.shut in
    open_by rests (stream_of os) (k.answered ++ k.others) c.rest k.shut (subst P (sym same) k.cut) never

pub ends_alike : OneCut → CutsJoin → HopelessRests → (c : ConnOf) (os : List Own) → Run fresh os c → IsHopeless c.rest → (more : List Came)
    → EndsAlike (stream_of os) more
ends_alike cuts joins rests c os r never more =
    let here = open_at cuts joins rests c os r never in
    let s : List Came = stream_of os in
    let on = goes_on joins rests more s here.heads c.rest here.cut never in
    let some = rests.some c.rest never in
    let others = rests.some on.left on.never in
    record {
      certain = λ certain x. certain_over cuts s (s ++ more) here.heads c.rest on.left here.cut on.cut others certain x;
      alike = λ all. (
        ended_over cuts s (s ++ more) here.heads c.rest on.left here.cut on.cut some others all,
        ended_over cuts (s ++ more) s here.heads on.left c.rest on.cut here.cut others some all,
      );
    }
