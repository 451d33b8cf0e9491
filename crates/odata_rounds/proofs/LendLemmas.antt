-- Output of a connection that the hub lends, and takes once a socket has taken it.
use Rattle.std.proofs.Common.{◌≡◌, ℕ, ◌<◌, ◌≤◌, List, [], ◌∷◌, ◌++◌, take, length, Option, None, Some, Result, Ok, Err, refl, sym, ap, ◌∙◌, subst, arith, length-append}
use Rattle.std.specs.Borrow.{Bor}
use Rattle.std.proofs.lemmas.List.{nil_from_length, take-append-le}
use Rattle.odata_http.specs.Waiting.{IsFront}
use Rattle.odata_hub.specs.declared.hub.Hub.{Hub}
use Rattle.odata_hub.specs.declared.answers.HubFault.{HubFault}
use Rattle.odata_hub.specs.Connections.{Answer, ConnOf, Gave, Take}
use Rattle.odata_hub.specs.Schedules.{HubOf, HubStep, On, conn_at}
use Rattle.odata_hub.specs.Stands.{IsHubTook, LendsAt, Models, took_answer}
use Rattle.odata_rounds.specs.Visits.{HasOutput, IsDry, IsFree, IsHubRun, at_place, took}

-- these bytes of the output of the connection at a place are lent
abbrev pub Lends : Hub → ℕ → Result (Bor (List ℕ)) HubFault → Type 0
Lends hub place result = (h : HubOf) → Models hub h → LendsAt (conn_at h place) result

lent_front : (c : ConnOf) (bytes : Bor (List ℕ)) → LendsAt (Some c) (Ok bytes) → IsFront bytes.now c.output
lent_front c bytes e =
    let same : e.0 ≡ bytes = cc (e.1) in
    let P : Bor (List ℕ) → Type 0 = λ b. IsFront b.now c.output in subst P same e.2

answers_lent : (o : Option ConnOf) (bytes : Bor (List ℕ)) (n : ℕ) → n ≤ length bytes.now → LendsAt o (Ok bytes) → took_answer o n ≡ Gave (take n bytes.now)
answers_lent None bytes n le e = absurd (cc e)
answers_lent (Some c) bytes n le e =
    let front = lent_front c bytes e in
    ap Gave (ap (λ (l : List ℕ). take n l) (sym front.whole) ∙ take-append-le n bytes.now front.behind le)

pub has_output : (o : Option ConnOf) (bytes : Bor (List ℕ)) → 0 < length bytes.now → LendsAt o (Ok bytes) → HasOutput o
has_output None bytes lt e = absurd (cc e)
has_output (Some c) bytes lt e = λ (empty : c.output ≡ []).
    let front = lent_front c bytes e in
    let all : length (bytes.now ++ front.behind) ≡ 0 = ap length (front.whole ∙ empty) in
    absurd (omega (arith, all, lt, length-append bytes.now front.behind))

pub is_dry : (o : Option ConnOf) (bytes : Bor (List ℕ)) → length bytes.now ≡ 0 → LendsAt o (Ok bytes) → IsDry o
is_dry None bytes none e = absurd (cc e)
is_dry (Some c) bytes none e = (lent_front c bytes e).some (nil_from_length bytes.now none)

pub is_free : (o : Option ConnOf) (fault : HubFault) → LendsAt o (Err fault) → IsFree o
is_free None fault e = refl
is_free (Some c) fault e = absurd (cc (e.1))

pub run_took : (place n : ℕ) (a b : Hub) (bytes : Bor (List ℕ)) → Lends a place (Ok bytes) → n ≤ length bytes.now → IsHubTook a place n b
    → IsHubRun a (at_place place (took n (take n bytes.now) ∷ [])) b
run_took place n a b bytes lends le taken h s =
    let t = taken h s in
    let P : Answer → Type 0 = λ x. HubStep h (On place (Take n)) x t.0 in
    (t.0, (t.0, subst P (answers_lent (conn_at h place) bytes n le (lends h s)) t.1, tt, refl), t.2)
