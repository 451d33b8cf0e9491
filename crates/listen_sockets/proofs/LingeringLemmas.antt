-- What becomes of the sockets that are held open.
use Rattle.std.proofs.Common.{◌≡◌, ℕ, zero, suc, ◌<◌, ◌≤◌, Bool, true, false, cond, List, [], ◌∷◌, length, replicate, ◌-◌, Option, Some, None, refl, ap, sym, subst, ◌∙◌, inl, inr, arith}
use Rattle.std.proofs.Common.{get_or-set_other, get_or-set_same}
use Rattle.std.specs.Prelude.{◌⊎◌, IfSome, is_none, nat_lt, slice_set}
use Rattle.std.specs.List.{list_any}
use Rattle.std.proofs.lemmas.Bool.{cases_order}
use Rattle.listen_sockets.specs.declared.lingering.LingeringPeer.{LingeringPeer}
use Rattle.listen_sockets.specs.declared.peer.Peer.{Peer}
use Rattle.listen_sockets.specs.Lingering.{held_at, held_from_now, most_seconds, seconds_left, AreInTime, IsNextPlace, LetsGoOrShortens, MayHold, TendsAt}

-- a socket that is held, and its time
abbrev IsInTime : LingeringPeer → Type 0
IsInTime peer = (0 < peer.seconds) × (peer.seconds ≤ most_seconds)

-- ---- none is held
none-held : (places at : ℕ) (peer : LingeringPeer) → held_at (replicate places None) at ≡ Some peer → IsInTime peer
none-held zero at peer e = cc
none-held (suc places) zero peer e = cc
none-held (suc places) (suc at) peer e = none-held places at peer e

pub new-in_time : (held : List (Option LingeringPeer)) (places : ℕ) → held ≡ replicate places None → AreInTime held
new-in_time held places e at peer there = none-held places at peer (sym (ap (λ h. held_at h at) e) ∙ there)

-- ---- room for one more
-- a socket that is held is held as it was, or let go
abbrev pub Stays : Option LingeringPeer → Option LingeringPeer → Type 0
Stays old new = (new ≡ None) ⊎ (new ≡ old)

stays-by : (was left : LingeringPeer) (new : Option LingeringPeer) (b : Bool) → left ≡ was → new ≡ cond b (Some left) None → Stays (Some was) new
stays-by was left new true same e = inr (e ∙ ap Some same)
stays-by was left new false same e = inl e

stays-now : (old new : Option LingeringPeer) → LetsGoOrShortens 0 old new → Stays old new
stays-now None new l = l
stays-now (Some was) new l =
    let none : was.seconds - 0 ≡ was.seconds = omega arith in
    elim l [
      | inl none_left ↦ inl none_left
      | inr later ↦
          stays-by was (record was { seconds = was.seconds - 0 }) new (nat_lt 0 was.seconds) (ap (λ n. record was { seconds = n }) none) later
    ]

stays-still : (first old new : Option LingeringPeer) → Stays first old → Stays old new → Stays first new
stays-still first old new f g =
    elim g [
      | inl none ↦ inl none
      | inr same ↦ elim f [
        | inl none ↦ inl (same ∙ none)
        | inr as_first ↦ inr (same ∙ as_first)
      ]
    ]

pub tended-stays : (at : ℕ) (first old new : List (Option LingeringPeer)) → ((k : ℕ) → Stays (held_at first k) (held_at old k)) → TendsAt at 0 old new
    → (k : ℕ) → Stays (held_at first k) (held_at new k)
tended-stays at first old new f t k =
    let same_or : Stays (held_at old k) (held_at new k) = elim (cases_order k at) [
      | inl same ↦ subst (λ n. Stays (held_at old n) (held_at new n)) (sym same) (stays-now (held_at old at) (held_at new at) t.here)
      | inr (inl before) ↦ inr (t.others k (λ q. absurd (omega (arith, q, before))))
      | inr (inr after) ↦ inr (t.others k (λ q. absurd (omega (arith, q, after))))
    ] in
    stays-still (held_at first k) (held_at old k) (held_at new k) (f k) same_or

-- ---- the place of one more
all-held : (held : List (Option LingeringPeer)) → ((k : ℕ) → k < length held → 0 < seconds_left (held_at held k)) → list_any is_none held ≡ false
all-held [] f = refl
all-held (None ∷ held) f = absurd (omega (arith, f zero (omega arith)))
all-held (Some peer ∷ held) f = all-held held (λ k less. f (suc k) (omega (arith, less)))

free-first : (held : List (Option LingeringPeer)) (here : Option LingeringPeer) → ((peer : LingeringPeer) → here ≡ Some peer → IsInTime peer)
    → ((k : ℕ) → k < length held → seconds_left here ≤ seconds_left (held_at held k)) → list_any is_none held ≡ true → here ≡ None
free-first held None in_time least free = refl
free-first held (Some peer) in_time least free =
    let left = (in_time peer refl).0 in
    let all = all-held held (λ k less. omega (arith, left, least k less)) in
    let both : true ≡ false = sym free ∙ all in
    cc

pub next-place : (held : List (Option LingeringPeer)) (at : ℕ) → AreInTime held → at < length held
    → ((k : ℕ) → k < length held → seconds_left (held_at held at) ≤ seconds_left (held_at held k)) → IsNextPlace held at
next-place held at are within least = record {
  within = within;
  free = free-first held (held_at held at) (are at) least;
  first = least;
}

-- ---- one more
pub held-in_time : (left : List (Option LingeringPeer)) (at : ℕ) (peer : Peer) → at < length left → AreInTime left
    → AreInTime (slice_set left at (Some (held_from_now peer)))
held-in_time left at peer less are other is e =
    elim (cases_order other at) [
      | inl same ↦
          let here = get_or-set_same left at (Some (held_from_now peer)) None less in
          let now : Some (held_from_now peer) ≡ Some is = sym here ∙ ap (held_at (slice_set left at (Some (held_from_now peer)))) (sym same) ∙ e in
          let it : held_from_now peer ≡ is = cc in
          subst IsInTime it (omega arith, omega arith)
      | inr (inl before) ↦
          are other is (sym (get_or-set_other left at other (Some (held_from_now peer)) None (λ q. absurd (omega (arith, q, before)))) ∙ e)
      | inr (inr after) ↦
          are other is (sym (get_or-set_other left at other (Some (held_from_now peer)) None (λ q. absurd (omega (arith, q, after)))) ∙ e)
    ]

pub set-beyond : (held : List (Option LingeringPeer)) (at : ℕ) (peer : Option LingeringPeer) → length held ≤ at → held ≡ slice_set held at peer
set-beyond [] at peer h = refl
set-beyond (other ∷ held) zero peer h = absurd (omega (arith, h))
set-beyond (other ∷ held) (suc at) peer h = ap (λ rest. other ∷ rest) (set-beyond held at peer (omega (arith, h)))

may-stay : (there : Option Peer) (old new : List (Option LingeringPeer)) → new ≡ old → MayHold there old new
may-stay None old new e = e
may-stay (Some peer) old new e = inl e

pub may-hold : (there closed : Option Peer) (old new : List (Option LingeringPeer)) → IfSome closed (λ peer. there ≡ Some peer)
    → MayHold closed old new → MayHold there old new
may-hold there None old new is m = may-stay there old new m
may-hold there (Some peer) old new is m = subst (λ p. MayHold p old new) (sym is) m
