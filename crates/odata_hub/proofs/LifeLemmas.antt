-- The life of a connection in a schedule is two runs of it, and what is in flight in it has calls left.
use Rattle.std.proofs.Common.{◌≡◌, ◌<◌, ◌-◌, ℕ, Bool, true, false, eqb, List, [], ◌∷◌, ◌++◌, Option, Some, None, refl, sym, ap, subst, ◌∙◌, inl, inr, arith}
use Rattle.std.specs.Prelude.{⊤, MatchBool, if◌then◌else◌}
use Rattle.std.proofs.lemmas.Bool.Decides.{leb_tells}
use Rattle.odata_http.specs.Laws.{OneLength}
use Rattle.odata_hub.specs.Streams.{Asked}
use Rattle.odata_hub.specs.Connections.{ConnOf, FlightOf, AddsReply, IsTurnedBy, Own, Run, fresh, HasMemory}
use Rattle.odata_hub.specs.Schedules.{Drop, Event, Happening, On, Open, Reload, own_of, stays, stays_by}
use Rattle.odata_hub.specs.Laws.{LivesOn}
use Rattle.odata_hub.proofs.CallLemmas.{adds_call, answered, quiet_or_turn}
use Rattle.odata_hub.proofs.CatalogLemmas.{own_of-append, stays_rest}
use Rattle.odata_hub.proofs.HubLemmas.{from_open, isolated}

if_kept : (b more rest : Bool) → (if b then false else more) ≡ true → rest ≡ true → (if b then false else rest) ≡ true
if_kept true more rest e r = absurd (cc e)
if_kept false more rest e r = r

stays_first : (k : ℕ) (event : Event) (more rest : Bool) → stays_by k event more ≡ true → rest ≡ true → stays_by k event rest ≡ true
stays_first k Open more rest e r = r
stays_first k (On p call) more rest e r = r
stays_first k (Drop p) more rest e r = if_kept (eqb p k) more rest e r
stays_first k (Reload catalog) more rest e r = r

stays_both : (k : ℕ) (hs gs : List Happening) → stays k (hs ++ gs) ≡ true → (stays k hs ≡ true) × (stays k gs ≡ true)
stays_both k [] gs e = (refl, e)
stays_both k (x ∷ hs) gs e =
    let both = stays_both k hs gs (stays_rest k x.event (stays k (hs ++ gs)) e) in
    (stays_first k x.event (stays k (hs ++ gs)) (stays k hs) e both.0, both.1)

memory_both : (os ps : List Own) → HasMemory (os ++ ps) → HasMemory os × HasMemory ps
memory_both [] ps m = (tt, m)
memory_both (o ∷ os) ps m = let both = memory_both os ps m.1 in ((m.0, both.0), both.1)

-- the own events up to the first moment, and from there to the second
pub record Life (place : ℕ) (before after : List Happening) (old new : ConnOf) : Type 0 where
  pub first : Run fresh (own_of place before) old
  pub next : Run old (own_of place after) new
  pub early : HasMemory (own_of place before)
  pub late : HasMemory (own_of place after)

pub life_of : (place : ℕ) (before after : List Happening) (old new : ConnOf) → LivesOn place before after old new → Life place before after old new
life_of place before after old new l =
    let here = stays_both place before after l.stays in
    let M : List Own → Type 0 = HasMemory in
    let memory =
    memory_both (own_of place before) (own_of place after) (subst M (own_of-append place before after here.0) l.memory) in
    let f = from_open l.start l.mid place before l.earlier in
    let g = isolated l.mid l.end place old after l.later l.old_is in
    let same : Some f.last ≡ Some old = sym (f.here here.0) ∙ l.old_is in
    let last : Some g.last ≡ Some new = sym (g.here here.1) ∙ l.new_is in
    let old_is : f.last ≡ old = cc same in
    let new_is : g.last ≡ new = cc last in
    let P : ConnOf → Type 0 = λ c. Run fresh (own_of place before) c in
    let Q : ConnOf → Type 0 = λ c. Run old (own_of place after) c in
    record { first = subst P old_is f.run; next = subst Q new_is g.run; early = memory.0; late = memory.1 }

-- ---- calls are left

abbrev pub HasLeft : Option FlightOf → Type 0
HasLeft None = ⊤
HasLeft (Some f) = 0 < f.left

left_turn : OneLength → (c m : ConnOf) (flight : Option FlightOf) (waiting : List Asked) (ended : Bool) (rest : List ℕ) → c.flight ≡ flight
    → IsTurnedBy c flight waiting ended rest m → HasLeft m.flight
left_turn lengths c m (Some f) waiting ended rest e t =
    let next : FlightOf = record { asked = f.asked; left = f.left - 1 } in
    let M : Bool → Type 0 = λ b. MatchBool b (AddsReply c f.asked m) (m ≡ record c { flight = Some next }) in
    let H : Option FlightOf → Type 0 = HasLeft in
    elim (leb_tells f.left 1) [
      | inl last ↦ let x : AddsReply c f.asked m = subst M last.0 t in subst H (sym (ap (λ (k : ConnOf). k.flight) x.new_is)) tt
      | inr more ↦
          let on : m ≡ record c { flight = Some next } = subst M more.0 t in
          let some : 0 < f.left - 1 = omega (arith, more.1) in subst H (sym (ap (λ (k : ConnOf). k.flight) on)) some
    ]
left_turn lengths c m None (a ∷ waiting) ended rest e t =
    let H : Option FlightOf → Type 0 = HasLeft in
    subst H (sym (ap (λ (k : ConnOf). k.flight) t.new_is)) (lengths.some a.catalog a.head t.calls t.takes)
left_turn lengths c m None [] true rest e t =
    let H : Option FlightOf → Type 0 = HasLeft in subst H (sym (ap (λ (k : ConnOf). k.flight) t ∙ e)) tt
left_turn lengths c m None [] false rest e t =
    let H : Option FlightOf → Type 0 = HasLeft in subst H (sym (ap (λ (k : ConnOf). k.flight) t ∙ e)) tt

pub left_run : OneLength → (c d : ConnOf) (os : List Own) → c.failed ≡ false → HasLeft c.flight → HasMemory os → Run c os d → HasLeft d.flight
left_run lengths c d [] going h m r = let H : Option FlightOf → Type 0 = HasLeft in subst H (sym (ap (λ (k : ConnOf). k.flight) r)) h
left_run lengths c d (o ∷ os) going h m r =
    let s = answered c r.0 o.call o.answer r.1 m.0 in
    let a = adds_call c r.0 o.call o.answer going s.0 s.1 in
    let H : Option FlightOf → Type 0 = HasLeft in
    let left : HasLeft r.0.flight = elim (quiet_or_turn c r.0 o.call o.answer going s.0 s.1) [
      | inl q ↦ subst H (sym q.quiet.flight) h
      | inr t ↦ left_turn lengths c r.0 c.flight c.waiting c.ended c.rest refl t.turned
    ] in
    left_run lengths r.0 d os a.1.going left m.1 r.2
