-- How many turns a reply takes, whatever other calls stand between them.
use Rattle.std.proofs.Common.{◌≡◌, ◌<◌, ◌≤◌, ◌+◌, ◌-◌, ℕ, Bool, false, List, [], ◌∷◌, ◌++◌, length, Option, Some, None, refl, sym, ap, subst, ◌∙◌, inl, inr, arith, append_assoc, append-nil}
use Rattle.std.specs.Prelude.{MatchBool, max, nat_le}
use Rattle.std.proofs.lemmas.Bool.Decides.{leb_tells}
use Rattle.table_store.specs.Block.{block_count}
use Rattle.table_store.specs.Catalog.{CatalogOf}
use Rattle.http_heads.specs.Checks.{head_fault}
use Rattle.odata_http.specs.Exchange.{HeadTakes}
use Rattle.odata_http.specs.Laws.{TakesCalls, OneLength}
use Rattle.odata_http.specs.Request.{AsksFor, RequestOf, refused, rows, service}
use Rattle.odata_hub.specs.Streams.{Asked}
use Rattle.odata_hub.specs.Replies.{IsReplyTo}
use Rattle.odata_hub.specs.Connections.{ConnOf, FlightOf, AddsReply, BeginsNext, IsTurned, IsTurnedBy, Own, Run, given_by, taken_of, HasMemory, turns_by, turns_in}
use Rattle.odata_hub.specs.Laws.{AreEnoughTurns, IsAmong, IsBrought, IsNext}
use Rattle.odata_hub.proofs.CallLemmas.{Adds, adds_both, adds_run, answered, quiet_or_turn, quiet_run}
use Rattle.odata_hub.proofs.MomentLemmas.{Moment, behind, moment_of, waits_more}

-- ---- the exchange in flight

-- the moment in which its reply was added
record RepliesIn (c d : ConnOf) (os : List Own) (f : FlightOf) : Type 0 where
  reply : List ℕ
  is : IsReplyTo f.asked reply
  moment : Moment c d os f.left c.waiting None reply

-- it is the first call
replies_now : (c m d : ConnOf) (o : Own) (os : List Own) (f : FlightOf) → c.failed ≡ false → 0 < f.left → f.left ≤ 1
    → given_by o.answer ≡ [] → turns_by o.call (turns_in os) ≡ turns_in os + 1 → HasMemory os → Run m os d → AddsReply c f.asked m
    → RepliesIn c d (o ∷ os) f
replies_now c m d o os f going lt le none one memory r x = record {
  reply = x.reply;
  is = x.is;
  moment = record {
    mid = m;
    after = os;
    taken = [];
    adds = record { output = ap (λ (k : ConnOf). k.output) x.new_is; going = ap (λ (k : ConnOf). k.failed) x.new_is ∙ going };
    flight_is = ap (λ (k : ConnOf). k.flight) x.new_is;
    waits = record { came = []; waits = ap (λ (k : ConnOf). k.waiting) x.new_is ∙ sym (append-nil c.waiting) };
    run = r;
    memory = memory;
    taken_is = ap (λ (l : List ℕ). l ++ taken_of os) none;
    turns_are = omega (arith, lt, le, one);
  };
}

abbrev one_less : FlightOf → FlightOf
one_less f = record { asked = f.asked; left = f.left - 1 }

-- it comes after a turn
replies_then : (c m d : ConnOf) (o : Own) (os : List Own) (f : FlightOf) → c.failed ≡ false → 1 < f.left → given_by o.answer ≡ []
    → turns_by o.call (turns_in os) ≡ turns_in os + 1 → m ≡ record c { flight = Some (one_less f) } → RepliesIn m d os (one_less f)
    → RepliesIn c d (o ∷ os) f
replies_then c m d o os f going lt none one is x =
    let P : List ℕ → Type 0 = λ g. Adds c m g [] in
    let adds : Adds c m [] [] = record {
      output = ap (λ (k : ConnOf). k.output) is ∙ sym (append-nil c.output);
      going = ap (λ (k : ConnOf). k.failed) is ∙ going;
    } in
    record {
      reply = x.reply;
      is = x.is;
      moment =
          behind c m d o os 1 (f.left - 1) f.left c.waiting [] m.waiting None x.reply (subst P (sym none) adds) one (omega (arith, lt))
          (ap (λ (k : ConnOf). k.waiting) is ∙ sym (append-nil c.waiting)) x.moment;
    }

-- it comes after a call that is no turn
replies_after : (c m d : ConnOf) (o : Own) (os : List Own) (f : FlightOf) (came : List Asked) → Adds c m (given_by o.answer) []
    → m.waiting ≡ c.waiting ++ came → turns_by o.call (turns_in os) ≡ turns_in os → RepliesIn m d os f → RepliesIn c d (o ∷ os) f
replies_after c m d o os f came adds waits none x = record {
  reply = x.reply;
  is = x.is;
  moment =
      behind c m d o os 0 f.left f.left c.waiting came m.waiting None x.reply adds (omega (arith, none)) (omega arith) waits x.moment;
}

by_turn : (c m : ConnOf) (f : FlightOf) → c.flight ≡ Some f → IsTurned c m
    → MatchBool (nat_le f.left 1) (AddsReply c f.asked m) (m ≡ record c { flight = Some (one_less f) })
by_turn c m f at t = let T : Option FlightOf → Type 0 = λ o. IsTurnedBy c o c.waiting c.ended c.rest m in subst T at t

replies_in : (c d : ConnOf) (os : List Own) (f : FlightOf) → c.failed ≡ false → c.flight ≡ Some f → 0 < f.left → f.left ≤ turns_in os
    → HasMemory os → Run c os d → RepliesIn c d os f
replies_in c d [] f going at lt le m r = absurd (omega (arith, lt, le))
replies_in c d (o ∷ os) f going at lt le m r =
    let s = answered c r.0 o.call o.answer r.1 m.0 in
    elim (quiet_or_turn c r.0 o.call o.answer going s.0 s.1) [
      | inl q ↦
          let none = q.turns (turns_in os) in
          let later = replies_in r.0 d os f q.quiet.adds.going (q.quiet.flight ∙ at) lt (omega (arith, le, none)) m.1 r.2 in
          replies_after c r.0 d o os f q.quiet.waits.came q.quiet.adds q.quiet.waits.waits none later
      | inr t ↦
          let one = t.turns (turns_in os) in
          let turned = by_turn c r.0 f at t.turned in
          let M : Bool → Type 0 = λ b. MatchBool b (AddsReply c f.asked r.0) (r.0 ≡ record c { flight = Some (one_less f) }) in
          elim (leb_tells f.left 1) [
            | inl last ↦
                let adds : AddsReply c f.asked r.0 = subst M last.0 turned in
                let le' : f.left ≤ 1 = last.1 in
                replies_now c r.0 d o os f going lt le' t.none one m.1 r.2 adds
            | inr more ↦
                let on : r.0 ≡ record c { flight = Some (one_less f) } = subst M more.0 turned in
                let gt : 1 < f.left = omega (arith, more.1) in
                let later =
                replies_in r.0 d os (one_less f) (ap (λ (k : ConnOf). k.failed) on ∙ going) (ap (λ (k : ConnOf). k.flight) on) (omega (arith, gt))
                (omega (arith, le, one)) m.1 r.2 in
                replies_then c r.0 d o os f going gt t.none one on later
          ]
    ]

-- ---- the next head

-- the moment in which its exchange began
record BeginsIn (c d : ConnOf) (os : List Own) (a : Asked) (others : List Asked) : Type 0 where
  calls : ℕ
  takes : HeadTakes a.catalog a.head calls
  moment : Moment c d os 1 others (Some (record { asked = a; left = calls })) []

begins_now : (c m d : ConnOf) (o : Own) (os : List Own) (a : Asked) (others : List Asked) → c.failed ≡ false → given_by o.answer ≡ []
    → turns_by o.call (turns_in os) ≡ turns_in os + 1 → HasMemory os → Run m os d → BeginsNext c a others m → BeginsIn c d (o ∷ os) a others
begins_now c m d o os a others going none one memory r x = record {
  calls = x.calls;
  takes = x.takes;
  moment = record {
    mid = m;
    after = os;
    taken = [];
    adds = record {
      output = ap (λ (k : ConnOf). k.output) x.new_is ∙ sym (append-nil c.output);
      going = ap (λ (k : ConnOf). k.failed) x.new_is ∙ going;
    };
    flight_is = ap (λ (k : ConnOf). k.flight) x.new_is;
    waits = record { came = []; waits = ap (λ (k : ConnOf). k.waiting) x.new_is ∙ sym (append-nil others) };
    run = r;
    memory = memory;
    taken_is = ap (λ (l : List ℕ). l ++ taken_of os) none;
    turns_are = omega (arith, one);
  };
}

begins_after : (c m d : ConnOf) (o : Own) (os : List Own) (a : Asked) (others came : List Asked) → Adds c m (given_by o.answer) []
    → turns_by o.call (turns_in os) ≡ turns_in os → BeginsIn m d os a (others ++ came) → BeginsIn c d (o ∷ os) a others
begins_after c m d o os a others came adds none x = record {
  calls = x.calls;
  takes = x.takes;
  moment =
      behind c m d o os 0 1 1 others came (others ++ came) (Some (record { asked = a; left = x.calls })) [] adds (omega (arith, none)) (omega arith)
      refl x.moment;
}

by_begin : (c m : ConnOf) (a : Asked) (others : List Asked) → c.flight ≡ None → c.waiting ≡ a ∷ others → IsTurned c m → BeginsNext c a others m
by_begin c m a others at first t =
    let T : Option FlightOf → Type 0 = λ o. IsTurnedBy c o c.waiting c.ended c.rest m in
    let W : List Asked → Type 0 = λ w. IsTurnedBy c None w c.ended c.rest m in subst W first (subst T at t)

begins_in : (c d : ConnOf) (os : List Own) (a : Asked) (others : List Asked) → c.failed ≡ false → c.flight ≡ None → c.waiting ≡ a ∷ others
    → 0 < turns_in os → HasMemory os → Run c os d → BeginsIn c d os a others
begins_in c d [] a others going at first lt m r = absurd (omega (arith, lt))
begins_in c d (o ∷ os) a others going at first lt m r =
    let s = answered c r.0 o.call o.answer r.1 m.0 in
    elim (quiet_or_turn c r.0 o.call o.answer going s.0 s.1) [
      | inl q ↦
          let none = q.turns (turns_in os) in
          let came = q.quiet.waits.came in
          let waits : r.0.waiting ≡ a ∷ (others ++ came) = q.quiet.waits.waits ∙ ap (λ (l : List Asked). l ++ came) first in
          let later =
          begins_in r.0 d os a (others ++ came) q.quiet.adds.going (q.quiet.flight ∙ at) waits (omega (arith, lt, none)) m.1 r.2 in
          begins_after c r.0 d o os a others came q.quiet.adds none later
      | inr t ↦ begins_now c r.0 d o os a others going t.none (t.turns (turns_in os)) m.1 r.2 (by_begin c r.0 a others at first t.turned)
    ]

-- the moment in which its reply was added
record NextIn (c d : ConnOf) (os : List Own) (a : Asked) (others : List Asked) : Type 0 where
  calls : ℕ
  takes : HeadTakes a.catalog a.head calls
  reply : List ℕ
  is : IsReplyTo a reply
  moment : Moment c d os (1 + calls) others None reply

next_in : OneLength → (c d : ConnOf) (os : List Own) (a : Asked) (others : List Asked) → c.failed ≡ false → IsNext c a others → 0 < turns_in os
    → ((calls : ℕ) → HeadTakes a.catalog a.head calls → calls + 1 ≤ turns_in os) → HasMemory os → Run c os d → NextIn c d os a others
next_in lengths c d os a others going next lt enough m r =
    let b = begins_in c d os a others going next.0 next.1 lt m r in
    let f : FlightOf = record { asked = a; left = b.calls } in
    let some : 0 < b.calls = lengths.some a.catalog a.head b.calls b.takes in
    let many = enough b.calls b.takes in
    let early = b.moment.turns_are in
    let left : b.calls ≤ turns_in b.moment.after = omega (arith, many, early) in
    let x = replies_in b.moment.mid d b.moment.after f b.moment.adds.going b.moment.flight_is some left b.moment.memory b.moment.run in
    record {
      calls = b.calls;
      takes = b.takes;
      reply = x.reply;
      is = x.is;
      moment = moment_of c d os 1 b.calls others (Some f) None x.reply b.moment x.moment;
    }

-- ---- what stands in the end

brought : (c d : ConnOf) (os : List Own) (a : Asked) (others : List Asked) (turns : ℕ) (reply : List ℕ) → IsReplyTo a reply → turns_in os ≡ turns
    → Moment c d os turns others None reply → IsBrought c a others os d
brought c d os a others turns reply is len x =
    let all = x.turns_are in
    let q = quiet_run x.mid d x.after x.adds.going (omega (arith, len, all)) x.memory x.run in
    let both = adds_both c x.mid d x.taken (taken_of x.after) reply [] x.adds q.adds in
    let waits = waits_more others x.waits.came x.mid.waiting d x.waits.waits q.waits in
    record {
      reply = reply;
      is = is;
      output = ap (λ (l : List ℕ). l ++ d.output) x.taken_is ∙ both.output ∙ ap (λ (l : List ℕ). c.output ++ l) (append-nil reply);
      flight = q.flight ∙ x.flight_is;
      came = waits.came;
      waiting = waits.waits;
    }

among : (c d : ConnOf) (os : List Own) (a : Asked) (others : List Asked) (turns : ℕ) (reply : List ℕ) → IsReplyTo a reply
    → Moment c d os turns others None reply → IsAmong c a os d
among c d os a others turns reply is x =
    let g = adds_run x.mid d x.after x.adds.going x.memory x.run in
    let both = adds_both c x.mid d x.taken (taken_of x.after) reply g.0 x.adds g.1 in
    record {
      reply = reply;
      is = is;
      output = (g.0, append_assoc c.output reply g.0 ∙ sym both.output ∙ ap (λ (l : List ℕ). l ++ d.output) (sym x.taken_is));
    }

pub reply_brought : (c d : ConnOf) (os : List Own) (f : FlightOf) → c.failed ≡ false → c.flight ≡ Some f → 0 < f.left → turns_in os ≡ f.left
    → HasMemory os → Run c os d → IsBrought c f.asked c.waiting os d
reply_brought c d os f going at lt len m r =
    let x = replies_in c d os f going at lt (omega (arith, len)) m r in brought c d os f.asked c.waiting f.left x.reply x.is len x.moment

pub next_brought : OneLength → (c d : ConnOf) (os : List Own) (a : Asked) (others : List Asked) (calls : ℕ) → c.failed ≡ false → IsNext c a others
    → HeadTakes a.catalog a.head calls → turns_in os ≡ calls + 1 → HasMemory os → Run c os d → IsBrought c a others os d
next_brought lengths c d os a others calls going next takes len m r =
    let fits : (n : ℕ) → HeadTakes a.catalog a.head n → n + 1 ≤ turns_in os = λ n h.
    let same : n ≡ calls = lengths.one a.catalog a.head n calls h takes in omega (arith, same, len) in
    let x = next_in lengths c d os a others going next (omega (arith, len)) fits m r in
    let same : x.calls ≡ calls = lengths.one a.catalog a.head x.calls calls x.takes takes in
    brought c d os a others (1 + x.calls) x.reply x.is (omega (arith, same, len)) x.moment

-- ---- enough turns

some_turn : (catalog : CatalogOf) (request : RequestOf) (turns : ℕ) → AreEnoughTurns catalog request turns → 0 < turns
some_turn catalog (refused code) turns e = omega (arith, e)
some_turn catalog service turns e = omega (arith, e)
some_turn catalog (rows asked) turns e = above (max 1 (block_count (length e.0.rows))) e.2 where
  above : (most : ℕ) → most + 1 ≤ turns → 0 < turns
  above most le = omega (arith, le)

calls_fit : (catalog : CatalogOf) (request : RequestOf) (calls turns : ℕ) → TakesCalls catalog request calls → AreEnoughTurns catalog request turns
    → calls + 1 ≤ turns
calls_fit catalog (refused code) calls turns w e = omega (arith, w, e)
calls_fit catalog service calls turns w e = omega (arith, w, e)
calls_fit catalog (rows asked) calls turns w e = above (max 1 (block_count (length e.0.rows))) (w e.0 e.1) e.2 where
  above : (most : ℕ) → calls ≤ most → most + 1 ≤ turns → calls + 1 ≤ turns
  above most le many = omega (arith, le, many)

pub next_among : OneLength → (c d : ConnOf) (os : List Own) (a : Asked) (others : List Asked) (request : RequestOf) → c.failed ≡ false
    → IsNext c a others → AsksFor a.catalog (head_fault a.head) a.head.target request → AreEnoughTurns a.catalog request (turns_in os)
    → HasMemory os → Run c os d → IsAmong c a os d
next_among lengths c d os a others request going next asks many m r =
    let fits : (n : ℕ) → HeadTakes a.catalog a.head n → n + 1 ≤ turns_in os = λ n h.
    calls_fit a.catalog request n (turns_in os) (lengths.within a.catalog a.head n request h asks) many in
    let x = next_in lengths c d os a others going next (some_turn a.catalog request (turns_in os) many) fits m r in
    among c d os a others (1 + x.calls) x.reply x.is x.moment
