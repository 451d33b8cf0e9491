-- What calls that have memory make of the output of a connection.
use Rattle.std.proofs.Common.{◌≡◌, ◌≢◌, ◌+◌, ◌-◌, ℕ, Bool, true, false, List, [], ◌∷◌, ◌++◌, take, drop, Option, Some, None, refl, sym, ap, ◌∙◌, inl, inr, ◌⊎◌, arith, append_assoc, append-nil, take-append-drop, subst}
use Rattle.std.specs.Prelude.{MatchBool, nat_le, if◌then◌else◌}
use Rattle.table_store.specs.Catalog.{CatalogOf}
use Rattle.odata_http.specs.Replies.{last_reply}
use Rattle.odata_hub.specs.declared.answers.HubFault.TheVariants.{Ended, Failed, NoMemory}
use Rattle.odata_hub.specs.declared.answers.Turned.TheVariants.{Idle, Worked}
use Rattle.odata_hub.specs.Streams.{Asked, asked}
use Rattle.odata_hub.specs.Connections.{ConnOf, FlightOf, Call, Piece, End, Turn, Take, Answer, Done, Went, Refused, IsFed, AddsReply, IsTurned, IsTurnedBy, IsAfter, answer_to, works, Step, Own, Run, given_by, taken_of, HasMemory, turns_by, turns_in}

pub answered : (c d : ConnOf) (call : Call) (answer : Answer) → Step c call answer d → answer ≢ Refused NoMemory
    → (answer ≡ answer_to c call) × IsAfter c call d
answered c d call answer (inl h) n = h
answered c d call answer (inr h) n = absurd (n h.0)

-- what was taken, and what is in the output then, are together what was there before and these bytes; and the connection did not fail
pub record Adds (c d : ConnOf) (taken added : List ℕ) : Type 0 where
  pub output : taken ++ d.output ≡ c.output ++ added
  pub going : d.failed ≡ false

-- these heads wait, and others after them
pub record Waits (heads : List Asked) (d : ConnOf) : Type 0 where
  pub came : List Asked
  pub waits : d.waiting ≡ heads ++ came

-- nothing is added, the exchange in flight is as it was, and the heads wait
pub record Quiet (c d : ConnOf) (taken : List ℕ) : Type 0 where
  pub adds : Adds c d taken []
  pub flight : d.flight ≡ c.flight
  pub waits : Waits c.waiting d

pub adds_both : (c m d : ConnOf) (t u a b : List ℕ) → Adds c m t a → Adds m d u b → Adds c d (t ++ u) (a ++ b)
adds_both c m d t u a b x y = record {
  output = append_assoc t u d.output ∙ ap (λ (l : List ℕ). t ++ l) y.output ∙ sym (append_assoc t m.output b)
      ∙ ap (λ (l : List ℕ). l ++ b) x.output ∙ append_assoc c.output a b;
  going = y.going;
}

quiet_both : (c m d : ConnOf) (t u : List ℕ) → Quiet c m t → Quiet m d u → Quiet c d (t ++ u)
quiet_both c m d t u x y = record {
  adds = adds_both c m d t u [] [] x.adds y.adds;
  flight = y.flight ∙ x.flight;
  waits = record {
    came = x.waits.came ++ y.waits.came;
    waits = y.waits.waits ∙ ap (λ (w : List Asked). w ++ y.waits.came) x.waits.waits ∙ append_assoc c.waiting x.waits.came y.waits.came;
  };
}

-- ---- calls that are no turns

-- the output, the exchange in flight and what waits are as they were, but for heads that came
quiet_by : (c d : ConnOf) (taken : List ℕ) (came : List Asked) → c.failed ≡ false → taken ≡ [] → d.output ≡ c.output → d.failed ≡ c.failed
    → d.flight ≡ c.flight → d.waiting ≡ c.waiting ++ came → Quiet c d taken
quiet_by c d taken came going none output failed flight waiting = record {
  adds = record {
    output = ap (λ (l : List ℕ). l ++ d.output) none ∙ output ∙ sym (append-nil c.output);
    going = failed ∙ going;
  };
  flight = flight;
  waits = record { came = came; waits = waiting };
}

quiet_same : (c d : ConnOf) (taken : List ℕ) → c.failed ≡ false → taken ≡ [] → d ≡ c → Quiet c d taken
quiet_same c d taken going none same =
    quiet_by c d taken [] going none (ap (λ (x : ConnOf). x.output) same) (ap (λ (x : ConnOf). x.failed) same) (ap (λ (x : ConnOf). x.flight) same)
    (ap (λ (x : ConnOf). x.waiting) same ∙ sym (append-nil c.waiting))

quiet_piece : (c d : ConnOf) (catalog : CatalogOf) (bytes taken : List ℕ) (failed ended closed : Bool) → c.failed ≡ false → taken ≡ []
    → MatchBool failed (d ≡ c) (MatchBool ended (d ≡ c) (MatchBool closed (d ≡ c) (IsFed c catalog bytes d))) → Quiet c d taken
quiet_piece c d catalog bytes taken true ended closed going none h = quiet_same c d taken going none h
quiet_piece c d catalog bytes taken false true closed going none h = quiet_same c d taken going none h
quiet_piece c d catalog bytes taken false false true going none h = quiet_same c d taken going none h
quiet_piece c d catalog bytes taken false false false going none h =
    quiet_by c d taken (asked catalog h.heads) going none (ap (λ (x : ConnOf). x.output) h.new_is) (ap (λ (x : ConnOf). x.failed) h.new_is)
    (ap (λ (x : ConnOf). x.flight) h.new_is) (ap (λ (x : ConnOf). x.waiting) h.new_is)

quiet_end : (c d : ConnOf) (taken : List ℕ) (failed ended : Bool) → c.failed ≡ false → taken ≡ []
    → d ≡ (if failed then c else (if ended then c else record c { ended = true })) → Quiet c d taken
quiet_end c d taken true ended going none h = quiet_same c d taken going none h
quiet_end c d taken false true going none h = quiet_same c d taken going none h
quiet_end c d taken false false going none h =
    quiet_by c d taken [] going none (ap (λ (x : ConnOf). x.output) h) (ap (λ (x : ConnOf). x.failed) h) (ap (λ (x : ConnOf). x.flight) h)
    (ap (λ (x : ConnOf). x.waiting) h ∙ sym (append-nil c.waiting))

quiet_take : (c d : ConnOf) (room : ℕ) (taken : List ℕ) → c.failed ≡ false → taken ≡ take room c.output
    → d ≡ record c { output = drop room c.output } → Quiet c d taken
quiet_take c d room taken going given h = record {
  adds = record {
    output = ap (λ (l : List ℕ). l ++ d.output) given ∙ ap (λ (l : List ℕ). take room c.output ++ l) (ap (λ (x : ConnOf). x.output) h)
        ∙ take-append-drop room c.output ∙ sym (append-nil c.output);
    going = ap (λ (x : ConnOf). x.failed) h ∙ going;
  };
  flight = ap (λ (x : ConnOf). x.flight) h;
  waits = record { came = []; waits = ap (λ (x : ConnOf). x.waiting) h ∙ sym (append-nil c.waiting) };
}

-- ---- a call is a turn, or leaves the exchange in flight and what waits

given_fed : (failed ended : Bool) → given_by (if failed then Refused Failed else (if ended then Refused Ended else Done)) ≡ []
given_fed true ended = refl
given_fed false true = refl
given_fed false false = refl

given_turn : (failed works : Bool) → given_by (if failed then Refused Failed else Went (if works then Worked else Idle)) ≡ []
given_turn true works = refl
given_turn false works = refl

turned_of : (c d : ConnOf) (failed : Bool) → failed ≡ false → MatchBool failed (d ≡ c) (IsTurned c d) → IsTurned c d
turned_of c d true e h = absurd (cc e)
turned_of c d false e h = h

pub record IsQuiet (c d : ConnOf) (call : Call) (taken : List ℕ) : Type 0 where
  pub quiet : Quiet c d taken
  pub turns : (n : ℕ) → turns_by call n ≡ n

pub record IsOneTurn (c d : ConnOf) (call : Call) (taken : List ℕ) : Type 0 where
  pub none : taken ≡ []
  pub turned : IsTurned c d
  pub turns : (n : ℕ) → turns_by call n ≡ n + 1

pub quiet_or_turn : (c d : ConnOf) (call : Call) (answer : Answer) → c.failed ≡ false → answer ≡ answer_to c call → IsAfter c call d
    → IsQuiet c d call (given_by answer) ⊎ IsOneTurn c d call (given_by answer)
quiet_or_turn c d (Piece catalog bytes) answer going is h =
    let none : given_by answer ≡ [] = ap given_by is ∙ given_fed c.failed c.ended in
    inl (record { quiet = quiet_piece c d catalog bytes (given_by answer) c.failed c.ended c.closed going none h; turns = λ n. refl })
quiet_or_turn c d End answer going is h =
    let none : given_by answer ≡ [] = ap given_by is ∙ given_fed c.failed c.ended in
    inl (record { quiet = quiet_end c d (given_by answer) c.failed c.ended going none h; turns = λ n. refl })
quiet_or_turn c d Turn answer going is h =
    let none : given_by answer ≡ [] = ap given_by is ∙ given_turn c.failed (works c) in
    inr (record { none = none; turned = turned_of c d c.failed going h; turns = λ n. refl })
quiet_or_turn c d (Take room) answer going is h =
    inl (record { quiet = quiet_take c d room (given_by answer) going (ap given_by is) h; turns = λ n. refl })

-- ---- runs

-- what a turn adds
adds_flight : (c d : ConnOf) (f : FlightOf) (last : Bool) → c.failed ≡ false
    → MatchBool last (AddsReply c f.asked d) (d ≡ record c { flight = Some (record { asked = f.asked; left = f.left - 1 }) })
    → (added : List ℕ) × Adds c d [] added
adds_flight c d f true going h = (
  h.reply,
  record { output = ap (λ (x : ConnOf). x.output) h.new_is; going = ap (λ (x : ConnOf). x.failed) h.new_is ∙ going },
)
adds_flight c d f false going h = (
  [],
  record { output = ap (λ (x : ConnOf). x.output) h ∙ sym (append-nil c.output); going = ap (λ (x : ConnOf). x.failed) h ∙ going },
)

adds_turn : (c d : ConnOf) (flight : Option FlightOf) (waiting : List Asked) (ended : Bool) (rest : List ℕ) → c.failed ≡ false
    → IsTurnedBy c flight waiting ended rest d → (added : List ℕ) × Adds c d [] added
adds_turn c d (Some f) waiting ended rest going h = adds_flight c d f (nat_le f.left 1) going h
adds_turn c d None (a ∷ waiting) ended rest going h = (
  [],
  record {
    output = ap (λ (x : ConnOf). x.output) h.new_is ∙ sym (append-nil c.output);
    going = ap (λ (x : ConnOf). x.failed) h.new_is ∙ going;
  },
)
adds_turn c d None [] true rest going h = (
  last_reply rest,
  record { output = ap (λ (x : ConnOf). x.output) h; going = ap (λ (x : ConnOf). x.failed) h ∙ going },
)
adds_turn c d None [] false rest going h = (
  [],
  record { output = ap (λ (x : ConnOf). x.output) h ∙ sym (append-nil c.output); going = ap (λ (x : ConnOf). x.failed) h ∙ going },
)

pub adds_call : (c d : ConnOf) (call : Call) (answer : Answer) → c.failed ≡ false → answer ≡ answer_to c call → IsAfter c call d
    → (added : List ℕ) × Adds c d (given_by answer) added
adds_call c d call answer going is h = elim (quiet_or_turn c d call answer going is h) [
  | inl q ↦ ([], q.quiet.adds)
  | inr t ↦
      let a = adds_turn c d c.flight c.waiting c.ended c.rest going t.turned in
      let P : List ℕ → Type 0 = λ g. Adds c d g a.0 in (a.0, subst P (sym t.none) a.1)
]

-- whatever is called, bytes are added after the output
pub adds_run : (c d : ConnOf) (os : List Own) → c.failed ≡ false → HasMemory os → Run c os d → (added : List ℕ) × Adds c d (taken_of os) added
adds_run c d [] going m r = (
  [],
  record { output = ap (λ (x : ConnOf). x.output) r ∙ sym (append-nil c.output); going = ap (λ (x : ConnOf). x.failed) r ∙ going },
)
adds_run c d (o ∷ os) going m r =
    let s = answered c r.0 o.call o.answer r.1 m.0 in
    let first = adds_call c r.0 o.call o.answer going s.0 s.1 in
    let rest = adds_run r.0 d os first.1.going m.1 r.2 in
    (first.0 ++ rest.0, adds_both c r.0 d (given_by o.answer) (taken_of os) first.0 rest.0 first.1 rest.1)

-- and where no call is a turn, none
pub quiet_run : (c d : ConnOf) (os : List Own) → c.failed ≡ false → turns_in os ≡ 0 → HasMemory os → Run c os d → Quiet c d (taken_of os)
quiet_run c d [] going none m r = quiet_same c d [] going refl r
quiet_run c d (o ∷ os) going none m r =
    let s = answered c r.0 o.call o.answer r.1 m.0 in
    elim (quiet_or_turn c r.0 o.call o.answer going s.0 s.1) [
      | inl q ↦
          let rest = quiet_run r.0 d os q.quiet.adds.going (sym (q.turns (turns_in os)) ∙ none) m.1 r.2 in
          quiet_both c r.0 d (given_by o.answer) (taken_of os) q.quiet rest
      | inr t ↦ let one = t.turns (turns_in os) in absurd (omega (arith, none, one))
    ]
