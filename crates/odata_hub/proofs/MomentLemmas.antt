-- Moments of a run of a connection.
use Rattle.std.proofs.Common.{◌≡◌, ◌+◌, ℕ, List, [], ◌∷◌, ◌++◌, Option, sym, ap, ◌∙◌, arith, append_assoc}
use Rattle.odata_hub.specs.Streams.{Asked}
use Rattle.odata_hub.specs.Connections.{ConnOf, FlightOf, Own, Run, given_by, taken_of, HasMemory, turns_by, turns_in}
use Rattle.odata_hub.proofs.CallLemmas.{Adds, Waits, adds_both}

-- A moment of a run from one connection to another, after some turns: what was taken and added before it, what is in flight and which heads wait
-- then, and the calls that follow.
pub record Moment (c d : ConnOf) (os : List Own) (turns : ℕ) (heads : List Asked) (flight : Option FlightOf) (added : List ℕ) : Type 0 where
  pub mid : ConnOf
  pub after : List Own
  pub taken : List ℕ
  pub adds : Adds c mid taken added
  pub flight_is : mid.flight ≡ flight
  pub waits : Waits heads mid
  pub run : Run mid after d
  pub memory : HasMemory after
  pub taken_is : taken_of os ≡ taken ++ taken_of after
  pub turns_are : turns_in os ≡ turns + turns_in after

pub waits_more : (heads came now : List Asked) (d : ConnOf) → now ≡ heads ++ came → Waits now d → Waits heads d
waits_more heads came now d e w = record {
  came = came ++ w.came;
  waits = w.waits ∙ ap (λ (l : List Asked). l ++ w.came) e ∙ append_assoc heads came w.came;
}

-- a moment of the run that begins with one more call, which adds nothing
pub behind : (c m d : ConnOf) (o : Own) (os : List Own) (first turns all : ℕ) (heads came now : List Asked) (flight : Option FlightOf) (added : List ℕ)
    → Adds c m (given_by o.answer) [] → turns_by o.call (turns_in os) ≡ turns_in os + first → first + turns ≡ all → now ≡ heads ++ came
    → Moment m d os turns now flight added → Moment c d (o ∷ os) all heads flight added
behind c m d o os first turns all heads came now flight added x one sum e y =
    let later = y.turns_are in
    record {
      mid = y.mid;
      after = y.after;
      taken = given_by o.answer ++ y.taken;
      adds = adds_both c m y.mid (given_by o.answer) y.taken [] added x y.adds;
      flight_is = y.flight_is;
      waits = waits_more heads came now y.mid e y.waits;
      run = y.run;
      memory = y.memory;
      taken_is = ap (λ (l : List ℕ). given_by o.answer ++ l) y.taken_is ∙ sym (append_assoc (given_by o.answer) y.taken (taken_of y.after));
      turns_are = omega (arith, one, sum, later);
    }

-- a moment of what follows a moment
pub moment_of : (c d : ConnOf) (os : List Own) (turns more : ℕ) (heads : List Asked) (flight next : Option FlightOf) (added : List ℕ)
    (x : Moment c d os turns heads flight []) → Moment x.mid d x.after more x.mid.waiting next added
    → Moment c d os (turns + more) heads next added
moment_of c d os turns more heads flight next added x y =
    let early = x.turns_are in
    let later = y.turns_are in
    record {
      mid = y.mid;
      after = y.after;
      taken = x.taken ++ y.taken;
      adds = adds_both c x.mid y.mid x.taken y.taken [] added x.adds y.adds;
      flight_is = y.flight_is;
      waits = waits_more heads x.waits.came x.mid.waiting y.mid x.waits.waits y.waits;
      run = y.run;
      memory = y.memory;
      taken_is =
          x.taken_is ∙ ap (λ (l : List ℕ). x.taken ++ l) y.taken_is ∙ sym (append_assoc x.taken y.taken (taken_of y.after));
      turns_are = omega (arith, early, later);
    }
