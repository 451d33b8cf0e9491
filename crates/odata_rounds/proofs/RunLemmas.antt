-- Schedules of a hub, one after another.
use Rattle.std.proofs.Common.{List, [], ◌∷◌, ◌++◌, refl}
use Rattle.odata_hub.specs.declared.hub.Hub.{Hub}
use Rattle.odata_hub.specs.Connections.{Answer}
use Rattle.odata_hub.specs.Schedules.{Event, Happening, HubOf}
use Rattle.odata_hub.specs.Stands.{IsHubStep, Models}
use Rattle.odata_rounds.specs.Comes.{AreSchedules, MayHappen, ServingRun}
use Rattle.odata_rounds.specs.Visits.{IsHubRun}

pub run_none : (a : Hub) → IsHubRun a [] a
run_none a h s = (h, refl, s)

-- an event may happen to the hub, whatever that stands for
abbrev pub MayCome : Hub → Event → Type 0
MayCome a event = (h : HubOf) → Models a h → MayHappen h event

pub run_step : (a b c : Hub) (event : Event) (answer : Answer) (events : List Happening) → IsHubStep a event answer b → MayCome a event
    → IsHubRun b events c → IsHubRun a (record { event = event; answer = answer } ∷ events) c
run_step a b c event answer events step may rest h s =
    let first = step h s in let others = rest first.0 first.2 in (others.0, (first.0, first.1, may h s, others.1), others.2)

pub run_one : (a b : Hub) (event : Event) (answer : Answer) → IsHubStep a event answer b → MayCome a event
    → IsHubRun a (record { event = event; answer = answer } ∷ []) b
run_one a b event answer step may = run_step a b b event answer [] step may (run_none b)

-- a schedule in which nothing comes to what is over is one
pub hub_run : AreSchedules
hub_run a b [] r = r
hub_run a b (x ∷ xs) r = (r.0, r.1, hub_run r.0 b xs r.3)

pub serving_joins : (a b c : HubOf) (xs ys : List Happening) → ServingRun a xs b → ServingRun b ys c → ServingRun a (xs ++ ys) c
serving_joins a b c [] ys r s = rw (← r) s
serving_joins a b c (x ∷ xs) ys r s = (r.0, r.1, r.2, serving_joins r.0 b c xs ys r.3 s)

pub run_joins : (a b c : Hub) (xs ys : List Happening) → IsHubRun a xs b → IsHubRun b ys c → IsHubRun a (xs ++ ys) c
run_joins a b c xs ys r s h x = let first = r h x in let others = s first.0 first.2 in
    (others.0, serving_joins h first.0 others.0 xs ys first.1 others.1, others.2)
