-- The turns of places: how often each is visited, and in which order they have theirs.
use Rattle.std.specs.Prelude.{◌≡◌, ℕ, zero, suc, ◌+◌, ◌-◌, ◌<◌, ◌≤◌, ◌==◌, Bool, true, false, MatchBool, nat_lt, if◌then◌else◌}
use Rattle.odata_rounds.specs.Sights.{VisitsAt}
use Rattle.listen_sockets.specs.declared.server.Server.{Server}
use Rattle.listen_sockets.specs.Peer.{after_charge}
use Rattle.listen_sockets.specs.Server.{state_at}
use Rattle.listen_sockets.specs.Sights.{sight_of}
use Rattle.listen_sockets.specs.Sockets.{ChangesPeer, is_awake_at, is_heavy_at, is_lost_at}
use Rattle.odata_listen.specs.declared.turns.Circle.{Circle}
use Rattle.odata_listen.specs.declared.turns.Circles.{Circles}
use Rattle.odata_listen.specs.declared.limits.Terms.{Terms}
use Rattle.odata_listen.specs.Limits.{EndsOver}
use Rattle.odata_listen.specs.Serving.{CountsWork, Frees, IsKept, Settles}
use Rattle.service_log.specs.declared.log.Log.{Log}
use Rattle.service_log.specs.declared.work.Work.{Work}
use Rattle.service_log.specs.Work.{work_after_charge, work_after_turn}

-- the server, and what it did in the minute
pub record Served : Type 0 where
  pub server : Server
  pub work : Work

abbrev pub served : Server → Log → Served
served server log = record { server = server; work = log.tally.work }

-- what the service worked for the connection at a place is added to what it worked before, whatever that is, and to the turn that goes on
pub record Charges (place : ℕ) (old new : Served) : Type 0 where
  pub micros : ℕ
  pub kept : IsKept old.server new.server
  pub sockets : ChangesPeer place (after_charge micros) old.server.sockets.wires.items new.server.sockets.wires.items
  pub work : new.work ≡ work_after_charge micros old.work

-- one visit at a place: its connection is charged for it, what became of the place is settled, what was sent is counted, and a query is ended that keeps more
-- than it may
pub record Visited (terms : Terms) (place : ℕ) (old new : Served) : Type 0 where
  pub mid : Server
  pub visit : VisitsAt place (sight_of old.server) (sight_of mid)
  pub charged : Served
  pub charge : Charges place (record { server = mid; work = old.work }) charged
  pub settled : Served
  pub settles : Settles terms.poller.now.second (state_at charged.server.slots.items place) place charged.server settled.server
  pub work : CountsWork (state_at charged.server.slots.items place) place charged.server charged.work settled.work
  pub ends : EndsOver terms.kept place settled.server new.server
  pub still : new.work ≡ settled.work

-- `count` of them, one after another
abbrev pub AreVisits : ℕ → Terms → ℕ → Served → Served → Type 0
AreVisits zero terms place old new = new ≡ old
AreVisits (suc visits) terms place old new = (mid : Served) × AreVisits visits terms place old mid × Visited terms place mid new

-- the most visits of one turn
abbrev pub most_visits : ℕ
most_visits = 5

-- a place is visited at least once, and at most so often
pub record IsVisited (terms : Terms) (place : ℕ) (old new : Served) : Type 0 where
  pub visits : ℕ
  pub some : 0 < visits
  pub few : visits ≤ most_visits
  pub are : AreVisits visits terms place old new

-- the turn that goes on is over
abbrev pub turn_over : Served → Served
turn_over s = record s { work = work_after_turn s.work }

-- by whether a place is awake, and its connection lost
abbrev pub HasTurnBy : Bool → Bool → Terms → ℕ → Served → Served → Type 0
HasTurnBy false lost terms place old new = new ≡ old
HasTurnBy true true terms place old new = Frees place old.server new.server × (new.work ≡ old.work)
HasTurnBy true false terms place old new = (mid : Served) × IsVisited terms place old mid × (new ≡ turn_over mid)

-- A turn: a place whose connection is lost is given back, another that is awake is visited, and nothing is done at one that is not.
abbrev pub HasTurn : Terms → ℕ → Served → Served → Type 0
HasTurn terms place old new =
    HasTurnBy (is_awake_at old.server.sockets.wires.items place) (is_lost_at old.server.sockets.wires.items place) terms place old new

-- those have their turn for whom much was done, or the others
abbrev pub HasTurnOf : Bool → Terms → ℕ → Served → Served → Type 0
HasTurnOf heavy terms place old new = MatchBool (is_heavy_at old.server.sockets.wires.items place)
    (MatchBool heavy (HasTurn terms place old new) (new ≡ old)) (MatchBool heavy (new ≡ old) (HasTurn terms place old new))

-- the place whose turn it is, of `places` in a circle: after the last comes the first
abbrev pub turn_at : ℕ → ℕ → ℕ
turn_at places next = if nat_lt next places then next else 0

-- `count` places had their turn in order, from one on; and where it goes on
abbrev pub Turns : ℕ → Bool → Terms → ℕ → ℕ → ℕ → Served → Served → Type 0
Turns zero heavy terms places from next old new = (next ≡ from) × (new ≡ old)
Turns (suc turns) heavy terms places from next old new =
    (at : ℕ) × (mid : Served) × Turns turns heavy terms places from at old mid × HasTurnOf heavy terms (turn_at places at) mid new × (next ≡ turn_at places at + 1)

-- how many places have their turn until all had it: all, where a circle begins
abbrev pub left_of : ℕ → ℕ → ℕ
left_of places left = if left == 0 then places else left

-- one place had its turn, and is counted off
pub record TookTurn (before after : Circle) : Type 0 where
  pub next : after.next ≡ turn_at before.places before.next + 1
  pub left : after.left ≡ before.left - 1
  pub places : after.places ≡ before.places
  pub kind : after.heavy ≡ before.heavy

-- the places of a circle have their turns from where it was left, each once, and those that had it are counted off
pub record GoesRound (terms : Terms) (before after : Circle) (old new : Served) : Type 0 where
  pub turns : ℕ
  pub are : Turns turns before.heavy terms before.places before.next after.next old new
  pub left : after.left + turns ≡ left_of before.places before.left
  pub places : after.places ≡ before.places
  pub kind : after.heavy ≡ before.heavy

-- A round: the places of those who ask for little have their turns, and once all had theirs, the others.
pub record IsRound (terms : Terms) (before after : Circles) (old new : Served) : Type 0 where
  pub mid : Served
  pub light : GoesRound terms before.light after.light old mid
  pub heavy : MatchBool (after.light.left == 0) (GoesRound terms before.heavy after.heavy mid new) ((after.heavy ≡ before.heavy) × (new ≡ mid))

-- in both circles each place had its turn
pub record HadTurns (circles : Circles) : Type 0 where
  pub light : circles.light.left ≡ 0
  pub heavy : circles.heavy.left ≡ 0
