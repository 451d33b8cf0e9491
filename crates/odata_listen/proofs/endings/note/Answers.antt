use Rattle.std.proofs.Common.{◌≡◌, ℕ, List, subst, ◌∙◌}
use Rattle.std.specs.Prelude.{Bool}
use Rattle.odata_hub.specs.declared.hub.Hub.{Hub}
use Rattle.odata_hub.specs.Schedules.{conn_at}
use Rattle.listen_sockets.specs.declared.sockets.Wire.{Wire}
use Rattle.listen_sockets.specs.Server.{EndsHopeless, EndsIfHopeless, IsEndedIfHopeless}
use Rattle.listen_sockets.specs.Sockets.{KeepsStreams, is_ended_at}
use Rattle.odata_listen.proofs.endings.note.Goals as goal

-- what was noted before ended no stream, and changed nothing of the hub
kept_then : (place : ℕ) (old hub : Hub) (a b c : List Wire) → hub ≡ old → KeepsStreams a b → EndsHopeless place hub b c → EndsHopeless place old a c
kept_then place old hub a b c same k e =
    let Q : Hub → Type 0 = λ x. EndsHopeless place x b c in
    let f = subst Q same e in
    record {
      here = λ h s. let P : Bool → Type 0 = λ x. IsEndedIfHopeless (conn_at h place) x (is_ended_at c place) in subst P (k place) (f.here h s);
      others = λ other away. f.others other away ∙ k other;
    }

ends_then : (now place : ℕ) (old hub : Hub) (b c : List Wire) → hub ≡ old → EndsIfHopeless now place hub b c → EndsIfHopeless now place old b c
ends_then now place old hub b c same e = let P : Hub → Type 0 = λ x. EndsIfHopeless now place x b c in subst P same e

pub returns-clause-notes : goal.returns-clause-notes
returns-clause-notes c =
    let noted = c.note_work.ensures in
    let ended = c.end_hopeless.ensures in
    record {
      kept = record {
        hub = ended.hub ∙ noted.hub;
        slots = ended.slots ∙ noted.slots;
        stay = λ place. ended.stay place ∙ noted.stay place;
      };
      sockets = record { mid = _; visit = noted.sockets; ends = ends_then c.args.now c.args.place _ _ _ _ noted.hub ended.sockets };
      streams = kept_then c.args.place _ _ _ _ _ noted.hub noted.streams ended.ends;
    }

pub returns-clause-work : goal.returns-clause-work
returns-clause-work c = λ h s. rw (c.sent-count.ensures, c.has_waiting-waits.ensures h s) at c.sent.ensures
