-- Lines that were played, one after another.
use Rattle.std.proofs.Common.{◌≡◌, ◌∙◌, ◌+◌, ◌++◌, ℕ, List, [], ◌∷◌, length, take, Result, Ok, Err, refl, sym, ap, subst, inl, inr, append_assoc, append-nil, length-append, arith}
use Rattle.std.specs.Prelude.{⊤}
use Rattle.std.specs.Io.KnownBytes.{Appends}
use Rattle.std.proofs.KnownBytes.{Appends-nil, Appends-trans}
use Rattle.std.proofs.lemmas.List.Concat.{flat_map-append}
use Rattle.event_scripts.specs.Lines.{script_lines}
use Rattle.table_store.specs.Catalog.{CatalogOf}
use Rattle.odata_http.specs.Device.{SinkOf}
use Rattle.odata_http.specs.Answer.{HasWritten}
use Rattle.odata_hub.specs.Schedules.{HubOf, HubRun}
use Rattle.odata_hub.specs.Stands.{Models}
use Rattle.exit_statuses.specs.declared.fault.ProgramFault.{ProgramFault}
use Rattle.exit_statuses.specs.declared.fault.ProgramFault.TheVariants.{Folder, Run, Script, Device, NoMemory}
use Rattle.served_folders.specs.Folders.{FoldersOf}
use Rattle.served_folders.specs.Loads.{IsLoaded, loading}
use Rattle.hub_scripts.specs.Replay.{Stage, stage, Outcome, Happened, Kept, outcome_line, outcome_lines, LineComes, Plays, schedule_of, Playing, playing, free_hub, IsPlayed, IsReplay, MayLoadNext, Replay, Replays, Place, IsLinePlayed}
use Rattle.hub_scripts.proofs.CommandLemmas.{StepOf, comes_device, comes_step}

-- ---- lines, one after another

no_lines : (s : SinkOf) → HasWritten s s []
no_lines s = record { gained = Appends-nil s.taken; failed = refl }

plays_more : (lines : List (List ℕ)) (line : List ℕ) (outcomes : List Outcome) (outcome : Outcome) (old mid new : Stage) → Plays lines old outcomes mid
    → LineComes line mid outcome new → Plays (lines ++ line ∷ []) old (outcomes ++ outcome ∷ []) new
plays_more [] line [] outcome old mid new is comes = (new, subst (λ (s : Stage). LineComes line s outcome new) is comes, refl)
plays_more [] line (o ∷ outcomes) outcome old mid new h comes = absurd h
plays_more (l ∷ lines) line [] outcome old mid new h comes = absurd h
plays_more (l ∷ lines) line (o ∷ outcomes) outcome old mid new (next, first, h) comes =
    (next, first, plays_more lines line outcomes outcome next mid new h comes)

plays_device : (lines : List (List ℕ)) (old new : Stage) (outcomes : List Outcome) → Plays lines old outcomes new → new.folders.device ≡ old.folders.device
plays_device [] old new [] is = ap (λ (s : Stage). s.folders.device) is
plays_device [] old new (o ∷ outcomes) h = absurd h
plays_device (l ∷ lines) old new [] h = absurd h
plays_device (l ∷ lines) old new (o ∷ outcomes) (next, first, h) =
    plays_device lines next new outcomes h ∙ comes_device first.command old o next first.comes

run_more : (old mid new : Stage) (outcome : Outcome) (outcomes : List Outcome) → StepOf old outcome mid
    → HubRun mid.hub (schedule_of outcomes) new.hub → HubRun old.hub (schedule_of (outcome ∷ outcomes)) new.hub
run_more old mid new (Happened happening) outcomes step run = (mid.hub, step, run)
run_more old mid new (Kept fault) outcomes step run = subst (λ (h : HubOf). HubRun h (schedule_of outcomes) new.hub) step run

-- what lines come to is a schedule
pub plays_run : (lines : List (List ℕ)) (old new : Stage) (outcomes : List Outcome) → Plays lines old outcomes new
    → HubRun old.hub (schedule_of outcomes) new.hub
plays_run [] old new [] is = ap (λ (s : Stage). s.hub) is
plays_run [] old new (o ∷ outcomes) h = absurd h
plays_run (l ∷ lines) old new [] h = absurd h
plays_run (l ∷ lines) old new (o ∷ outcomes) (next, first, h) =
    run_more old next new o outcomes (comes_step first.command old o next first.comes) (plays_run lines next new outcomes h)

lines_more : (outcomes : List Outcome) (outcome : Outcome) → outcome_lines (outcomes ++ outcome ∷ []) ≡ outcome_lines outcomes ++ outcome_line outcome
lines_more outcomes outcome =
    flat_map-append outcome_line outcomes (outcome ∷ [])
    ∙ ap (λ (bytes : List ℕ). outcome_lines outcomes ++ bytes) (append-nil (outcome_line outcome))

-- ---- a script that is played as far as this rest

pub record IsPlayedTo (script : List ℕ) (start : Stage) (rest : List ℕ) (number : ℕ) (sink : SinkOf) (now : Place) : Type 0 where
  pub before : List (List ℕ)
  pub lines : script_lines script ≡ before ++ script_lines rest
  pub number_is : number ≡ length before + 1
  pub hub : HubOf
  pub outcomes : List Outcome
  pub plays : Plays before start outcomes (stage hub now.folders)
  pub stands : Models now.hub hub
  pub written : HasWritten sink now.sink (outcome_lines outcomes)

pub played_none : (script : List ℕ) (hub : HubOf) (now : Place) → Models now.hub hub → IsPlayedTo script (stage hub now.folders) script 1 now.sink now
played_none script hub now stands = record {
  before = [];
  lines = refl;
  number_is = refl;
  hub = hub;
  outcomes = [];
  plays = refl;
  stands = stands;
  written = no_lines now.sink;
}

module _ {script : List ℕ} {start : Stage} {rest : List ℕ} {number : ℕ} {sink : SinkOf} {now : Place} (to : IsPlayedTo script start rest number sink now)
    (line behind : List ℕ) (first : script_lines rest ≡ line ∷ script_lines behind) where
  lines_here : script_lines script ≡ to.before ++ line ∷ script_lines behind
  lines_here = to.lines ∙ ap (λ (ls : List (List ℕ)). to.before ++ ls) first

  lines_behind : script_lines script ≡ (to.before ++ line ∷ []) ++ script_lines behind
  lines_behind = lines_here ∙ sym (append_assoc to.before (line ∷ []) (script_lines behind))

  pub played_more : (next : Place) → IsLinePlayed line number now next (Ok tt) → IsPlayedTo script start behind (number + 1) sink next
  played_more next h =
      let (c, is, bytes, comes, written) = h to.hub to.stands in record {
        before = to.before ++ line ∷ [];
        lines = lines_behind;
        number_is = omega (arith, to.number_is, length-append to.before (line ∷ []));
        hub = comes.new;
        outcomes = to.outcomes ++ comes.outcome ∷ [];
        plays = plays_more to.before line to.outcomes comes.outcome start (stage to.hub now.folders) (stage comes.new next.folders) to.plays
            (record { command = c; is = is; comes = comes.comes });
        stands = comes.stands;
        written = record {
          gained = rw lines_more (Appends-trans sink.taken now.sink.taken next.sink.taken (outcome_lines to.outcomes) (outcome_line comes.outcome)
              to.written.gained (subst (λ (t : List ℕ). Appends now.sink.taken next.sink.taken t) comes.text_is written.gained));
          failed = written.failed ∙ to.written.failed;
        };
      }

  abbrev here : Place → Playing
  here next = record { script = script; start = start; folders_after = next.folders; sink = sink; sink_after = next.sink }

  same_sink : (next : Place) → next.sink ≡ now.sink → HasWritten sink next.sink (outcome_lines to.outcomes)
  same_sink next same = subst (λ (s : SinkOf). HasWritten sink s (outcome_lines to.outcomes)) (sym same) to.written

  pub played_fault : (next : Place) (fault : ProgramFault) → IsLinePlayed line number now next (Err fault) → IsPlayed (here next) (Err fault)
  played_fault next (Script n) (is, none, folders, same) = record {
    before = to.before;
    line = line;
    behind = script_lines behind;
    lines = lines_here;
    number_is = is ∙ to.number_is;
    no_command = none;
    end = stage to.hub now.folders;
    bytes = outcome_lines to.outcomes;
    plays = record { outcomes = to.outcomes; plays = to.plays; bytes_are = refl };
    folders = folders;
    written = same_sink next same;
  }
  played_fault next Device h =
      let (c, is, bytes, comes, count, failed) = h to.hub to.stands in
      let front : List ℕ = outcome_lines to.outcomes in
      let text : take count bytes ≡ take count (outcome_line comes.outcome) = ap (take count) comes.text_is in record {
        before = to.before;
        line = line;
        behind = script_lines behind;
        lines = lines_here;
        between = stage to.hub now.folders;
        bytes = front;
        plays = record { outcomes = to.outcomes; plays = to.plays; bytes_are = refl };
        outcome = comes.outcome;
        end = stage comes.new next.folders;
        last = record { command = c; is = is; comes = comes.comes };
        folders = refl;
        count = count;
        failed = record {
          gained = Appends-trans sink.taken now.sink.taken next.sink.taken front (take count (outcome_line comes.outcome))
              to.written.gained (subst (λ (t : List ℕ). Appends now.sink.taken next.sink.taken t) text failed.gained);
          failed = rw to.written.failed at failed.failed;
        };
      }
  played_fault next NoMemory (same, may) = record {
    before = to.before;
    behind = line ∷ script_lines behind;
    lines = lines_here;
    end = stage to.hub now.folders;
    bytes = outcome_lines to.outcomes;
    plays = record { outcomes = to.outcomes; plays = to.plays; bytes_are = refl };
    folders = may;
    written = same_sink next same;
  }
  played_fault next (Folder fault) (name, asks, lacks, same) = record {
    before = to.before;
    line = line;
    behind = script_lines behind;
    lines = lines_here;
    folder = name;
    asks = asks;
    end = stage to.hub now.folders;
    bytes = outcome_lines to.outcomes;
    plays = record { outcomes = to.outcomes; plays = to.plays; bytes_are = refl };
    lacks = lacks;
    device = plays_device to.before start (stage to.hub now.folders) to.outcomes to.plays;
    written = same_sink next same;
  }
  played_fault next (Run fault) h = absurd h

-- nothing is left
pub played_all : {script : List ℕ} {start : Stage} {rest : List ℕ} {number : ℕ} {sink : SinkOf} {now : Place} → IsPlayedTo script start rest number sink now
    → script_lines rest ≡ []
    → IsPlayed (record { script = script; start = start; folders_after = now.folders; sink = sink; sink_after = now.sink }) (Ok tt)
played_all {script} {start} {now = now} to none =
    let all : to.before ≡ script_lines script =
    sym (append-nil to.before) ∙ ap (λ (ls : List (List ℕ)). to.before ++ ls) (sym none) ∙ sym to.lines in record {
      end = stage to.hub now.folders;
      bytes = outcome_lines to.outcomes;
      plays = record {
        outcomes = to.outcomes;
        plays = subst (λ (ls : List (List ℕ)). Plays ls start to.outcomes (stage to.hub now.folders)) all to.plays;
        bytes_are = refl;
      };
      folders = refl;
      written = to.written;
    }

-- ---- a script over a folder

may_load_none : (lines : List (List ℕ)) (old new : FoldersOf) → new ≡ old → MayLoadNext lines old new
may_load_none [] old new same = same
may_load_none (line ∷ lines) old new same = inl same

module _ (r : Replay) (catalog : CatalogOf) (folders : FoldersOf) (loaded : IsLoaded (loading r.name r.folders folders) catalog) where
  -- memory ran out before the first line
  pub lacks_hub : r.folders_after ≡ folders → r.sink_after ≡ r.sink → Replays r (Err NoMemory)
  lacks_hub still same = record {
    catalog = catalog;
    folders = folders;
    loaded = loaded;
    played = record {
      before = [];
      behind = script_lines r.script;
      lines = refl;
      end = stage (free_hub catalog) folders;
      bytes = [];
      plays = record { outcomes = []; plays = refl; bytes_are = refl };
      folders = may_load_none (script_lines r.script) folders r.folders_after still;
      written = subst (λ (s : SinkOf). HasWritten r.sink s []) (sym same) (no_lines r.sink);
    };
  }

  replays : (end : Result ⊤ ProgramFault) → IsPlayed (playing r (stage (free_hub catalog) folders)) end → Replays r end
  replays end played = record { catalog = catalog; folders = folders; loaded = loaded; played = played }

  pub is_replay : (end : Result ⊤ ProgramFault) → IsPlayed (playing r (stage (free_hub catalog) folders)) end → IsReplay r end
  is_replay (Ok u) played = replays (Ok u) played
  is_replay (Err (Folder fault)) played = inr (replays (Err (Folder fault)) played)
  is_replay (Err (Run fault)) played = replays (Err (Run fault)) played
  is_replay (Err (Script n)) played = replays (Err (Script n)) played
  is_replay (Err Device) played = replays (Err Device) played
  is_replay (Err NoMemory) played = replays (Err NoMemory) played
