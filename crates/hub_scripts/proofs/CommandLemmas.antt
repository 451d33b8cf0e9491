-- What a command came to.
use Rattle.std.proofs.Common.{◌≡◌, ◌≢◌, ℕ, List, None, Result, Ok, Err, refl, sym, ap, subst, inl, inr}
use Rattle.std.specs.Prelude.{⊤, Vec}
use Rattle.event_scripts.specs.Command.{CommandOf}
use Rattle.event_scripts.specs.Command as command
use Rattle.hub_scripts.specs.Answers.{HubAnswers, answer_line}
use Rattle.table_store.specs.Catalog.{CatalogOf}
use Rattle.odata_hub.specs.declared.hub.Hub.{Hub}
use Rattle.odata_hub.specs.Connections.{Done}
use Rattle.odata_hub.specs.Schedules.{Event, HubOf, HubStep, Reload, reload}
use Rattle.odata_hub.specs.Stands.{IsHubStep, Models}
use Rattle.served_folders.specs.declared.folders.FolderFault.{FolderFault}
use Rattle.served_folders.specs.declared.folders.FolderFault.TheVariants as folder
use Rattle.exit_statuses.specs.declared.fault.ProgramFault.{ProgramFault}
use Rattle.exit_statuses.specs.declared.fault.ProgramFault.TheVariants.{Folder, Run, Script, Device, NoMemory}
use Rattle.served_folders.specs.Folders.{CountsFolderFault, FoldersOf, folder_cause}
use Rattle.served_folders.specs.Loads.{IsFolderFault, IsLoaded, loading}
use Rattle.hub_scripts.specs.Replay.{Stage, stage, Outcome, Happened, Kept, Comes, Happens, IsAnsweredInLine, IsKeptFolder, ComesTo}

-- what an outcome makes of the hub
abbrev pub StepOf : Stage → Outcome → Stage → Type 0
StepOf old (Happened happening) new = HubStep old.hub happening.event happening.answer new.hub
StepOf old (Kept fault) new = new.hub ≡ old.hub

pub comes_step : (c : CommandOf) (old : Stage) (outcome : Outcome) (new : Stage) → Comes c old outcome new → StepOf old outcome new
comes_step command.Open old outcome new h = subst (λ (o : Outcome). StepOf old o new) (sym h.outcome_is) h.step
comes_step (command.Piece place bytes) old outcome new h = subst (λ (o : Outcome). StepOf old o new) (sym h.outcome_is) h.step
comes_step (command.End place) old outcome new h = subst (λ (o : Outcome). StepOf old o new) (sym h.outcome_is) h.step
comes_step (command.Turn place) old outcome new h = subst (λ (o : Outcome). StepOf old o new) (sym h.outcome_is) h.step
comes_step (command.Take place room) old outcome new h = subst (λ (o : Outcome). StepOf old o new) (sym h.outcome_is) h.step
comes_step (command.Drop place) old outcome new h = subst (λ (o : Outcome). StepOf old o new) (sym h.outcome_is) h.step
comes_step (command.Reload name) old outcome new (inl h) = subst (λ (o : Outcome). StepOf old o new) (sym h.outcome_is) h.step
comes_step (command.Reload name) old outcome new (inr h) = subst (λ (o : Outcome). StepOf old o new) (sym h.outcome_is) h.hub

-- a refused folder is no failure of a device
kept_device : (fault : FolderFault) (old new : FoldersOf) → folder_cause fault ≢ None → CountsFolderFault {X = ⊤} old new (Err fault) → new.device ≡ old.device
kept_device folder.NoMetadata old new caused h = h.1
kept_device (folder.Load fault) old new caused h = h.1
kept_device folder.Device old new caused h = absurd (caused refl)
kept_device folder.NoMemory old new caused h = absurd (caused refl)

pub comes_device : (c : CommandOf) (old : Stage) (outcome : Outcome) (new : Stage) → Comes c old outcome new → new.folders.device ≡ old.folders.device
comes_device command.Open old outcome new h = ap (λ (f : FoldersOf). f.device) h.folders
comes_device (command.Piece place bytes) old outcome new h = ap (λ (f : FoldersOf). f.device) h.folders
comes_device (command.End place) old outcome new h = ap (λ (f : FoldersOf). f.device) h.folders
comes_device (command.Turn place) old outcome new h = ap (λ (f : FoldersOf). f.device) h.folders
comes_device (command.Take place room) old outcome new h = ap (λ (f : FoldersOf). f.device) h.folders
comes_device (command.Drop place) old outcome new h = ap (λ (f : FoldersOf). f.device) h.folders
comes_device (command.Reload name) old outcome new (inl h) = h.loaded.counts.1
comes_device (command.Reload name) old outcome new (inr h) = kept_device h.fault old.folders new.folders h.caused h.refused.counts

-- an event of the hub is what a command came to
pub comes_by : (c : CommandOf) (event : Event) (old new : Hub) (folders : FoldersOf) (h : HubOf)
    → ((outcome : Outcome) (s t : Stage) → Happens event s outcome t → s ≡ stage h folders → Comes c s outcome t) → (text : List ℕ)
    → HubAnswers event old new text → Models old h → ComesTo c (stage h folders) new folders text
comes_by c event old new folders h comes text answers stands =
    let next = answers.step h stands in record {
      outcome = Happened (record { event = event; answer = answers.answer });
      new = next.0;
      comes = comes _ _ _ (record { answer = answers.answer; step = next.1; outcome_is = refl; folders = refl }) refl;
      stands = next.2;
      text_is = answers.text_is;
    }

-- a folder was loaded again
pub reload_answers : (name : List ℕ) (old new : Hub) (before after : FoldersOf) (catalog : CatalogOf) → IsLoaded (loading name before after) catalog
    → IsHubStep old (Reload catalog) Done new → (text : List ℕ) → text ≡ answer_line Done
    → (h : HubOf) → Models old h → ComesTo (command.Reload name) (stage h before) new after text
reload_answers name old new before after catalog loaded step text is h stands =
    let next = step h stands in record {
      outcome = Happened (reload catalog);
      new = next.0;
      comes = inl (record { catalog = catalog; loaded = loaded; step = next.1; outcome_is = refl });
      stands = next.2;
      text_is = is;
    }

-- a folder is refused, or gave no catalog otherwise
pub kept_answers : {A : Type 0} (name : List ℕ) (hub : Hub) (before after : FoldersOf) (fault : FolderFault)
    → IsFolderFault (loading name before after) fault → (r : Result (Vec ℕ A) ProgramFault) → IsKeptFolder fault r
    → IsAnsweredInLine (command.Reload name) hub before hub after r
kept_answers name hub before after fault refused (Ok line) kept = λ h stands. record {
  outcome = Kept fault;
  new = h;
  comes = inr (record { fault = fault; refused = refused; caused = kept.0; outcome_is = refl; hub = refl });
  stands = stands;
  text_is = kept.1;
}
kept_answers name hub before after fault refused (Err NoMemory) kept = inr (name, refl, inr (fault, refused))
kept_answers name hub before after fault refused (Err (Folder same)) kept = (
  name,
  refl,
  record {
    load = subst (IsFolderFault (loading name before after)) (sym kept.0) refused;
    no_cause = subst (λ (f : FolderFault). folder_cause f ≡ None) (sym kept.0) kept.1;
  },
)
kept_answers name hub before after fault refused (Err Device) kept = absurd kept
kept_answers name hub before after fault refused (Err (Script n)) kept = absurd kept
kept_answers name hub before after fault refused (Err (Run run)) kept = absurd kept
