use Rattle.std.proofs.Common.{◌≡◌, ℕ, List, ap, codes, inl, inr, refl}
use Rattle.text_escapes.specs.Laws.{IsOneLine}
use Rattle.event_scripts.specs.Answers.{line_of}
use Rattle.event_scripts.specs.Command as command
use Rattle.exit_statuses.specs.declared.fault.ProgramFault.TheVariants.{Folder}
use Rattle.exit_statuses.specs.Laws.{FaultsAreOneLine}
use Rattle.exit_statuses.specs.Text.{fault_text}
use Rattle.hub_scripts.specs.Replay.{Comes, Outcome, Stage, outcome_line}
use Rattle.hub_scripts.proofs.replay.reloads_are_one_line.Goals as goal

reload_line : FaultsAreOneLine → (folder : List ℕ) (old new : Stage) (outcome : Outcome) → Comes (command.Reload folder) old outcome new
    → (text : List ℕ) × (outcome_line outcome ≡ line_of text) × IsOneLine text
reload_line lines folder old new outcome (inl h) = (codes "ok", ap outcome_line h.outcome_is, lines.printable (codes "ok") refl)
reload_line lines folder old new outcome (inr h) =
    (fault_text (Folder h.fault), ap outcome_line h.outcome_is, lines.texts (new.folders.took folder) (Folder h.fault) h.refused.cause)

pub returns : goal.returns
returns c = reload_line c.faults_are_one_line.ensures
