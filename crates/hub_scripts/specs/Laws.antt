-- What holds of what a script prints.
use Rattle.std.specs.Prelude.{◌≡◌, ℕ, List}
use Rattle.text_escapes.specs.Laws.{IsOneLine}
use Rattle.event_scripts.specs.Answers.{line_of}
use Rattle.event_scripts.specs.Command as command
use Rattle.hub_scripts.specs.Replay.{Comes, Outcome, Stage, outcome_line}

-- what a folder comes to that a script asks for is printed as one line, whatever its metadata has
abbrev pub ReloadsAreOneLine : Type 0
ReloadsAreOneLine = (folder : List ℕ) (old new : Stage) (outcome : Outcome) → Comes (command.Reload folder) old outcome new
    → (text : List ℕ) × (outcome_line outcome ≡ line_of text) × IsOneLine text
