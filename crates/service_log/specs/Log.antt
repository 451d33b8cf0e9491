-- The lines that the service writes of itself.
use Rattle.std.specs.Prelude.{◌≡◌, ◌⊎◌, ℕ, ◌+◌, ◌-◌, min, nat_le, true, false, Bool, List, [], ◌∷◌, ◌++◌, Result, Ok, Err, codes}
use Rattle.std.specs.Fmt.{decimal}
use Rattle.exit_statuses.specs.Text.{fault_text}
use Rattle.exit_statuses.specs.declared.fault.ProgramFault.{ProgramFault}
use Rattle.service_log.specs.Lines.{AddsLine, LeavesLineOut}
use Rattle.service_log.specs.declared.lines.Lines.{Lines}
use Rattle.service_log.specs.declared.log.LoadSummary.{LoadSummary}
use Rattle.service_log.specs.declared.log.Log.{Log}
use Rattle.service_log.specs.declared.log.Tally.{Tally}
use Rattle.service_log.specs.declared.work.Work.{Work}
use Rattle.service_log.specs.Work.{work_after_minute, most_counted, no_work}
use Rattle.service_log.specs.declared.log.CloseReason.{CloseReason}
use Rattle.service_log.specs.declared.log.CloseReason.TheVariants.{Answered, Lost, Slow, TooLong, NoMemory}

-- a line of the log: a text, and a line feed
abbrev pub as_line : List ℕ → List ℕ
as_line text = text ++ codes "\n"

abbrev pub opened_text : ℕ → List ℕ
opened_text place = codes "opened " ++ decimal place

-- why a connection ended
abbrev pub reason_text : CloseReason → List ℕ
reason_text Answered = codes "answered"
reason_text Lost = codes "lost"
reason_text Slow = codes "slow"
reason_text TooLong = codes "too long"
reason_text NoMemory = codes "out of memory"

abbrev pub ended_text : ℕ → List ℕ → List ℕ
ended_text place reason = (codes "ended " ++ decimal place ++ codes " ") ++ reason

-- what was loaded anew, and how long that took
abbrev pub reloaded_text : LoadSummary → List ℕ
reloaded_text loaded = codes "reloaded " ++ decimal loaded.tables ++ codes " tables, " ++ decimal loaded.rows ++ codes " rows, "
    ++ decimal loaded.millis ++ codes " ms"

-- the connections that the service has, and those that it opened
abbrev pub counts_text : Tally → List ℕ
counts_text tally = codes "minute: " ++ decimal tally.places ++ codes " places, " ++ decimal tally.opened ++ codes " " ++ codes "opened"

-- what it sent in the minute, and its longest turn
abbrev pub sent_text : Work → List ℕ
sent_text work = codes ", " ++ decimal work.requests ++ codes " requests, " ++ decimal work.bytes ++ codes " " ++ codes "bytes"

abbrev pub longest_text : Work → List ℕ
longest_text work = codes ", longest turn " ++ decimal work.longest ++ codes " " ++ codes "us"

-- how often it reloaded, and how old its tables are
abbrev pub age_text : Tally → List ℕ
age_text tally = codes ", " ++ decimal tally.reloads ++ codes " reloads, " ++ decimal tally.age ++ codes " " ++ codes "s old"

-- what the service counts of itself
abbrev pub minute_text : Tally → List ℕ
minute_text tally = ((counts_text tally ++ sent_text tally.work) ++ longest_text tally.work) ++ age_text tally

-- a text, or if that is empty the one for a device and for memory that ran out
abbrev pub or_unknown : List ℕ → List ℕ
or_unknown [] = codes "not reloaded: a device failed or memory ran out"
or_unknown (b ∷ text) = b ∷ text

-- a changed folder that was not loaded: the text of its fault
abbrev pub refused_text : ProgramFault → List ℕ
refused_text fault = or_unknown (fault_text fault)

-- the line waits after all others, or is counted as left out
abbrev pub TakesLine : List ℕ → Lines → Lines → Type 0
TakesLine text old new = AddsLine (as_line text) old new ⊎ LeavesLineOut old new

-- what becomes of a log's lines, by whether it takes some
abbrev pub LogsIf : Bool → List ℕ → Lines → Lines → Type 0
LogsIf true text old new = TakesLine text old new
LogsIf false text old new = new ≡ old

-- ---- what is counted

abbrev pub no_tally : Tally
no_tally = record { places = 0; opened = 0; work = no_work; reloads = 0; age = 0 }

abbrev pub tally_after_open : Tally → Tally
tally_after_open tally = record tally { places = min (tally.places + 1) most_counted; opened = min (tally.opened + 1) most_counted }

abbrev pub tally_after_end : Tally → Tally
tally_after_end tally = record tally { places = tally.places - 1 }

-- the tables are new
abbrev pub tally_after_reload : Tally → Tally
tally_after_reload tally = record tally { reloads = min (tally.reloads + 1) most_counted; age = 0 }

-- the tables are `age` seconds old
abbrev pub aged : ℕ → Tally → Tally
aged age tally = record tally { age = age }

abbrev pub next_minute : Tally → Tally
next_minute tally = record tally { work = work_after_minute tally.work }

-- ---- what is logged

-- a text is logged, and this is counted, in the minute that began at this age of the tables
pub record Logs (text : List ℕ) (tally : Tally) (minute : ℕ) (old new : Log) : Type 0 where
  pub lines : LogsIf old.writes text old.lines new.lines
  pub writes : new.writes ≡ old.writes
  pub tally_is : new.tally ≡ tally
  pub minute_is : new.minute ≡ minute

-- nothing is logged, and this is counted, in the same minute
pub record CountsAlone (tally : Tally) (old new : Log) : Type 0 where
  pub lines : new.lines ≡ old.lines
  pub writes : new.writes ≡ old.writes
  pub tally_is : new.tally ≡ tally
  pub minute_is : new.minute ≡ old.minute

-- a folder that was reloaded is logged, and its tables begin a minute; of one that was not nothing is
abbrev pub LogsReload : Result LoadSummary ProgramFault → Log → Log → Type 0
LogsReload (Ok loaded) old new = Logs (reloaded_text loaded) (tally_after_reload old.tally) 0 old new
LogsReload (Err fault) old new = new ≡ old

-- what is counted is logged where a minute is over, and the next one begins
abbrev pub LogsIfOver : Bool → ℕ → Log → Log → Type 0
LogsIfOver true age old new = Logs (minute_text (aged age old.tally)) (next_minute (aged age old.tally)) age old new
LogsIfOver false age old new = CountsAlone (aged age old.tally) old new

-- the tables are of some age, which tells whether a minute is over; or no clock tells it
abbrev pub LogsMinute : Log → Log → Type 0
LogsMinute old new = ((age : ℕ) × LogsIfOver (nat_le 60 (age - old.minute)) age old new) ⊎ (new ≡ old)
