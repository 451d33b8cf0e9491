-- What holds of the lines that the service writes of itself.
use Rattle.std.specs.Prelude.{◌≡◌, ℕ, Option, true, false, codes}
use Rattle.text_escapes.specs.Laws.{IsOneLine}
use Rattle.table_store.specs.Catalog.{FolderOf}
use Rattle.exit_statuses.specs.declared.fault.ProgramFault.{ProgramFault}
use Rattle.exit_statuses.specs.Laws.{IsMet}
use Rattle.service_log.specs.declared.log.CloseReason.{CloseReason}
use Rattle.service_log.specs.declared.log.LoadSummary.{LoadSummary}
use Rattle.service_log.specs.declared.log.Tally.{Tally}
use Rattle.service_log.specs.declared.work.Work.{Work}
use Rattle.service_log.specs.Work.{work_after_charge, work_after_minute, work_after_send, work_after_turn, no_work}
use Rattle.service_log.specs.Log.{ended_text, minute_text, opened_text, refused_text, reloaded_text, reason_text}

-- each line that the service tells of itself is one line, whatever the metadata has
pub record TellsLines : Type 0 where
  pub opened : (place : ℕ) → IsOneLine (opened_text place)
  pub ended : (place : ℕ) (reason : CloseReason) → IsOneLine (ended_text place (reason_text reason))
  pub reloaded : (loaded : LoadSummary) → IsOneLine (reloaded_text loaded)
  pub minute : (tally : Tally) → IsOneLine (minute_text tally)
  pub refused : (taken : Option FolderOf) (fault : ProgramFault) → IsMet taken fault → IsOneLine (refused_text fault)

-- what was done of two requests: of one the reply is sent at twice, of the other a part
abbrev pub two_sent : Work
two_sent = work_after_send 30 true (work_after_send 0 false (work_after_send 50 false (work_after_send 100 true no_work)))

-- two turns: of 300 and 200 microseconds, and of 400
abbrev pub two_turns : Work
two_turns = work_after_turn (work_after_charge 400 (work_after_turn (work_after_charge 200 (work_after_charge 300 no_work))))

pub record WorkedMinute : Type 0 where
  -- one request was answered, and 180 bytes were sent
  pub sent : two_sent ≡ record { requests = 1; bytes = 180; turn = 0; longest = 0 }
  -- the longest turn took 500 microseconds
  pub turns : two_turns ≡ record { requests = 0; bytes = 0; turn = 0; longest = 500 }
  -- the next minute begins with nothing
  pub next : work_after_minute (record { requests = 1; bytes = 180; turn = 0; longest = 500 }) ≡ no_work
  pub line : minute_text (record { places = 3; opened = 17; work = record { requests = 1_204; bytes = 380_291; turn = 0; longest = 5_230 }; reloads = 2; age = 61 })
      ≡ codes "minute: 3 places, 17 opened, 1204 requests, 380291 bytes, longest turn 5230 us, 2 reloads, 61 s old"
