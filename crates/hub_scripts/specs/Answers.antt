-- What is printed of an answer of the hub: one line.
use Rattle.std.specs.Prelude.{◌≡◌, ℕ, List, codes}
use Rattle.event_scripts.specs.Answers.{bytes_text, line_of, place_text, text_of_refusal}
use Rattle.odata_hub.specs.declared.answers.HubFault.{HubFault}
use Rattle.odata_hub.specs.declared.answers.HubFault.TheVariants as hub
use Rattle.odata_hub.specs.declared.answers.Turned.TheVariants.{Idle, Worked}
use Rattle.odata_hub.specs.declared.hub.Hub.{Hub}
use Rattle.odata_hub.specs.Connections.{Answer, Done, Opened, Went, Gave, Refused}
use Rattle.odata_hub.specs.Schedules.{Event}
use Rattle.odata_hub.specs.Stands.{IsHubStep}

abbrev pub hub_fault_name : HubFault → List ℕ
hub_fault_name hub.Full = codes "Full"
hub_fault_name hub.NoSuchConnection = codes "NoSuchConnection"
hub_fault_name hub.Ended = codes "Ended"
hub_fault_name hub.Failed = codes "Failed"
hub_fault_name hub.NoMemory = codes "NoMemory"

-- the place that was opened; whether a turn found something to do; the number of the bytes that were taken, and these as they stand in a
-- script; why the hub refuses
abbrev pub answer_text : Answer → List ℕ
answer_text Done = codes "ok"
answer_text (Opened place) = place_text place
answer_text (Went Worked) = codes "worked"
answer_text (Went Idle) = codes "idle"
answer_text (Gave bytes) = bytes_text bytes
answer_text (Refused fault) = text_of_refusal (hub_fault_name fault)

abbrev pub answer_line : Answer → List ℕ
answer_line answer = line_of (answer_text answer)

-- the hub answered an event, and this is the line of the answer
pub record HubAnswers (event : Event) (old new : Hub) (text : List ℕ) : Type 0 where
  pub answer : Answer
  pub step : IsHubStep old event answer new
  pub text_is : text ≡ answer_line answer
