-- What serving connections wrote to the program's own output, and how many it answered, by how it ended.
use Rattle.std.specs.Prelude.{◌≡◌, ◌⊎◌, ◌<◌, ◌+◌, ◌^◌, ℕ, List, ◌++◌, ◌∷◌, [], Some, codes, take, Result, Ok, Err, ⊤}
use Rattle.std.specs.Fmt.{decimal}
use Rattle.odata_http.specs.Device.{SinkOf, Counts}
use Rattle.odata_http.specs.Answer.{HasWritten, HasFailed}
use Rattle.exit_statuses.specs.declared.fault.ProgramFault.{ProgramFault}
use Rattle.exit_statuses.specs.declared.fault.ProgramFault.TheVariants.{Device, NoMemory}
use Rattle.odata_serve.specs.Listener.{ListenerOf}

-- a listener and a sink, before and after a call
pub record Serving : Type 0 where
  pub listener : ListenerOf
  pub listener_after : ListenerOf
  pub sink : SinkOf
  pub sink_after : SinkOf

abbrev pub serving : ListenerOf → ListenerOf → SinkOf → SinkOf → Serving
serving listener listener_after sink sink_after = record {
  listener = listener;
  listener_after = listener_after;
  sink = sink;
  sink_after = sink_after;
}

-- the line that tells a port
abbrev pub port_line : ℕ → List ℕ
port_line port = codes "listening 127.0.0.1:" ++ decimal port ++ 10 ∷ []

-- the line of the listener's port was written, and nothing else
abbrev pub TellsPort : Serving → Type 0
TellsPort s = (port : ℕ) × (s.listener_after.port ≡ Some port) × (port < 2 ^ 16) × HasWritten s.sink s.sink_after (port_line port)

-- a front of the line of the listener's port was written, and then a write failed
abbrev pub FailsToTell : Serving → Type 0
FailsToTell s = (port : ℕ) × (s.listener_after.port ≡ Some port) × (n : ℕ) × HasFailed s.sink s.sink_after (take n (port_line port))

-- `connections` connections were answered, if the count was not full
abbrev pub CountsAnswers : ℕ → ListenerOf → ListenerOf → Type 0
CountsAnswers n old new = old.answered + n < 2 ^ 64 → new.answered ≡ old.answered + n

-- fewer connections than that were answered
abbrev pub AnswersFewer : ℕ → ListenerOf → ListenerOf → Type 0
AnswersFewer most old new = (n : ℕ) × (n < most) × CountsAnswers n old new

-- how answering `connections` connections in turn ended
abbrev pub AnswersInTurn : ℕ → ListenerOf → ListenerOf → Result ⊤ ProgramFault → Type 0
AnswersInTurn connections old new (Ok u) = CountsAnswers connections old new × (new.failed ≡ old.failed)
AnswersInTurn connections old new (Err Device) = AnswersFewer connections old new × Counts old.failed new.failed
AnswersInTurn connections old new (Err NoMemory) = AnswersFewer connections old new × (new.failed ≡ old.failed)
AnswersInTurn connections old new r = ⊥

-- no connection was answered, and no call of the listener failed
abbrev pub IsIdle : Serving → Type 0
IsIdle s = (s.listener_after.answered ≡ s.listener.answered) × (s.listener_after.failed ≡ s.listener.failed)

-- the listener did not tell its port, and nothing was written
abbrev pub HasNoPort : Serving → Type 0
HasNoPort s = (s.sink_after ≡ s.sink) × (s.listener_after.answered ≡ s.listener.answered) × Counts s.listener.failed s.listener_after.failed

-- how telling the port ended
abbrev pub IsTold : Serving → Result ⊤ ProgramFault → Type 0
IsTold s (Ok u) = TellsPort s × IsIdle s
IsTold s (Err Device) = HasNoPort s ⊎ (FailsToTell s × IsIdle s)
IsTold s (Err NoMemory) = (s.sink_after ≡ s.sink) × IsIdle s
IsTold s r = ⊥

-- How serving `connections` connections ended: before the port was printed, or after its line.
abbrev pub IsServed : ℕ → Serving → Result ⊤ ProgramFault → Type 0
IsServed connections s (Ok u) = TellsPort s × AnswersInTurn connections s.listener s.listener_after (Ok u)
IsServed connections s (Err fault) = IsTold s (Err fault) ⊎ (TellsPort s × AnswersInTurn connections s.listener s.listener_after (Err fault))
