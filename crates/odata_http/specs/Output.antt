-- What waits to be taken.
use Rattle.std.specs.Prelude.{◌≡◌, ℕ, List, ◌++◌, Result, Ok, Err, ⊤}
use Rattle.odata_http.specs.declared.answer.AnswerFault.{AnswerFault}
use Rattle.odata_http.specs.declared.answer.AnswerFault.TheVariants.{NoMemory, Write}

-- a reply was added, or nothing of it where memory ran out
abbrev pub IsAddedReply : List ℕ → List ℕ → Result ⊤ AnswerFault → List ℕ → Type 0
IsAddedReply old reply (Ok u) new = new ≡ old ++ reply
IsAddedReply old reply (Err NoMemory) new = new ≡ old
IsAddedReply old reply (Err Write) new = ⊥
