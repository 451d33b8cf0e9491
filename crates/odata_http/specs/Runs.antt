-- What a run over devices read and wrote, by how it ended.
use Rattle.std.specs.Prelude.{◌≡◌, ◌↔◌, ℕ, ◌+◌, ◌<◌, ◌≤◌, Bool, true, false, List, Some, Result, Err, ⊤, OnOk, MatchBool}
use Rattle.std.specs.Io.KnownBytes.{Appends, Consumes, IsAtEnd}
use Rattle.odata_http.specs.declared.runs.RunFault.{RunFault}
use Rattle.odata_http.specs.declared.runs.RunFault.TheVariants.{NoMemory, Read, Write, TooManyReads}
use Rattle.odata_http.specs.Device.{SourceOf, SinkOf}
use Rattle.http_heads.specs.Head.{HeadOf}
use Rattle.odata_http.specs.Replies.{IsCertain, AreReplies, AreFirstReplies, IsFrontOfReplies}

-- a source and a sink, before and after a call
pub record Course : Type 0 where
  pub source : SourceOf
  pub source_after : SourceOf
  pub sink : SinkOf
  pub sink_after : SinkOf

abbrev pub course : SourceOf → SourceOf → SinkOf → SinkOf → Course
course source source_after sink sink_after = record {
  source = source;
  source_after = source_after;
  sink = sink;
  sink_after = sink_after;
}

-- these bytes were read and those written
pub record HasMoved (c : Course) (read wrote : List ℕ) : Type 0 where
  pub lost : Consumes c.source.left c.source_after.left read
  pub gained : Appends c.sink.taken c.sink_after.taken wrote

-- the end of the stream was reported, or it was not
abbrev pub HasEnded : Course → Bool → Type 0
HasEnded c ended = MatchBool ended
    ((c.source_after.ends ≡ c.source.ends + 1) × IsAtEnd c.source_after.left)
    (c.source_after.ends ≡ c.source.ends)

-- A reply closed, or the end of the stream was read; what was written is the replies of what was read.
pub record Finishes (R : HeadOf → List ℕ → Type 0) (c : Course) : Type 0 where
  pub read : List ℕ
  pub wrote : List ℕ
  pub closed : Bool
  pub moved : HasMoved c read wrote
  pub replies : AreReplies R read wrote closed
  pub over : MatchBool closed (HasEnded c false) (HasEnded c true)

-- No end of the stream was read and no reply closed; what was written is the replies that are certain after what was read.
pub record StopsReading (R : HeadOf → List ℕ → Type 0) (c : Course) : Type 0 where
  pub read : List ℕ
  pub wrote : List ℕ
  pub rest : List ℕ
  pub moved : HasMoved c read wrote
  pub certain : IsCertain R read wrote rest false
  pub over : HasEnded c false

-- What was written is a front of the replies of what was read, with none to a rest unless the end was read.
pub record StopsWriting (R : HeadOf → List ℕ → Type 0) (c : Course) : Type 0 where
  pub read : List ℕ
  pub wrote : List ℕ
  pub ended : Bool
  pub moved : HasMoved c read wrote
  pub front : IsFrontOfReplies R read wrote ended
  pub over : HasEnded c ended

-- What was written is some of the first replies of what was read, each of them whole.
pub record StopsReplying (R : HeadOf → List ℕ → Type 0) (c : Course) : Type 0 where
  pub read : List ℕ
  pub wrote : List ℕ
  pub moved : HasMoved c read wrote
  pub first : AreFirstReplies R read wrote

-- What was written is the replies of the whole stream that the source held.
pub record AnswersWhole (R : HeadOf → List ℕ → Type 0) (c : Course) (stream : List ℕ) : Type 0 where
  pub wrote : List ℕ
  pub closed : Bool
  pub replies : AreReplies R stream wrote closed
  pub gained : Appends c.sink.taken c.sink_after.taken wrote

-- How a run of at most `limit` reads ended. `Read` and `Write` come exactly where a read or a write failed.
pub record IsRun (R : HeadOf → List ℕ → Type 0) (limit : ℕ) (c : Course) (r : Result ⊤ RunFault) : Type 0 where
  pub whole : OnOk r ((stream : List ℕ) → c.source.left ≡ Some stream → AnswersWhole R c stream)
  pub ok : OnOk r (Finishes R c)
  pub read_failed : (r ≡ Err Read) ↔ (c.source.failed_reads < c.source_after.failed_reads)
  pub write_failed : (r ≡ Err Write) ↔ (c.sink.failed_writes < c.sink_after.failed_writes)
  pub read : r ≡ Err Read → StopsReading R c
  pub write : r ≡ Err Write → StopsWriting R c
  pub too_many_reads : r ≡ Err TooManyReads → StopsReading R c
  pub limit_met : r ≡ Err TooManyReads → c.source_after.reads ≡ c.source.reads + limit
  pub no_memory : r ≡ Err NoMemory → StopsReplying R c
  pub reads : c.source_after.reads ≤ c.source.reads + limit
