-- How the steps of a run join.
use Rattle.std.proofs.Common.{◌≡◌, ◌+◌, ℕ, true, false, List, [], ◌++◌, length, take, Result, Ok, Err, refl, sym, ap, ◌∙◌, append-nil}
use Rattle.std.proofs.KnownBytes.{Appends-nil, Appends-trans, Consumes-nil, Consumes-trans, Consumes-kept}
use Rattle.std.specs.Io.KnownBytes.{Appends, Consumes, Keeps, IsAtEnd}
use Rattle.std.proofs.Math.Seq.{take-append-add}
use Rattle.http_heads.specs.Head.{HeadOf}
use Rattle.http_heads.specs.Laws.{OneCut, CutsJoin}
use Rattle.odata_http.specs.declared.answer.AnswerFault.{AnswerFault}
use Rattle.odata_http.specs.declared.answer.AnswerFault.TheVariants as answer
use Rattle.odata_http.specs.declared.runs.RunFault.{RunFault}
use Rattle.odata_http.specs.declared.runs.RunFault.TheVariants.{NoMemory, Read, Write, TooManyReads}
use Rattle.odata_http.specs.Device.{SourceOf, SinkOf, Counts}
use Rattle.odata_http.specs.Replies.{last_reply, IsCertain, IsFrontOfReplies}
use Rattle.odata_http.specs.Runs.{Course, course, HasMoved, HasEnded, Finishes, StopsReading, StopsWriting, StopsReplying}
use Rattle.odata_http.specs.RunFaults.{run_fault}
use Rattle.odata_http.specs.Answer.{HasWritten}
use Rattle.odata_http.proofs.RepliesLemmas.{all_join, closed_replies, ended_replies, first_certain, first_joins, certain_nothing}
use Rattle.odata_http.proofs.SinkLemmas.{IsPieceSent, IsRestSent}

-- ---- what is certain, and then a piece

front_joins : {R : HeadOf → List ℕ → Type 0} {s c r w : List ℕ} (p : List ℕ) → CutsJoin → IsCertain R s c r false → IsFrontOfReplies R (r ++ p) w false
    → IsFrontOfReplies R (s ++ p) (c ++ w) false
front_joins {R} {s} {c} {r} {w} p cuts x y = record {
  replies = c ++ y.replies;
  are = first_joins p cuts x y.are;
  count = length c + y.count;
  wrote_is = ap (λ (t : List ℕ). c ++ t) y.wrote_is ∙ sym (take-append-add c y.replies y.count);
}

-- a front of the reply to the rest
ended_front : {R : HeadOf → List ℕ → Type 0} {s c r : List ℕ} (n : ℕ) → IsCertain R s c r false
    → IsFrontOfReplies R s (c ++ take n (last_reply r)) true
ended_front {R} {s} {c} {r} n x = record {
  replies = c ++ last_reply r;
  are = (false, ended_replies x);
  count = length c + n;
  wrote_is = sym (take-append-add c (last_reply r) n);
}

-- ---- the states of a run

-- so far, all replies that are certain were written, and these bytes are the rest
pub record IsRunning (R : HeadOf → List ℕ → Type 0) (c : Course) (rest : List ℕ) : Type 0 where
  pub read : List ℕ
  pub wrote : List ℕ
  pub moved : HasMoved c read wrote
  pub certain : IsCertain R read wrote rest false
  pub over : HasEnded c false

-- and then this piece was read
pub record HasRead (R : HeadOf → List ℕ → Type 0) (c : Course) (rest piece : List ℕ) : Type 0 where
  pub read : List ℕ
  pub wrote : List ℕ
  pub moved : HasMoved c (read ++ piece) wrote
  pub certain : IsCertain R read wrote rest false
  pub over : HasEnded c false

-- or the end of the stream
pub record HasReadAll (R : HeadOf → List ℕ → Type 0) (c : Course) (rest : List ℕ) : Type 0 where
  pub read : List ℕ
  pub wrote : List ℕ
  pub moved : HasMoved c read wrote
  pub certain : IsCertain R read wrote rest false
  pub over : HasEnded c true

-- how a run ended for which no read failed and no limit was met
abbrev pub IsEnd : {A : Type 0} → (HeadOf → List ℕ → Type 0) → Course → Result A RunFault → Type 0
IsEnd R c (Ok x) = Finishes R c × (c.sink_after.failed_writes ≡ c.sink.failed_writes)
IsEnd R c (Err NoMemory) = StopsReplying R c × (c.sink_after.failed_writes ≡ c.sink.failed_writes)
IsEnd R c (Err Read) = ⊥
IsEnd R c (Err Write) = StopsWriting R c × Counts c.sink.failed_writes c.sink_after.failed_writes
IsEnd R c (Err TooManyReads) = ⊥

pub running_starts : (R : HeadOf → List ℕ → Type 0) → OneCut → (s : SourceOf) (k : SinkOf) → IsRunning R (course s s k k) []
running_starts R cuts s k = record {
  read = [];
  wrote = [];
  moved = record { lost = Consumes-nil s.left; gained = Appends-nil k.taken };
  certain = certain_nothing R cuts;
  over = refl;
}

pub running_stops : {R : HeadOf → List ℕ → Type 0} {c : Course} {rest : List ℕ} → IsRunning R c rest → StopsReading R c
running_stops {R} {c} {rest} x =
    record { read = x.read; wrote = x.wrote; rest = rest; moved = x.moved; certain = x.certain; over = x.over }

-- a read failed
pub running_fails : {R : HeadOf → List ℕ → Type 0} {s t u : SourceOf} {k l : SinkOf} {rest : List ℕ}
    → IsRunning R (course s t k l) rest → Keeps t.left u.left → u.ends ≡ t.ends → StopsReading R (course s u k l)
running_fails {R} {s} {t} {u} {k} {l} {rest} x keeps same = record {
  read = x.read;
  wrote = x.wrote;
  rest = rest;
  moved = record { lost = Consumes-kept s.left t.left u.left x.read x.moved.lost keeps; gained = x.moved.gained };
  certain = x.certain;
  over = same ∙ x.over;
}

pub running_reads : {R : HeadOf → List ℕ → Type 0} {s t u : SourceOf} {k l : SinkOf} {rest piece : List ℕ}
    → IsRunning R (course s t k l) rest → Consumes t.left u.left piece → u.ends ≡ t.ends → HasRead R (course s u k l) rest piece
running_reads {R} {s} {t} {u} {k} {l} {rest} {piece} x more same = record {
  read = x.read;
  wrote = x.wrote;
  moved = record { lost = Consumes-trans s.left t.left u.left x.read piece x.moved.lost more; gained = x.moved.gained };
  certain = x.certain;
  over = same ∙ x.over;
}

pub running_ends : {R : HeadOf → List ℕ → Type 0} {s t u : SourceOf} {k l : SinkOf} {rest : List ℕ}
    → IsRunning R (course s t k l) rest → Consumes t.left u.left [] → u.ends ≡ t.ends + 1 → IsAtEnd u.left
    → HasReadAll R (course s u k l) rest
running_ends {R} {s} {t} {u} {k} {l} {rest} x none more end = record {
  read = x.read;
  wrote = x.wrote;
  moved = record { lost = rw (append-nil x.read) at (Consumes-trans s.left t.left u.left x.read [] x.moved.lost none); gained = x.moved.gained };
  certain = x.certain;
  over = (more ∙ ap (λ (n : ℕ). n + 1) x.over, end);
}

-- ---- what the answers make of them

moved_more : {s t : SourceOf} {k l : SinkOf} {read wrote : List ℕ} (m : SinkOf) (more : List ℕ) → HasMoved (course s t k l) read wrote → Appends l.taken m.taken more
    → HasMoved (course s t k m) read (wrote ++ more)
moved_more {s} {t} {k} {l} {read} {wrote} m more x a =
    record { lost = x.lost; gained = Appends-trans k.taken l.taken m.taken wrote more x.gained a }

pub piece_open : {R : HeadOf → List ℕ → Type 0} {s t : SourceOf} {k l m : SinkOf} {rest piece kept : List ℕ} → CutsJoin
    → HasRead R (course s t k l) rest piece → IsPieceSent R (rest ++ piece) kept l m (Ok false)
    → IsRunning R (course s t k m) kept
piece_open {R} {s} {t} {k} {l} {m} {rest} {piece} {kept} cuts x a = record {
  read = x.read ++ piece;
  wrote = x.wrote ++ a.0;
  moved = moved_more m a.0 x.moved a.2.gained;
  certain = (all_join R cuts).certain x.read piece x.wrote a.0 rest kept false x.certain a.1;
  over = x.over;
}

pub piece_closed : {R : HeadOf → List ℕ → Type 0} {s t : SourceOf} {k l m : SinkOf} {rest piece kept : List ℕ} → CutsJoin
    → HasRead R (course s t k l) rest piece → IsPieceSent R (rest ++ piece) kept l m (Ok true)
    → l.failed_writes ≡ k.failed_writes → IsEnd {A = Unit {0}} R (course s t k m) (Ok tt)
piece_closed {R} {s} {t} {k} {l} {m} {rest} {piece} {kept} cuts x a same = (
  record {
    read = x.read ++ piece;
    wrote = x.wrote ++ a.0;
    closed = true;
    moved = moved_more m a.0 x.moved a.2.gained;
    replies = closed_replies ((all_join R cuts).certain x.read piece x.wrote a.0 rest kept true x.certain a.1);
    over = x.over;
  },
  a.2.failed ∙ same,
)

pub piece_fault : {R : HeadOf → List ℕ → Type 0} {s t : SourceOf} {k l : SinkOf} {rest piece : List ℕ} (kept : List ℕ) (m : SinkOf) (e : AnswerFault) → CutsJoin
    → HasRead R (course s t k l) rest piece → IsPieceSent R (rest ++ piece) kept l m (Err e)
    → l.failed_writes ≡ k.failed_writes → IsEnd {A = Unit {0}} R (course s t k m) (Err (run_fault e))
piece_fault {R} {s} {t} {k} {l} {rest} {piece} kept m answer.NoMemory cuts x a same = (
  record {
    read = x.read ++ piece;
    wrote = x.wrote ++ a.0;
    moved = moved_more m a.0 x.moved a.2.gained;
    first = first_joins piece cuts x.certain a.1;
  },
  a.2.failed ∙ same,
)
piece_fault {R} {s} {t} {k} {l} {rest} {piece} kept m answer.Write cuts x a same = (
  record {
    read = x.read ++ piece;
    wrote = x.wrote ++ a.0;
    ended = false;
    moved = moved_more m a.0 x.moved a.2.gained;
    front = front_joins piece cuts x.certain a.1;
    over = x.over;
  },
  rw same at a.2.failed,
)

-- the rest was answered
pub rest_over : {R : HeadOf → List ℕ → Type 0} {s t : SourceOf} {k l m : SinkOf} {rest : List ℕ}
    → HasReadAll R (course s t k l) rest → HasWritten l m (last_reply rest) → l.failed_writes ≡ k.failed_writes
    → IsEnd {A = Unit {0}} R (course s t k m) (Ok tt)
rest_over {R} {s} {t} {k} {l} {m} {rest} x sent same = (
  record {
    read = x.read;
    wrote = x.wrote ++ last_reply rest;
    closed = false;
    moved = moved_more m (last_reply rest) x.moved sent.gained;
    replies = ended_replies x.certain;
    over = x.over;
  },
  sent.failed ∙ same,
)

pub rest_fault : {R : HeadOf → List ℕ → Type 0} {s t : SourceOf} {k l : SinkOf} {rest : List ℕ} (m : SinkOf) (e : AnswerFault)
    → HasReadAll R (course s t k l) rest → IsRestSent rest l m (Err e) → l.failed_writes ≡ k.failed_writes
    → IsEnd {A = Unit {0}} R (course s t k m) (Err (run_fault e))
rest_fault {R} {s} {t} {k} {l} {rest} m answer.NoMemory x sent same = (
  record {
    read = x.read;
    wrote = x.wrote;
    moved = rw (append-nil x.wrote) at (moved_more m [] x.moved sent.gained);
    first = first_certain x.certain;
  },
  sent.failed ∙ same,
)
rest_fault {R} {s} {t} {k} {l} {rest} m answer.Write x sent same = (
  record {
    read = x.read;
    wrote = x.wrote ++ take sent.0 (last_reply rest);
    ended = true;
    moved = moved_more m (take sent.0 (last_reply rest)) x.moved sent.1.gained;
    front = ended_front sent.0 x.certain;
    over = x.over;
  },
  rw same at sent.1.failed,
)
