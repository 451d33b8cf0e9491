-- What the contract of a run says at each of its ends.
use Rattle.std.proofs.Common.{◌≡◌, ◌+◌, ◌^◌, ◌<◌, ◌≤◌, ◌≢◌, ◌&&◌, ◌==◌, nat_lt, MatchBool, inl, inr, ℕ, Bool, true, false, List, [], ◌++◌, length, Option, Some, None, Result, Ok, Err, refl, sym, ap, ◌∙◌, subst, arith, append-nil}
use Rattle.std.specs.Io.KnownBytes.{Consumes, IsAtEnd}
use Rattle.std.proofs.lemmas.Bool.{cases_Bool}
use Rattle.std.proofs.lemmas.Bool.Decides.{nat_tests}
use Rattle.odata_http.specs.declared.runs.RunFault.{RunFault}
use Rattle.odata_http.specs.declared.runs.RunFault.TheVariants.{NoMemory, Read, Write, TooManyReads}
use Rattle.odata_http.specs.Device.{Counts}
use Rattle.http_heads.specs.Head.{HeadOf}
use Rattle.odata_http.specs.Replies.{AreReplies}
use Rattle.odata_http.specs.Laws.{Joins}
use Rattle.odata_http.specs.Runs.{Course, HasEnded, Finishes, StopsReading, AnswersWhole, IsRun}
use Rattle.odata_http.proofs.RunLemmas.{IsEnd}

-- ---- the whole stream

-- the replies of what was read are those of the stream: all of it was read, or a reply closed
whole_replies : (R : HeadOf → List ℕ → Type 0) → Joins R → (left after : Option (List ℕ)) (read wrote stream : List ℕ) (closed : Bool) → left ≡ Some stream
    → Consumes left after read → (closed ≡ false → IsAtEnd after) → AreReplies R read wrote closed → AreReplies R stream wrote closed
whole_replies R j None after read wrote stream closed e lost end x = absurd (cc)
whole_replies R j (Some xs) None read wrote stream closed e lost end x = absurd lost
whole_replies R j (Some xs) (Some ys) read wrote stream true e lost end x =
    let P : List ℕ → Type 0 = λ s. AreReplies R s wrote true in
    let same : xs ≡ stream = cc in
    subst P (sym lost ∙ same) (j.replies_closed read ys wrote x)
whole_replies R j (Some xs) (Some ys) read wrote stream false e lost end x =
    let P : List ℕ → Type 0 = λ s. AreReplies R s wrote false in
    let same : xs ≡ stream = cc in
    let none : ys ≡ [] = end refl in
    subst P (sym (append-nil read) ∙ ap (λ rest. read ++ rest) (sym none) ∙ sym lost ∙ same) x

ended_left : (c : Course) (closed : Bool) → MatchBool closed (HasEnded c false) (HasEnded c true) → closed ≡ false → IsAtEnd c.source_after.left
ended_left c true over e = absurd (cc)
ended_left c false over e = over.1

finishes_all : (R : HeadOf → List ℕ → Type 0) → Joins R → (c : Course) → Finishes R c → (stream : List ℕ) → c.source.left ≡ Some stream → AnswersWhole R c stream
finishes_all R j c x stream e = record {
  wrote = x.wrote;
  closed = x.closed;
  replies = whole_replies R j c.source.left c.source_after.left x.read x.wrote stream x.closed e x.moved.lost (ended_left c x.closed x.over) x.replies;
  gained = x.moved.gained;
}

-- ---- the ends

pub end_run : {R : HeadOf → List ℕ → Type 0} {limit : ℕ} {c : Course} → Joins R → (r : Result (Unit {0}) RunFault) → IsEnd R c r
    → c.sink.failed_writes < 2 ^ 63 → c.source_after.failed_reads ≡ c.source.failed_reads → c.source_after.reads ≤ c.source.reads + limit
    → IsRun R limit c r
end_run {R} {limit} {c} j (Ok u) x small same within = record {
  whole = finishes_all R j c x.0;
  ok = x.0;
  read_failed = ((λ e. absurd (cc)), (λ less. absurd (omega (arith, less, same))));
  write_failed = ((λ e. absurd (cc)), (λ less. let kept : c.sink_after.failed_writes ≡ c.sink.failed_writes = x.1 in absurd (omega (arith, less, kept))));
  read = λ e. absurd (cc);
  write = λ e. absurd (cc);
  too_many_reads = λ e. absurd (cc);
  limit_met = λ e. absurd (cc);
  no_memory = λ e. absurd (cc);
  reads = within;
}
end_run {R} {limit} {c} j (Err NoMemory) x small same within = record {
  whole = tt;
  ok = tt;
  read_failed = ((λ e. absurd (cc)), (λ less. absurd (omega (arith, less, same))));
  write_failed = ((λ e. absurd (cc)), (λ less. let kept : c.sink_after.failed_writes ≡ c.sink.failed_writes = x.1 in absurd (omega (arith, less, kept))));
  read = λ e. absurd (cc);
  write = λ e. absurd (cc);
  too_many_reads = λ e. absurd (cc);
  limit_met = λ e. absurd (cc);
  no_memory = λ e. x.0;
  reads = within;
}
end_run {R} {limit} {c} j (Err Read) x small same within = absurd x
end_run {R} {limit} {c} j (Err Write) x small same within = record {
  whole = tt;
  ok = tt;
  read_failed = ((λ e. absurd (cc)), (λ less. absurd (omega (arith, less, same))));
  write_failed = (
    (λ e. let more : c.sink_after.failed_writes ≡ c.sink.failed_writes + 1 = x.1 (omega (arith, small)) in omega (arith, more)),
    (λ less. refl),
  );
  read = λ e. absurd (cc);
  write = λ e. x.0;
  too_many_reads = λ e. absurd (cc);
  limit_met = λ e. absurd (cc);
  no_memory = λ e. absurd (cc);
  reads = within;
}
end_run {R} {limit} {c} j (Err TooManyReads) x small same within = absurd x

pub read_fault_run : {R : HeadOf → List ℕ → Type 0} {limit : ℕ} {c : Course} → StopsReading R c
    → c.source.failed_reads < 2 ^ 63 → Counts c.source.failed_reads c.source_after.failed_reads
    → c.sink_after.failed_writes ≡ c.sink.failed_writes → c.source_after.reads ≤ c.source.reads + limit → IsRun R limit c (Err Read)
read_fault_run {R} {limit} {c} x small counts same within = record {
  whole = tt;
  ok = tt;
  read_failed = (
    (λ e. let more : c.source_after.failed_reads ≡ c.source.failed_reads + 1 = counts (omega (arith, small)) in omega (arith, more)),
    (λ less. refl),
  );
  write_failed = ((λ e. absurd (cc)), (λ less. absurd (omega (arith, less, same))));
  read = λ e. x;
  write = λ e. absurd (cc);
  too_many_reads = λ e. x;
  limit_met = λ e. absurd (cc);
  no_memory = λ e. absurd (cc);
  reads = within;
}

pub limit_run : {R : HeadOf → List ℕ → Type 0} {limit : ℕ} {c : Course} → StopsReading R c → c.source_after.failed_reads ≡ c.source.failed_reads
    → c.sink_after.failed_writes ≡ c.sink.failed_writes → c.source_after.reads ≡ c.source.reads + limit → IsRun R limit c (Err TooManyReads)
limit_run {R} {limit} {c} x same_reads same met = record {
  whole = tt;
  ok = tt;
  read_failed = ((λ e. absurd (cc)), (λ less. absurd (omega (arith, less, same_reads))));
  write_failed = ((λ e. absurd (cc)), (λ less. absurd (omega (arith, less, same))));
  read = λ e. x;
  write = λ e. absurd (cc);
  too_many_reads = λ e. x;
  limit_met = λ e. met;
  no_memory = λ e. absurd (cc);
  reads = omega (arith, met);
}

-- ---- what a read says

-- a turn made one read
pub turn_read : (n m m' turn limit : ℕ) → n < 2 ^ 63 → limit < 2 ^ 32 → turn < limit → m ≡ n + turn → Counts m m'
    → (m' ≡ n + (turn + 1)) × (m' ≤ n + limit)
turn_read n m m' turn limit small few before so_far counts =
    let more : m' ≡ m + 1 = counts (omega (arith, small, few, before, so_far)) in
    (omega (arith, more, so_far), omega (arith, more, so_far, before))

-- the end of the stream was read
pub read_end : (n : ℕ) (buf : List ℕ) (a b : ℕ) → n ≡ 0 → 0 < length buf → a < 2 ^ 63
    → MatchBool ((n == 0) && nat_lt 0 (length buf)) (Counts a b) (b ≡ a) → b ≡ a + 1
read_end n buf a b none room small m = elim (cases_Bool ((n == 0) && nat_lt 0 (length buf))) [
  | inl holds ↦ let P : Bool → Type 0 = λ v. MatchBool v (Counts a b) (b ≡ a) in
      let counts : Counts a b = subst P holds m in counts (omega (arith, small))
  | inr breaks ↦ absurd (grind (arith, nat_tests, breaks, none, room))
]

-- bytes were read
pub read_more : (n : ℕ) (buf : List ℕ) (a b : ℕ) → n ≢ 0
    → MatchBool ((n == 0) && nat_lt 0 (length buf)) (Counts a b) (b ≡ a) → b ≡ a
read_more n buf a b some m = elim (cases_Bool ((n == 0) && nat_lt 0 (length buf))) [
  | inl holds ↦ absurd (grind (arith, nat_tests, holds, some))
  | inr breaks ↦ let P : Bool → Type 0 = λ v. MatchBool v (Counts a b) (b ≡ a) in subst P breaks m
]
