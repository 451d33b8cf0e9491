-- What devices tell of their bytes, and what they count.
use Rattle.std.specs.Prelude.{◌≡◌, ℕ, ◌+◌, ◌-◌, ◌^◌, ◌<◌, ◌&&◌, ◌==◌, List, length, nat_lt, Option, Result, MatchResult, MatchBool, IfOk}

-- a source: the bytes that are left, where it tells them; how many reads there were, how many told the end, and how many failed
pub record SourceOf : Type 0 where
  pub left : Option (List ℕ)
  pub reads : ℕ
  pub ends : ℕ
  pub failed_reads : ℕ

-- a sink: the bytes that it took, where it tells them; and how many writes failed
pub record SinkOf : Type 0 where
  pub taken : Option (List ℕ)
  pub failed_writes : ℕ

-- a count of 64 bits went up by one, where it was not full
abbrev pub Counts : ℕ → ℕ → Type 0
Counts old new = old < 2 ^ 64 - 1 → new ≡ old + 1

-- a failure was counted at an `Err`, and none at an `Ok`
abbrev pub CountsFailure : {X E : Type 0} → ℕ → ℕ → Result X E → Type 0
CountsFailure old new r = MatchResult r (λ _. new ≡ old) (λ _. Counts old new)

-- an end was counted where no byte came into a buffer with room, and at no other answer
abbrev pub CountsEnd : {E : Type 0} → ℕ → ℕ → Result ℕ E → List ℕ → Type 0
CountsEnd old new r buf = MatchResult r (λ n. MatchBool ((n == 0) && nat_lt 0 (length buf)) (Counts old new) (new ≡ old)) (λ _. new ≡ old)

-- some of a nonempty piece was taken
abbrev pub TakesSome : {E : Type 0} → List ℕ → Result ℕ E → Type 0
TakesSome bytes r = IfOk r (λ n. 0 < length bytes → 0 < n)

-- so little was counted that no count of a run comes to its end
pub record CountsFit (source : SourceOf) (sink : SinkOf) : Type 0 where
  pub reads : source.reads < 2 ^ 63
  pub ends : source.ends < 2 ^ 63
  pub failed_reads : source.failed_reads < 2 ^ 63
  pub failed_writes : sink.failed_writes < 2 ^ 63
