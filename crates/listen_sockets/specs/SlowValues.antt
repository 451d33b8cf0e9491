-- What is due, worked out by hand.
use Rattle.std.specs.Prelude.{◌≡◌, ℕ, Bool, true, false, Option, Some, None}
use Rattle.listen_sockets.specs.declared.slow.Due.{Due}
use Rattle.listen_sockets.specs.declared.slow.Due.TheVariants.{Nothing, Drop, TooLong}
use Rattle.listen_sockets.specs.declared.slow.TimeLimits.{TimeLimits}
use Rattle.listen_sockets.specs.declared.slow.Seen.{Seen}
use Rattle.listen_sockets.specs.declared.slow.Taking.{Taking}
use Rattle.listen_sockets.specs.declared.slow.Times.{Times}
use Rattle.listen_sockets.specs.Slow.{due_of, is_heavy, times_after_write}

-- 30 seconds for a head, 60 without a step, `query` for a query, and an hour for a reply
abbrev pub limits_of : ℕ → TimeLimits
limits_of query = record { head = 30; idle = 60; query = query; reply = 3_600 }

-- a connection at work
abbrev pub at_work : Bool → Seen
at_work crowded = record { crowded = crowded; awake = true; waits = true }

-- it got on in second 1,000, when `micros` microseconds had been worked for it
abbrev pub spent : ℕ → Times
spent micros = record { active = 1_000; head = None; taking = None; spent = micros }

-- a reply of which the first bytes were taken in one second, and `bytes` bytes in the minute that began in another
abbrev pub taking_of : ℕ → ℕ → ℕ → Times
taking_of began minute bytes = record (spent 0) { taking = Some (record { began = began; minute = minute; bytes = bytes; little = false }) }

pub record SlowValues : Type 0 where
  -- 30 seconds of work are too long, a microsecond less is not, and no limit is 0
  pub worked : due_of (limits_of 30) (at_work false) 1_000 (spent 30_000_000) ≡ TooLong
  pub worked_less : due_of (limits_of 30) (at_work false) 1_000 (spent 29_999_999) ≡ Nothing
  pub unlimited : due_of (limits_of 0) (at_work false) 1_000 (spent 99_000_000_000) ≡ Nothing
  -- 59,999 bytes in a minute are too few where another waits, and there alone; 60,000 are enough; and a minute that is not over tells nothing
  pub little : due_of (limits_of 30) (at_work true) 1_000 (taking_of 900 940 59_999) ≡ Drop
  pub alone : due_of (limits_of 30) (at_work false) 1_000 (taking_of 900 940 59_999) ≡ Nothing
  pub enough : due_of (limits_of 30) (at_work true) 1_000 (taking_of 900 940 60_000) ≡ Nothing
  pub early : due_of (limits_of 30) (at_work true) 1_000 (taking_of 900 941 0) ≡ Nothing
  -- the last minute tells once more bytes come
  pub later : due_of (limits_of 30) (at_work true) 1_000 (times_after_write 1_000 9_999_999 true (taking_of 900 940 59_999)) ≡ Drop
  -- a reply of an hour is too long, however fast it is taken; and once it was all taken, all begins anew
  pub hour : due_of (limits_of 30) (at_work false) 4_500 (taking_of 900 4_490 9_999_999) ≡ Drop
  pub all : times_after_write 1_000 1 false (taking_of 900 940 59_999) ≡ spent 0
  -- from 200 microseconds on others go first
  pub heavy : is_heavy (spent 200) ≡ true
  pub light : is_heavy (spent 199) ≡ false
