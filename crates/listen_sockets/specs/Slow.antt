-- How long a peer and its query may take.
use Rattle.std.specs.Prelude.{◌≡◌, ℕ, ◌+◌, ◌*◌, ◌-◌, ◌==◌, ◌^◌, ◌||◌, ◌&&◌, Bool, true, false, not, Option, Some, None, min, nat_le, nat_lt, if◌then◌else◌}
use Rattle.listen_sockets.specs.declared.slow.Due.{Due}
use Rattle.listen_sockets.specs.declared.slow.Due.TheVariants.{Nothing, End, Drop, TooLong}
use Rattle.listen_sockets.specs.declared.slow.TimeLimits.{TimeLimits}
use Rattle.listen_sockets.specs.declared.slow.Seen.{Seen}
use Rattle.listen_sockets.specs.declared.slow.Taking.{Taking}
use Rattle.listen_sockets.specs.declared.slow.Times.{Times}

-- `seconds` seconds passed since a time
abbrev pub has_passed : ℕ → ℕ → ℕ → Bool
has_passed seconds since now = nat_le seconds (now - since)

-- ---- queries and replies

-- the service worked for a query for as many seconds as it may; no limit is 0
abbrev pub works_too_long : ℕ → ℕ → Bool
works_too_long seconds spent = not (seconds == 0) && nat_le (seconds * 1_000_000) spent

-- how many seconds a rate is looked at, and the fewest bytes that a peer takes in them: 1 KB a second
abbrev pub rate_seconds : ℕ
rate_seconds = 60

abbrev pub rate_bytes : ℕ
rate_bytes = 60_000

-- a peer took too few bytes in a minute
abbrev pub takes_little : ℕ → Taking → Bool
takes_little now taking = taking.little || (has_passed rate_seconds taking.minute now && nat_lt taking.bytes rate_bytes)

-- a reply takes longer than one may; or its peer takes little, while another waits for its place
abbrev pub is_slow_taking : TimeLimits → Bool → ℕ → Option Taking → Bool
is_slow_taking limits crowded now None = false
is_slow_taking limits crowded now (Some taking) = has_passed limits.reply taking.began now || (crowded && takes_little now taking)

-- ---- what is due

-- a connection that stood still for too long is dropped
abbrev pub still_due : TimeLimits → ℕ → Times → Due
still_due limits now times = if has_passed limits.idle times.active now then Drop else Nothing

-- a head that took too long ends its stream, where no output waits for the socket
abbrev pub due_by : TimeLimits → Bool → ℕ → Times → Option ℕ → Due
due_by limits false now times (Some began) = if has_passed limits.head began now then End else Nothing
due_by limits true now times (Some began) = still_due limits now times
due_by limits waits now times None = still_due limits now times

-- while something came that was not looked at, nothing stands still
abbrev pub due_asleep : TimeLimits → Bool → Bool → ℕ → Times → Due
due_asleep limits true waits now times = Nothing
due_asleep limits false waits now times = due_by limits waits now times times.head

abbrev pub due_of : TimeLimits → Seen → ℕ → Times → Due
due_of limits seen now times =
    if works_too_long limits.query times.spent then TooLong
    else (if seen.waits && is_slow_taking limits seen.crowded now times.taking then Drop else due_asleep limits seen.awake seen.waits now times)

-- what is due of a connection with these times; nothing where there is none
abbrev pub due_where : TimeLimits → Seen → ℕ → Option Times → Due
due_where limits seen now None = Nothing
due_where limits seen now (Some times) = due_of limits seen now times

-- ---- what becomes of the times

abbrev pub fresh_times : ℕ → Times
fresh_times now = record { active = now; head = None; taking = None; spent = 0 }

-- the first bytes of a head tell when it began; later ones change nothing
abbrev pub head_since : Option ℕ → ℕ → Option ℕ
head_since None now = Some now
head_since (Some began) now = Some began

abbrev pub times_after_read : Times → ℕ → Times
times_after_read times now = record times { head = head_since times.head now }

-- the first bytes of a reply were taken; and more of them, which begin a minute where the last one is over
abbrev pub first_taken : ℕ → ℕ → Taking
first_taken now count = record { began = now; minute = now; bytes = count; little = false }

abbrev pub more_taken : ℕ → ℕ → Taking → Taking
more_taken now count taking =
    if has_passed rate_seconds taking.minute now then record taking { minute = now; bytes = count; little = nat_lt taking.bytes rate_bytes }
    else record taking { bytes = min (taking.bytes + count) (2 ^ 64 - 1) }

abbrev pub taken_by : ℕ → ℕ → Option Taking → Taking
taken_by now count None = first_taken now count
taken_by now count (Some taking) = more_taken now count taking

-- bytes were written: where no more of the reply waits, the next begins anew, and so does what the service works for it
abbrev pub times_after_write : ℕ → ℕ → Bool → Times → Times
times_after_write now count false times = record times { active = now; taking = None; spent = 0 }
times_after_write now count true times = record times { active = now; taking = Some (taken_by now count times.taking) }

-- a head was whole: the next begins with the next bytes
abbrev pub times_after_turn : ℕ → Times → Times
times_after_turn now times = record times { active = now; head = None }

abbrev pub times_after_charge : ℕ → Times → Times
times_after_charge micros times = record times { spent = min (times.spent + micros) (2 ^ 64 - 1) }

-- the service worked so long for a connection that others go before it
abbrev pub is_heavy : Times → Bool
is_heavy times = nat_le 200 times.spent
