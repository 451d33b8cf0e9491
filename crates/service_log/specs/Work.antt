-- What the service did since the last line of a minute.
use Rattle.std.specs.Prelude.{ℕ, ◌+◌, ◌-◌, ◌^◌, ◌==◌, Bool, min, max, if◌then◌else◌}
use Rattle.service_log.specs.declared.work.Work.{Work}

-- the greatest number that is counted
abbrev pub most_counted : ℕ
most_counted = 2 ^ 64 - 1

abbrev pub no_work : Work
no_work = record { requests = 0; bytes = 0; turn = 0; longest = 0 }

-- `micros` microseconds more were worked in the turn that goes on
abbrev pub work_after_charge : ℕ → Work → Work
work_after_charge micros work = record work { turn = min (work.turn + micros) most_counted }

-- Bytes of a reply were sent. Where no more of it waits, its request is answered.
abbrev pub work_after_send : ℕ → Bool → Work → Work
work_after_send count waits work =
    if count == 0 then work
    else record work { bytes = min (work.bytes + count) most_counted; requests = if waits then work.requests else min (work.requests + 1) most_counted }

-- the turn is over, and the next begins with nothing
abbrev pub work_after_turn : Work → Work
work_after_turn work = record work { turn = 0; longest = max work.longest work.turn }

-- the next minute begins with nothing; a turn goes on
abbrev pub work_after_minute : Work → Work
work_after_minute work = record work { requests = 0; bytes = 0; longest = 0 }
