-- The pauses after loads that fail.
use Rattle.std.specs.Prelude.{◌≡◌}
use Rattle.odata_listen.specs.Watch.{next_pause}

-- after `failures` failures in a row a load is tried again after this many seconds
pub record WorkedPauses : Type 0 where
  pub first : next_pause 0 ≡ 1
  pub second : next_pause 1 ≡ 2
  pub third : next_pause 2 ≡ 4
  pub later : next_pause 32 ≡ 60
  pub last : next_pause 60 ≡ 60
