-- The numbers of the program: how often a stream is read at most, how many places the hub of a script has, and the exit statuses.
use Rattle.std.specs.Prelude.{◌≡◌}
use Rattle.exit_statuses.specs.declared.status.TheConstants.{DONE}
use Rattle.exit_statuses.specs.declared.text.TheConstants.{REFUSED, USAGE, DEVICE, MEMORY}
use Rattle.exit_statuses.specs.declared.fault.TheConstants.{MAX_READS}
use Rattle.hub_scripts.specs.declared.replay.TheConstants.{PLACES}

pub record ServeSizes : Type 0 where
  pub reads : MAX_READS ≡ 1_048_576
  pub places : PLACES ≡ 64
  pub done : DONE ≡ 0
  pub refused : REFUSED ≡ 1
  pub usage : USAGE ≡ 2
  pub device : DEVICE ≡ 3
  pub memory : MEMORY ≡ 4
