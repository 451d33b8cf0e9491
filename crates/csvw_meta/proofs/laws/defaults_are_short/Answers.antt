-- Each level of accepted metadata is of its form, and the nearest one gives the default.
use Rattle.csvw_meta.proofs.DefaultLemmas.{defaults-short}
use Rattle.csvw_meta.proofs.laws.defaults_are_short.Goals as goal

pub returns : goal.returns
returns c = defaults-short
