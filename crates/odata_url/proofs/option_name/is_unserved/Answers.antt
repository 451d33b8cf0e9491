use Rattle.odata_url.specs.OptionName.{is_unserved}
use Rattle.odata_url.proofs.OptionNameLemmas.{bytes_eq-other}
use Rattle.odata_url.proofs.option_name.is_unserved.Goals as goal

pub returns-in_default : goal.returns-in_default
unfolding is_unserved
returns-in_default c = rw (
  bytes_eq-other c.in_default.not-expand,
  bytes_eq-other c.in_default.not-search,
  bytes_eq-other c.in_default.not-compute,
  bytes_eq-other c.in_default.not-levels,
  bytes_eq-other c.in_default.not-skiptoken,
  bytes_eq-other c.in_default.not-deltatoken,
  bytes_eq-other c.in_default.not-schemaversion,
  bytes_eq-other c.in_default.not-id,
  bytes_eq-other c.in_default.not-index,
)
