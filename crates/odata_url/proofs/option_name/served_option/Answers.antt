use Rattle.odata_url.specs.OptionName.{served_option}
use Rattle.odata_url.proofs.OptionNameLemmas.{bytes_eq-other}
use Rattle.odata_url.proofs.option_name.served_option.Goals as goal

pub returns-in_default : goal.returns-in_default
unfolding served_option
returns-in_default c = rw (
  bytes_eq-other c.in_default.not-apply,
  bytes_eq-other c.in_default.not-filter,
  bytes_eq-other c.in_default.not-count,
  bytes_eq-other c.in_default.not-orderby,
  bytes_eq-other c.in_default.not-skip,
  bytes_eq-other c.in_default.not-top,
  bytes_eq-other c.in_default.not-select,
  bytes_eq-other c.in_default.not-format,
)
