use lib.Utf8.{encode}
use Rattle.odata_url.proofs.OptionNameLemmas.{without_dollar-none}
use Rattle.odata_url.proofs.option_name.without_dollar.Goals as goal

pub returns-in-None : goal.returns-in-None
unfolding encode
returns-in-None c = without_dollar-none c.args.name.now c.in-None.ensures.cases
