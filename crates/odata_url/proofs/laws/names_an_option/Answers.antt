use Rattle.std.proofs.Common.{⊎_elim}
use Rattle.odata_url.proofs.OptionNameLemmas.{option_of_name-plain, option_of_name-dollar, name_of_option}
use Rattle.odata_url.proofs.laws.names_an_option.Goals as goal

pub returns : goal.returns
returns c name option = (name_of_option name option, ⊎_elim (option_of_name-plain name option) (option_of_name-dollar name option))
