use Rattle.cell_types.proofs.DecimalLemmas.{decimal_of-only}
use Rattle.cell_types.proofs.DecimalTexts.{decimal_of-text}
use Rattle.cell_types.proofs.laws.decimals_read_back.Goals as goal

pub returns : goal.returns
returns c = record { back = decimal_of-text; only = decimal_of-only }
