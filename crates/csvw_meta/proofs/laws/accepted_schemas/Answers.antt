-- Each condition that is met says a part of it.
use Rattle.csvw_meta.proofs.LawLemmas.{schemas-accepted}
use Rattle.csvw_meta.proofs.laws.accepted_schemas.Goals as goal

pub returns : goal.returns
returns c = schemas-accepted
