-- The conditions on each level are among those of its metadata.
use Rattle.csvw_meta.proofs.LevelLemmas.{text-levels}
use Rattle.csvw_meta.proofs.laws.levels_are_of_form.Goals as goal

pub returns : goal.returns
returns c = text-levels
