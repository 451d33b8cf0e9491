-- One pattern at most is the format.
use Rattle.datatype_texts.proofs.FormLemmas.{date_form-is}
use Rattle.datatype_texts.proofs.format.date_form.Goals as goal

pub returns : goal.returns
returns c = date_form-is c.args.format.now c.of_pattern.result c.of_pattern.ensures
