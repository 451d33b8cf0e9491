use Rattle.std.proofs.Common.{arith}
use Rattle.std.proofs.lemmas.Str.Pattern.{strip_suffix_char}
use Rattle.odata_request.proofs.PathLemmas.{front_of_end}
use Rattle.odata_request.proofs.resource.without_end.Goals as goal

pub returns : goal.returns
returns c = front_of_end c.args.text.now c.strip_suffix.result (strip_suffix_char 41 c.args.text.now c.strip_suffix.result c.strip_suffix.ensures.cases (omega arith))
