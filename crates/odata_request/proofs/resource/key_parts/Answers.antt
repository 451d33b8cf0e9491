use Rattle.std.proofs.Common.{arith}
use Rattle.std.proofs.lemmas.Str.Pattern.{split_once_first}
use Rattle.odata_request.proofs.PathLemmas.{parts_of_key}
use Rattle.odata_request.proofs.resource.key_parts.Goals as goal

pub returns : goal.returns
returns c = parts_of_key c.args.segment.now c.split_once.result (split_once_first 40 c.args.segment.now c.split_once.result c.split_once.ensures.cases (omega arith))
