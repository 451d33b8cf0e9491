-- The text after the mark is the text without one, and both are short enough.
use Rattle.std.proofs.Common.{ap}
use Rattle.csvw_meta.specs.Document.{schemas_of_value}
use Rattle.csvw_meta.proofs.DocumentLemmas.{document-mark}
use Rattle.csvw_meta.proofs.laws.mark_is_dropped.Goals as goal

pub returns : goal.returns
returns c limits bytes unmarked room = ap (schemas_of_value limits) (document-mark bytes unmarked room)
