-- The header is the first fields.
use Rattle.std.proofs.Common.{◌∙◌}
use Rattle.csv_grammar.proofs.ListLaws.{slice_get-take}
use Rattle.csv_index.specs.Index.{raws}
use Rattle.csv_index.proofs.index.Index.header.Goals as goal

pub returns : goal.returns
returns c = slice_get-take c.args.self.now.width (raws c.args.self.now c.args.bytes.now) c.args.col c.requires.col ∙ c.field.ensures
