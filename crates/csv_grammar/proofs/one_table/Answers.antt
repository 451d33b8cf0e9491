-- The header and the rows are the one list of records of the text.
use Rattle.std.proofs.Common.{◌∷◌}
use Rattle.csv_grammar.specs.Files.{text_of}
use Rattle.csv_grammar.proofs.Viable.{records_unique}
use Rattle.csv_grammar.proofs.one_table.Goals as goal

pub returns : goal.returns
returns c bytes header other rows others is also =
    let same = records_unique (text_of bytes) (header ∷ rows) (other ∷ others) is.are also.are in
    (cc, cc)
